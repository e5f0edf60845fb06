-- Why an action that fails a test does not stop at the state's minute: in no normal plan with the chosen steps it does.
-- Assumes nothing.
use Prim.Native.Nat.{ℕ, suc, ◌+◌, ◌≤◌, ◌<◌}
use mathlib.Core.Path.{◌≡◌, refl, sym, ap, ap₂, ◌∙◌}
use mathlib.Core.Bool.{Bool, true, false, not, cond, ◌&&◌, true≢false, and-false}
use mathlib.Core.Logic.{⊎_elim}
use mathlib.Core.List.{List, ◌∷◌}
use native.Mathlib.Nat.{le_refl}
use native.Mathlib.Omega.{arith}
use lib.Dec.{eqb, leb, ltb}
use lib.ListN.{length, get_or}
use borrow.Author.Tests.{ltb-true, leb-true, lt-ltb, le-leb, eq-eqb, ne_eqb, eqb-true}
use Rattle.lists.proofs.Below.{below_same, below_some}
use Rattle.lists.proofs.Bools.{and_left, and_right}
use Rattle.facts.specs.FactSet.{has, union, difference, meets, single}
use Rattle.facts.proofs.Membership.{meets_some}
use Rattle.facts.proofs.SetLaws.{in_union_left, in_union_right, in_union_cases, in_difference, in_difference_parts}
use Rattle.facts.proofs.SetLaws.{not_in_both, no_common_member}
use Rattle.job.specs.Resources.{handover, store_amount, store_cap}
use Rattle.job.specs.Job.{Job}
use Rattle.timeline.specs.Step.{Step, union_of}
use Rattle.timeline.specs.From.{IsNew, FitsFrom}
use Rattle.timeline.specs.Timeline.{free, in_use, used_up, clash}
use Rattle.timeline.specs.Accepted.{clashing}
use Rattle.timeline.specs.Places.{Place, here, there, EachStep}
use Rattle.timeline.proofs.Shares.{free_is, share_reads, share_when, use_at, use_of_share, use_without_share}
use Rattle.timeline.proofs.Tests.{and_both, decided, or_neither}
use Rattle.job.specs.Valid.{over}
use Rattle.timeline.proofs.Places.{any_at}
use Rattle.timeline.proofs.Places.{any_of_none, each_cons}
use Rattle.timeline.proofs.Clashes.{overlap_when}
use Rattle.timeline.proofs.NewSteps.{fits_by, new_of_fits}
use Rattle.times.specs.Earliest.{action_of}
use Rattle.times.proofs.Singles.{only_in_single, in_single}
use Rattle.regression.specs.Wanted.{wanted_at, if_starts}
use Rattle.regression.specs.Normal.{added_beside, blocked, blocks, lacks_room}
use Rattle.regression.specs.Tests.{provided, solely_provides, deletes_wanted}
use Rattle.regression.specs.DeadEnd.{Until}
use Rattle.regression.proofs.Gathered.{in_union_of, in_union_of_from, in_cond_parts}
use Rattle.regression.proofs.WantedFacts.{wanted_from_stop_on}
use Rattle.regression.proofs.DeadEnds.{dead_when_clashing, dead_when_pool_exceeded, dead_when_store_exceeded}
use Rattle.regression.proofs.DeadEnds.{dead_when_not_sole_provider, dead_when_not_blocked}
use Rattle.regression.proofs.DeadEnds.{dead_when_wanted_deleted}
use Rattle.tables.specs.Tables.{Describes, Known, clashes, clashes_at, deletes_at, adds_at, needs_at, chosen, from_of}
use Rattle.tables.specs.declared.Frame.{Frame}
use Rattle.states.specs.declared.state.State.{State}
use Rattle.states.specs.Minutes.{runs_into}
use Rattle.states.specs.Amounts.{exceeds_pools, exceeds_stores}
use Rattle.states.specs.States.{Stands, DeadFor, next_step}
use Rattle.states.proofs.Chosen.{chosen_of_job, chosen_known}

module _ (J : Job) (sets numbers : List ℕ) (frame : Frame) (described : Describes J sets numbers frame) (st : State)
    (known_steps : Known frame.actions st.steps) (stands : Stands J frame st) (i : ℕ) (known : i < frame.actions)
    (fits : FitsFrom (from_of frame) i (action_of J i).duration st.minute) where
  abbrev t : ℕ
  t = st.minute

  abbrev L : List Step
  L = chosen J st.steps

  abbrev x : Step
  x = next_step J st i

  abbrev Result : Type 0
  Result = DeadFor J frame (Until (from_of frame) st.minute) (x ∷ L)

  first_place : Place x L (x ∷ L)
  first_place = here

  pub stops : x.stop ≡ t
  stops = let l = fits_by (from_of frame) i (action_of J i).duration t fits in omega arith

  lasts : x.start < x.stop
  lasts = let d = (described.each i known).positive in omega arith

  starts_before : x.start < t
  starts_before = let s = stops in let l = lasts in omega arith

  new : IsNew (from_of frame) x
  new = new_of_fits (from_of frame) i (action_of J i).duration t x refl stops fits

  -- what is wanted does not change with a step that stops now
  pub wanted_still : wanted_at frame.goal (x ∷ L) frame.horizon x.stop ≡ st.wanted
  wanted_still =
      let s = stops in
      ap (wanted_at frame.goal (x ∷ L) frame.horizon) stops
      ∙ wanted_from_stop_on frame.goal frame.horizon first_place lasts t (omega arith) stands.in_time
      ∙ sym stands.wants

  pub lasting : EachStep (λ y. y.start < y.stop) L
  lasting y Q p =
      let own = chosen_of_job J st.steps st.steps.count y Q p in
      let small = chosen_known J st.steps frame.actions st.steps.count known_steps (le_refl _) y Q p in
      let d = (described.each y.number small).positive in
      let stop : y.stop ≡ y.start + (action_of J y.number).duration = ap (λ (z : Step). z.stop) own in
      omega arith

  -- ---- it deletes a wanted fact
  pub barred_when_deleting : meets (deletes_at sets i) st.wanted ≡ true → Result
  unfolding deletes_wanted
  barred_when_deleting h =
      let s = stops in
      dead_when_wanted_deleted J (from_of frame) frame.goal frame.horizon t (x ∷ L) first_place (omega arith)
      (ap₂ meets (sym (described.each i known).deletes) wanted_still ∙ h)

  -- ---- it clashes with a step that runs in the minute before
  -- a step whose action is in the set of those that clash with action i
  clash_by_table : (y : Step) (Q : List Step) → Place y Q L → has (clashes_at sets i) y.number ≡ true
      → clash x y ≡ true
  clash_by_table y Q p h =
      let own = chosen_of_job J st.steps st.steps.count y Q p in
      let small = chosen_known J st.steps frame.actions st.steps.count known_steps (le_refl _) y Q p in
      let count = described.actions in
      let c : clashes J i y.number ≡ true = sym ((described.each i known).clash y.number (omega arith)) ∙ h in
      let same : y.action ≡ action_of J y.number = ap (λ (z : Step). z.action) own in
      rw same c

  in_running : (n : ℕ) → has st.at.running n ≡ true
      → (y : Step) × (Q : List Step) × Place y Q L × (runs_into t y ≡ true) × (y.number ≡ n)
  in_running n h =
      let r = in_union_of_from (λ y. cond (runs_into t y) (single y.number) 0) n L (rw stands.at.running at h) in
      let c = in_cond_parts (runs_into t r.0) (single r.0.number) n r.3 in
      (r.0, r.1, r.2, c.0, sym (only_in_single r.0.number n c.1))

  -- a step beside which it would run
  pub barred_when_clashing_while_running : (y : Step) (Q : List Step) → Place y Q L → y.start < t → x.start < y.stop
      → has (clashes_at sets i) y.number ≡ true → Result
  barred_when_clashing_while_running y Q p before after h =
      let s = stops in
      let c = clash_by_table y Q p h in
      let both : clashing x y ≡ true = and_both (overlap_when x y (omega arith) (omega arith)) c in
      dead_when_clashing J (from_of frame) frame.goal frame.horizon _ (x ∷ L) (rw (any_at (clashing x) p both))

  pub barred_when_clashing : meets (clashes_at sets i) st.at.running ≡ true → Result
  barred_when_clashing h =
      let m = meets_some (clashes_at sets i) st.at.running h in
      let r = in_running m.0 m.2 in
      let y = r.0 in
      let l = starts_before in
      let before = ltb-true y.start t (and_left (ltb y.start t) _ r.3) in
      let after = leb-true t y.stop (and_right (ltb y.start t) _ r.3) in
      barred_when_clashing_while_running y r.1 r.2 before (omega arith) (rw r.4 m.1)

  -- ---- it adds nothing that is wanted
  pub barred_when_adding_nothing_wanted : meets (adds_at sets i) st.wanted ≡ false → Result
  unfolding solely_provides
  barred_when_adding_nothing_wanted h =
      let s = stops in
      dead_when_not_sole_provider J (from_of frame) frame.goal frame.horizon t (x ∷ L) first_place
      (omega arith) new
      (no_common_member _ _
      (λ n a w.
      let parts = in_difference_parts x.action.adds (union_of (provided x) (x ∷ L)) n a in
      not_in_both (adds_at sets i) st.wanted n h (rw (described.each i known).adds parts.0)
      (rw (← wanted_still) w)))

  -- ---- another step provides what it adds
  pub not_running : meets (clashes_at sets i) st.at.running ≡ false → has st.at.running i ≡ false
  not_running h =
      let count = described.actions in
      let own : has (clashes_at sets i) i ≡ true =
      (described.each i known).clash i (omega arith) ∙ rw (eq-eqb i i refl) in
      ⊎_elim (λ e. absurd (not_in_both (clashes_at sets i) st.at.running i h own e)) (λ e. e)
      (decided (has st.at.running i))

  pub barred_when_provided : meets (clashes_at sets i) st.at.running ≡ false
      → meets (difference (adds_at sets i) (union (union st.at.held st.at.added) (needs_at sets i))) st.wanted
      ≡ false → Result
  unfolding solely_provides
  barred_when_provided apart h =
      let s = stops in
      dead_when_not_sole_provider J (from_of frame) frame.goal frame.horizon t (x ∷ L) first_place
      (omega arith) new
      (no_common_member _ _
      (λ n a w.
      let parts = in_difference_parts x.action.adds (union_of (provided x) (x ∷ L)) n a in
      not_in_both _ st.wanted n h
      (in_difference (adds_at sets i) _ n (rw (described.each i known).adds parts.0) (unprovided n parts.1))
      (rw (← wanted_still) w)))
    where
      -- what is provided is in one of the three sets
      other_number : (y : Step) (Q : List Step) → Place y Q L → runs_into t y ≡ true → y.number ≡ i → ⊥
      other_number y Q p runs e =
          true≢false
          (sym (ap (λ (set : ℕ). has set i) stands.at.running
          ∙ in_union_of (λ y. cond (runs_into t y) (single y.number) 0) i p (rw (runs, e) (in_single i)))
          ∙ not_running apart)

      in_held : (n : ℕ) → has st.at.held n ≡ true → has (union_of (provided x) (x ∷ L)) n ≡ true
      in_held n k =
          let r = in_union_of_from (λ y. cond (runs_into t y) y.action.needs 0) n L (rw stands.at.held at k) in
          let y : Step = r.0 in
          let p : Place y (x ∷ r.1) (x ∷ L) = there r.2 in
          let same = ap (λ (u : ℕ). cond (ltb y.start u && leb u y.stop) y.action.needs 0) stops in
          in_union_of (provided x) n p (in_union_right (added_beside x y) _ n (ap (λ (set : ℕ). has set n) same ∙ r.3))

      in_added : (n : ℕ) → has st.at.added n ≡ true → has (union_of (provided x) (x ∷ L)) n ≡ true
      in_added n k =
          let r = in_union_of_from (λ y. cond (eqb y.stop t) y.action.adds 0) n L (rw stands.at.added at k) in
          let y : Step = r.0 in
          let p : Place y (x ∷ r.1) (x ∷ L) = there r.2 in
          let c = in_cond_parts (eqb y.stop t) y.action.adds n r.3 in
          let stop = eqb-true y.stop t c.0 in
          let l = lasting y r.1 r.2 in
          let runs : runs_into t y ≡ true =
          and_both (lt-ltb y.start t (omega arith)) (le-leb t y.stop (omega arith)) in
          let apart = ne_eqb y.number i (other_number y r.1 r.2 runs) in
          let test : (eqb y.stop x.stop && not (eqb y.number i)) ≡ true =
          and_both (ap (eqb y.stop) stops ∙ c.0) (ap not apart) in
          in_union_of (provided x) n p
          (in_union_left (added_beside x y) _ n (ap (λ (b : Bool). has (cond b y.action.adds 0) n) test ∙ c.1))

      in_needs : (n : ℕ) → has (needs_at sets i) n ≡ true → has (union_of (provided x) (x ∷ L)) n ≡ true
      in_needs n k =
          let test : (ltb x.start x.stop && leb x.stop x.stop) ≡ true =
          and_both (lt-ltb x.start x.stop lasts) (le-leb x.stop x.stop (le_refl x.stop)) in
          in_union_of (provided x) n first_place
          (in_union_right (added_beside x x) _ n
          (ap (λ (b : Bool). has (cond b x.action.needs 0) n) test
          ∙ ap (λ (set : ℕ). has set n) (sym (described.each i known).needs) ∙ k))

      unprovided : (n : ℕ) → has (union_of (provided x) (x ∷ L)) n ≡ false
          → has (union (union st.at.held st.at.added) (needs_at sets i)) n ≡ false
      unprovided n none =
          ⊎_elim
          (λ k.
          absurd
          (true≢false
          (sym
          (⊎_elim
          (λ a. ⊎_elim (in_held n) (in_added n) (in_union_cases st.at.held st.at.added n a))
          (in_needs n)
          (in_union_cases (union st.at.held st.at.added) (needs_at sets i) n k))
          ∙ none)))
          (λ k. k)
          (decided (has (union (union st.at.held st.at.added) (needs_at sets i)) n))

  -- ---- it could stop a minute later
  module _ (no_need : meets (adds_at sets i) st.at.needed ≡ false)
      (no_clash_lem : meets (clashes_at sets i) st.at.starting ≡ false) where
    spares_own : blocks x x ≡ false
    spares_own = let l = lasts in rw (ne_eqb x.start x.stop (λ e. omega arith))

    spares : EachStep (λ y. blocks x y ≡ false) L
    spares y Q p =
        ⊎_elim
        (λ e.
        let start : y.start ≡ t = eqb-true y.start x.stop e ∙ stops in
        let clash_free : clash x y ≡ false =
        ⊎_elim
        (λ c.
        absurd
        (not_in_both (clashes_at sets i) st.at.starting y.number no_clash_lem (in_table y Q p c)
        (in_starting y Q p start)))
        (λ c. c)
        (decided (clash x y)) in
        let need_free : meets x.action.adds y.action.needs ≡ false =
        no_common_member x.action.adds y.action.needs
        (λ n a b.
        not_in_both (adds_at sets i) st.at.needed n no_need (rw (described.each i known).adds a)
        (in_needed y Q p start n b)) in
        rw (clash_free, need_free) (and-false (eqb y.start x.stop)))
        (λ e. rw e)
        (decided (eqb y.start x.stop))
      where
        in_table : (y : Step) (Q : List Step) → Place y Q L → clash x y ≡ true
            → has (clashes_at sets i) y.number ≡ true
        in_table y Q p c =
            let own = chosen_of_job J st.steps st.steps.count y Q p in
            let small = chosen_known J st.steps frame.actions st.steps.count known_steps (le_refl _) y Q p in
            let count = described.actions in
            let same : y.action ≡ action_of J y.number = ap (λ (z : Step). z.action) own in
            (described.each i known).clash y.number (omega arith) ∙ (rw same at c)

        in_starting : (y : Step) (Q : List Step) → Place y Q L → y.start ≡ t
            → has st.at.starting y.number ≡ true
        in_starting y Q p e =
            ap (λ (set : ℕ). has set y.number) stands.at.starting
            ∙ in_union_of (λ z. if_starts t (single z.number) z) y.number p
            (ap (λ (b : Bool). has (cond b (single y.number) 0) y.number) (eq-eqb y.start t e)
            ∙ in_single y.number)

        in_needed : (y : Step) (Q : List Step) → Place y Q L → y.start ≡ t → (n : ℕ) → has y.action.needs n ≡ true
            → has st.at.needed n ≡ true
        in_needed y Q p e n h =
            ap (λ (set : ℕ). has set n) stands.at.needed
            ∙ in_union_of (λ z. if_starts t z.action.needs z) n p
            (ap (λ (b : Bool). has (cond b y.action.needs 0) n) (eq-eqb y.start t e) ∙ h)

    pub barred_when_free : st.minute < frame.horizon → exceeds_pools J L i st.minute ≡ false → Result
    unfolding blocked
    barred_when_free early room =
        let s = stops in
        dead_when_not_blocked J (from_of frame) frame.goal frame.horizon t (x ∷ L) first_place (omega arith) new
        (or_neither (ne_eqb x.stop frame.horizon (λ e. omega arith))
        (or_neither
        (any_of_none (blocks x) (x ∷ L) (each_cons (λ y. blocks x y ≡ false) x L spares_own spares)) has_room))
      where
        own_share : (pool : ℕ) → use_at J pool (free J pool x) x ≡ 0
        own_share pool =
            let late = free_is J pool x in
            use_without_share J pool (free J pool x) x
            (λ h. let until = (share_reads J pool (free J pool x) x h).1 in omega arith)

        same_use : (pool : ℕ) → in_use J pool (free J pool x) (x ∷ L) ≡ in_use J pool (t + handover J pool) L
        same_use pool =
            let late = free J pool x in
            let zero_first : 0 + in_use J pool late L ≡ in_use J pool late L = omega arith in
            ap (λ (m : ℕ). m + in_use J pool late L) (own_share pool) ∙ zero_first
            ∙ ap (λ (m : ℕ). in_use J pool m L) (free_is J pool x ∙ ap (λ (s : ℕ). s + handover J pool) stops)

        has_room : lacks_room J (x ∷ L) x ≡ false
        has_room =
            below_same (length J.pools) _ _
            (λ pool l.
            ap (λ (m : ℕ). over (get_or J.pools pool 0) (m + get_or x.action.pools pool 0)) (same_use pool))
            ∙ room

  -- ---- pools and stores do not suffice
  -- in a minute in which it has its share
  pub barred_when_pool_exceeded_while_shared : (pool m : ℕ) → pool < length J.pools → x.start ≤ m
      → m < t + handover J pool → get_or J.pools pool 0 < in_use J pool m L + get_or x.action.pools pool 0 → Result
  barred_when_pool_exceeded_while_shared pool m inside after before exceeds =
      let s = stops in
      let own = use_of_share J pool m x (share_when J pool m x after (omega arith)) in
      dead_when_pool_exceeded J (from_of frame) frame.goal frame.horizon _ (x ∷ L) pool m inside (omega arith)

  -- in the last minute of its share
  pub barred_when_pools_exceeded : (m : ℕ) → suc m ≡ st.minute → exceeds_pools J L i m ≡ true → Result
  barred_when_pools_exceeded m e h =
      let r = below_some (length J.pools) _ h in
      let pool : ℕ = r.0 in
      let last = m + handover J pool in
      let over = ltb-true (get_or J.pools pool 0) (in_use J pool last L + get_or x.action.pools pool 0) r.2 in
      let l = starts_before in
      barred_when_pool_exceeded_while_shared pool last r.1 (omega arith) (omega arith) over

  pub barred_when_stores_exceeded : exceeds_stores J L i ≡ true → Result
  barred_when_stores_exceeded h =
      let r = below_some (length J.stores) _ h in
      let store : ℕ = r.0 in
      let over = ltb-true (store_cap J store) (used_up J store L + store_amount J store x.action) r.2 in
      dead_when_store_exceeded J (from_of frame) frame.goal frame.horizon _ (x ∷ L) store r.1 (omega arith)
