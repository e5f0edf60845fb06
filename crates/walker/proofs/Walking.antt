-- The walk over the listed plans that begin with some steps, place by place.
-- Assumes nothing.
use Rattle.std.specs.Prelude.{Option, Some, None, is_some}
use Prim.Native.Nat.{ℕ, suc, ◌+◌, ◌-◌, ◌*◌, ◌/◌, ◌%◌, ◌<◌, ◌≤◌}
use mathlib.Core.Path.{◌≡◌, refl, sym, ap, ap₂, ◌∙◌, subst}
use mathlib.Core.Bool.{true, false}
use mathlib.Core.Logic.{◌⊎◌, inl, inr, ⊎_elim}
use mathlib.Core.List.{List, [], ◌∷◌, ◌++◌, append-nil}
use native.Mathlib.Nat.{div-add-mod, mod-lt}
use native.Mathlib.Omega.{arith}
use lib.ListN.{length, get_or, length-append}
use lib.Seq.{get_or-set_same, get_or-set_other, append_snoc}
use Rattle.lists.proofs.Tabulate.{tabulate_snoc, tabulate_same}
use Rattle.facts.specs.FactSet.{has, subset, Subset}
use Rattle.facts.proofs.Membership.{subset_decides}
use Rattle.job.specs.Job.{Job}
use Rattle.timeline.specs.Step.{Step, step_of, before, strictly_rising}
use Rattle.timeline.specs.Timeline.{held}
use Rattle.timeline.specs.Places.{Place, here, EachStep}
use Rattle.timeline.proofs.Tests.{not_both, trichotomy}
use Rattle.timeline.proofs.Places.{append_cases, place_after, each_cons, each_step}
use Rattle.timeline.proofs.Permutations.{permutation_held, permutation_each}
use Rattle.timeline.proofs.Rising.{before_reads, before_when}
use Rattle.timeline.specs.Keeps.{Keeps, PlanOf}
use Rattle.states.proofs.Chosen.{chosen_pushed, known_pushed, starts_pushed}
use Rattle.begun.proofs.HeldInRest.{held_by_kept}
use Rattle.tables.specs.Tables.{DescribesAction, chosen, pushed, needs_at}
use Rattle.tables.specs.declared.Frame.{Frame}
use Rattle.tables.specs.declared.Steps.{Steps}
use Rattle.times.specs.Earliest.{action_of}
use Rattle.leaf.specs.Order.{placed, in_order}
use Rattle.leaf.proofs.InOrder.{in_order_permutes, each_chosen}
use Rattle.listing.specs.Listed.{Listed, comes_first}
use Rattle.listing.specs.Place.{first, ListOf}
use Rattle.listing.specs.Begins.{Begins, GoesOn, place_of, Earlier, FoundAt}
use Rattle.listing.proofs.Order.{first_irreflexive}
use Rattle.listing.proofs.Lists.{list_of_none, list_of_one}
use Rattle.listing.proofs.Walk.{listed_known, list_of_begins}
use Rattle.listing.proofs.Found.{found_itself}
use Rattle.leaf.specs.declared.Answer.{Answer}
use Rattle.listing.proofs.Exists.{none_behind_32}
use Rattle.listing.proofs.ListedPlans.{listed_by_steps}
use Rattle.listing.proofs.RisingParts.{rising_after, rising_joined}
use Rattle.listing.proofs.NextStep.{held_by_first_steps, stop_later, next_step_applies}
use Rattle.listing.proofs.CriticalExactly.{AllCritical}
use Rattle.listing.proofs.Tails.{critical_in_time}
use Rattle.listing.proofs.Ranks.{none_before_place, none_before_first, list_of_next_place, found_behind_place}
use Rattle.listing.proofs.Ranks.{list_of_all_places}
use Rattle.walker.specs.declared.walk.Walk.{Walk}
use Rattle.walker.specs.Walk.{HeldAt, AskedOf, DayOf, Kept, Rising, RightBehind, EndsWith, NeedsAllow}
use Rattle.walker.specs.Walk.{NoUse, Tells, Walked, none_left}
use Rattle.tails.specs.Tails.{TailTable}
use Rattle.walker.proofs.TailLaws.{tails_of_table}

-- ---- the steps themselves
module _ (J : Job) (goal T : ℕ) (k : List Step) where
  abbrev Own : List Step → Type 0
  Own P = P ≡ k

  pub own_not_listed : (r : Walk) → r.answer ≡ None → (Listed J goal k → ⊥) → Walked J goal T Own r.left r
  own_not_listed r e none =
      record {
        found = λ a f. cc;
        none = λ f.
            ([], list_of_none J goal Own (λ P listed same. none (subst (Listed J goal) same listed)), omega arith);
      }

  pub own_found : (r : Walk) (told : Answer) → r.answer ≡ Some told → Listed J goal k → Tells J goal T told k
      → (left : ℕ) → left ≡ 0 → Walked J goal T Own left r
  own_found r told e listed tells left z =
      record {
        found = λ a f. (
          k,
          record {
            listed = listed;
            among = refl;
            earlier = [];
            those = list_of_none J goal (λ R. Own R × (comes_first R k ≡ true))
                (λ R other h.
                first_irreflexive k (subst (λ (Q : List Step). comes_first Q k ≡ true) h.0 h.1));
            count = sym z;
          },
          (let same : told ≡ a = cc in subst (λ (x : Answer). Tells J goal T x k) same tells),
        );
        none = λ f. cc;
      }

  pub own_passed : (r : Walk) → Listed J goal k → r.answer ≡ None → (left : ℕ) → r.left + 1 ≡ left
      → Walked J goal T Own left r
  own_passed r listed e left l =
      record {
        found = λ a f. cc;
        none = λ f. (k ∷ [], list_of_one J goal k listed, omega arith);
      }

  -- a plan found as the steps themselves is found among those that begin with them
  pub begins_when_own : (left : ℕ) (P : List Step) → FoundAt J goal Own left P → FoundAt J goal (Begins k) left P
  begins_when_own left P found = go found.earlier found.those found.count
    where
      go : (L : List (List Step)) → ListOf J goal (λ R. Own R × (comes_first R P ≡ true)) L → length L ≡ left
          → FoundAt J goal (Begins k) left P
      go [] l e =
          subst (λ (n : ℕ). FoundAt J goal (Begins k) n P) e
          (subst (FoundAt J goal (Begins k) 0) (sym found.among)
          (found_itself J goal k (subst (Listed J goal) found.among found.listed)))
      go (R ∷ L) l e =
          let h = (l.only R first).1 in
          absurd
          (first_irreflexive P
          (subst (λ (Q : List Step). comes_first Q P ≡ true) (h.0 ∙ sym found.among) h.1))

-- ---- place by place
-- the listed plans among the steps k themselves and those that go on before a place, and the places then left
pub record Met (J : Job) (goal : ℕ) (k : List Step) (place left now : ℕ) : Type 0 where
  pub own : List (List Step)
  pub of_own : ListOf J goal (λ P. P ≡ k) own
  pub more : List (List Step)
  pub of_more : ListOf J goal (GoesOn k (Earlier place)) more
  pub count : length own + length more + now ≡ left

module _ (J : Job) (file : List ℕ) (frame : Frame) (asked : AskedOf J file frame) (k : List Step) where
  abbrev goal : ℕ
  goal = frame.goal

  abbrev T : ℕ
  T = frame.horizon

  few_actions_lem : length J.actions ≤ 64
  few_actions_lem = asked.passed.few_actions

  module _ (left : ℕ) where
    pub met_first : (A : List (List Step)) → ListOf J goal (λ P. P ≡ k) A → (now : ℕ) → length A + now ≡ left
        → (place : ℕ) → ListOf J goal (GoesOn k (Earlier place)) [] → Met J goal k place left now
    met_first A a now e place none =
        record { own = A; of_own = a; more = []; of_more = none; count = omega arith }

    module _ (place now : ℕ) (met : Met J goal k place left now) where
      abbrev Behind : List Step → Type 0
      Behind = Begins (k ++ (step_of J (place % 64) (place / 64) ∷ []))

      pub met_next : (B : List (List Step)) → ListOf J goal Behind B → (then : ℕ) → length B + then ≡ now
          → Met J goal k (place + 1) left then
      met_next B b then e =
          let z : suc place ≡ place + 1 = omega arith in
          let l = length-append met.more B in
          let c = met.count in
          record {
            own = met.own;
            of_own = met.of_own;
            more = met.more ++ B;
            of_more = rw (← z) (list_of_next_place J goal few_actions_lem k place met.more B met.of_more b);
            count = omega arith;
          }

      pub met_found : (P : List Step) → FoundAt J goal Behind now P → FoundAt J goal (Begins k) left P
      met_found P found =
          let l = length-append met.own met.more in
          let c = met.count in
          let same : length (met.own ++ met.more) + now ≡ left = omega arith in
          subst (λ (n : ℕ). FoundAt J goal (Begins k) n P) same
          (found_behind_place J goal few_actions_lem k place met.own met.more now P met.of_own met.of_more found)

      pub met_all : T * 64 ≤ place → (A : List (List Step)) × ListOf J goal (Begins k) A × (length A + now ≡ left)
      met_all l =
          let c = met.count in
          let e = length-append met.own met.more in (
            met.own ++ met.more,
            list_of_begins J goal k met.own met.more met.of_own
                (list_of_all_places J goal few_actions_lem k T asked.passed asked.shortest place l met.more
                met.of_more),
            omega arith,
          )

    -- 32 steps: nothing goes on
    pub met_full : 32 ≤ length k → (A : List (List Step)) → ListOf J goal (λ P. P ≡ k) A → (now : ℕ)
        → length A + now ≡ left → (B : List (List Step)) × ListOf J goal (Begins k) B × (length B + now ≡ left)
    met_full long A a now e =
        let z : length (A ++ []) ≡ length A = ap (λ (L : List (List Step)). length L) (append-nil A) in (
          A ++ [],
          list_of_begins J goal k A [] a
              (list_of_none J goal (GoesOn k (λ x. Unit))
              (none_behind_32 J goal T asked.passed asked.shortest k long)),
          omega arith,
        )

-- ---- where the walk stands
-- the places of steps in rising order, up to the last one
places_up_to : (P : List Step) (x : Step) → EachStep (λ y. y.number < 64) (P ++ (x ∷ []))
    → strictly_rising (P ++ (x ∷ [])) ≡ true → EachStep (λ y. place_of y < place_of x + 1) (P ++ (x ∷ []))
places_up_to P x small rising y Q i =
    ⊎_elim
    (λ r.
    let n = small y Q i in
    ⊎_elim (λ l. omega arith) (λ l. let e = l.0 in let m = l.1 in omega arith)
    (before_reads y x (rising_after P (x ∷ []) rising x [] here y r.0 r.1)))
    (λ r.
    each_cons (λ y. place_of y < place_of x + 1) x [] (omega arith) (each_step (λ y. place_of y < place_of x + 1) [] tt) y
    r.0 r.1)
    (append_cases P (x ∷ []) i)

module _ (place : ℕ) where
  place_split : place / 64 * 64 + place % 64 ≡ place
  place_split = let d = div-add-mod place 64 in omega arith

  place_number : place % 64 < 64
  place_number = mod-lt place (omega arith)

module _ (J : Job) (frame : Frame) (actions : length J.actions ≤ 64) (same : length J.actions ≡ frame.actions)
    (steps : Steps) (kept : Kept frame steps) where
  small_numbers : EachStep (λ x. x.number < 64) (in_order J steps)
  small_numbers =
      permutation_each (λ x. x.number < 64) (in_order_permutes J steps)
      (each_chosen (λ x. x.number < 64) J steps steps.count (λ k l. let m = kept.known.known k l in omega arith))

  module _ (rising : Rising J steps) (from : ℕ) (right : RightBehind J steps from) where
    earlier_steps : EachStep (Earlier from) (in_order J steps)
    earlier_steps =
        ⊎_elim (λ n. subst (EachStep (Earlier from)) (sym n.0) (each_step (Earlier from) [] tt))
        (λ r.
        let P : List Step = r.0 in
        let x : Step = r.1 in
        let e = r.2 in
        subst (EachStep (Earlier from)) (sym e)
        (subst (λ (p : ℕ). EachStep (Earlier p) (P ++ (x ∷ []))) r.3
        (places_up_to P x (subst (EachStep (λ y. y.number < 64)) e small_numbers)
        (subst (λ (Q : List Step). strictly_rising Q ≡ true) e rising))))
        right

    -- before the place right behind them nothing goes on
    pub none_yet : (goal : ℕ) → ListOf J goal (GoesOn (in_order J steps) (Earlier from)) []
    none_yet goal =
        ⊎_elim
        (λ n.
        subst (λ (p : ℕ). ListOf J goal (GoesOn (in_order J steps) (Earlier p)) []) (sym n.1)
        (none_before_first J goal actions (in_order J steps)))
        (λ r.
        let P : List Step = r.0 in
        let x : Step = r.1 in
        let i : Place x (P ++ []) (in_order J steps)
        = subst (Place x (P ++ [])) (sym r.2) (place_after P here) in
        none_before_place J goal actions (in_order J steps) x (P ++ []) i (small_numbers x (P ++ []) i) from r.3)
        right

    module _ (place : ℕ) (after : from ≤ place) where
      abbrev x : Step
      x = step_of J (place % 64) (place / 64)

      pub rising_next : strictly_rising (in_order J steps ++ (x ∷ [])) ≡ true
      rising_next =
          rising_joined (in_order J steps) (x ∷ []) rising refl
          (each_cons (λ y. EachStep (λ w. before w y ≡ true) (in_order J steps)) x [] earlier
          (each_step (λ y. EachStep (λ w. before w y ≡ true) (in_order J steps)) [] tt))
        where
          earlier : EachStep (λ w. before w x ≡ true) (in_order J steps)
          earlier w Q i =
              let l = earlier_steps w Q i in
              let n = small_numbers w Q i in
              let s = place_split place in
              before_when w x
              (⊎_elim
              (λ e. inr (e, let z : w.start * 64 ≡ place / 64 * 64 = rw e in omega arith))
              (⊎_elim (λ b. inl b) (λ b. absurd (omega arith)))
              (trichotomy w.start (place / 64)))

-- one step more
pub kept_of_next : (frame : Frame) (steps : Steps) → Kept frame steps → steps.count < 32 → (place : ℕ)
    → place % 64 < frame.actions → place / 64 < 65536 → Kept frame (pushed steps (place % 64) (place / 64))
kept_of_next frame steps kept room place known small =
    record {
      known = known_pushed steps frame.actions (place % 64) (place / 64) kept.known room known;
      starts = starts_pushed steps frame.actions (place % 64) (place / 64) kept.known room kept.starts small;
    }

module _ (J : Job) (frame : Frame) (steps : Steps) (kept : Kept frame steps) (room : steps.count < 32)
    (place : ℕ) (known : place % 64 < frame.actions) (small : place / 64 < 65536) where
  abbrev next : Steps
  next = pushed steps (place % 64) (place / 64)

  pub in_order_next : in_order J next ≡ in_order J steps ++ (step_of J (place % 64) (place / 64) ∷ [])
  in_order_next =
      let n = steps.count in
      let a = kept.known.numbers in
      let b = kept.known.starts in
      tabulate_snoc n (placed J next)
      ∙ ap₂ (λ (P : List Step) (y : Step). P ++ (y ∷ []))
      (tabulate_same n (placed J next) (placed J steps)
      (λ i l.
      ap₂ (step_of J) (get_or-set_other steps.numbers n i (place % 64) 0 (λ e. omega arith))
      (get_or-set_other steps.starts n i (place / 64) 0 (λ e. omega arith))))
      (ap₂ (step_of J) (get_or-set_same steps.numbers n (place % 64) 0 (omega arith))
      (get_or-set_same steps.starts n (place / 64) 0 (omega arith)))

  pub right_behind_next : RightBehind J next (place + 1)
  right_behind_next =
      let s = place_split place in
      inr (in_order J steps, step_of J (place % 64) (place / 64), in_order_next, omega arith)

  pub ends_with_next : EndsWith J next (place % 64) (place / 64)
  ends_with_next = (in_order J steps, in_order_next)

  -- the new step stops later
  pub held_next : 0 < (action_of J (place % 64)).duration → (facts : ℕ) → HeldAt J steps (place / 64) facts
      → HeldAt J next ((place + 1 - 1) / 64) facts
  held_next lasts facts holds =
      let y = step_of J (place % 64) (place / 64) in
      let z : place + 1 - 1 ≡ place = omega arith in
      let later : EachStep (λ w. place / 64 < w.stop) (y ∷ [])
      = each_cons (λ w. place / 64 < w.stop) y [] (omega arith) (each_step (λ w. place / 64 < w.stop) [] tt) in
      rw z
      (holds
      ∙ sym (held_by_kept J.start (place / 64) (chosen J steps) (y ∷ []) later (place / 64) (omega arith))
      ∙ ap (λ (P : List Step). held J.start P (place / 64))
      (sym (chosen_pushed J steps frame.actions (place % 64) (place / 64) kept.known room)))

-- ---- a step with which no listed plan goes on
pub none_walked : (J : Job) (goal T : ℕ) (F : List Step → Type 0) (left : ℕ) (r : Walk) → r ≡ none_left left
    → ((P : List Step) → Listed J goal P → F P → ⊥) → Walked J goal T F left r
none_walked J goal T F left r e none =
    record {
      found = λ a f. let z = ap (λ (w : Walk). w.answer) e in cc;
      none = λ f. let same : r.left ≡ left = ap (λ (w : Walk). w.left) e in
          ([], list_of_none J goal F none, omega arith);
    }

module _ (J : Job) (file sets numbers times : List ℕ) (frame : Frame) (day : DayOf J file sets numbers times frame)
    (steps : Steps) (number start : ℕ) (P : List Step) (listed : Listed J frame.goal P)
    (begins : Begins (in_order J steps ++ (step_of J number start ∷ [])) P) where
  abbrev y : Step
  y = step_of J number start

  abbrev K : List Step
  K = in_order J steps

  abbrev N : List Step
  N = begins.0

  split : P ≡ K ++ (y ∷ N)
  split = begins.1 ∙ append_snoc K y N

  known_step : number < length J.actions
  known_step =
      listed_known J frame.goal listed y (K ++ N) (subst (Place y (K ++ N)) (sym split) (place_after K here))

  needs_hold_lem : Subset (action_of J number).needs (held J.start K start)
  needs_hold_lem =
      let T = frame.horizon in
      let by = listed_by_steps J frame.goal T day.asked.passed day.asked.shortest P listed in
      (next_step_applies J frame.goal T K y N
      (subst (λ (Q : List Step). Keeps J T frame.goal Q) split by.plan.keeps)
      (subst (λ (Q : List Step). strictly_rising Q ≡ true) split by.rising)).needs

  -- the facts that hold where y starts
  held_at_start : (facts : ℕ) → HeldAt J steps start facts → facts ≡ held J.start K start
  held_at_start facts holds = holds ∙ sym (permutation_held J.start (in_order_permutes J steps) start)

  described : DescribesAction J sets numbers number
  described =
      let a = day.task.described.actions in
      let k = known_step in
      day.task.described.each number (omega arith)

  -- y adds one that does not hold there, and that is of use by the horizon
  some_use : (tails : List ℕ) → TailTable sets numbers frame.actions frame.goal tails → (facts : ℕ)
      → HeldAt J steps start facts → NoUse sets numbers tails frame.horizon facts number start → ⊥
  some_use tails table facts holds late =
      let T = frame.horizon in
      let by = listed_by_steps J frame.goal T day.asked.passed day.asked.shortest P listed in
      let plan = subst (PlanOf J T frame.goal) split by.plan in
      let rising = subst (λ (Q : List Step). strictly_rising Q ≡ true) split by.rising in
      let all = subst (AllCritical J frame.goal T) split by.all_critical in
      let whole = held_by_first_steps J.start start K (y ∷ N)
      (stop_later J frame.goal T K y N plan.keeps rising) in
      let found = critical_in_time J frame.goal T (K ++ (y ∷ N)) plan all (λ p. get_or tails p 0)
      (tails_of_table J sets numbers frame day.task.described tails table) {y = y} {Q = K ++ N} (place_after K here) in
      let soon = found.soon in
      let lasts = described.duration in
      let over = late found.fact (rw described.adds found.adds)
      (ap (λ (set : ℕ). has set found.fact) (held_at_start facts holds ∙ sym whole) ∙ found.new) in
      omega arith

  pub none_by_needs : (tails : List ℕ) → TailTable sets numbers frame.actions frame.goal tails → (facts : ℕ)
      → NeedsAllow sets numbers tails frame.actions frame.horizon facts number start false
      → HeldAt J steps start facts → ⊥
  none_by_needs tails table facts allow holds = go (allow.none refl)
    where
      go : (frame.actions ≤ number)
          ⊎ ((subset (needs_at sets number) facts ≡ false)
          ⊎ NoUse sets numbers tails frame.horizon facts number start) → ⊥
      go (inl l) = let a = day.task.described.actions in let k = known_step in omega arith
      go (inr (inl e)) =
          not_both
          ((subset_decides (needs_at sets number) facts).complete
          (λ n h. rw (held_at_start facts holds) (needs_hold_lem n (rw described.needs at h))))
          e
      go (inr (inr late)) = some_use tails table facts holds late
