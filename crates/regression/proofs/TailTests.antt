-- The tests of the search, on the tail L of a plan E ++ L: why a plan whose new steps are critical and blocked passes.
-- Assumes nothing.
use Prim.Native.Nat.{ℕ, zero, suc, ◌+◌, ◌<◌, ◌≤◌, pred}
use mathlib.Core.Path.{◌≡◌, refl, sym, ap, ◌∙◌}
use mathlib.Core.Bool.{Bool, true, false, ◌&&◌, ◌||◌, or-true}
use mathlib.Core.Logic.{⊎_elim}
use mathlib.Core.List.{List, ◌++◌}
use native.Mathlib.Omega.{arith}
use lib.Dec.{eqb, leb, ltb}
use lib.ListN.{length, get_or}
use borrow.Author.Tests.{eqb-true, eqb-false, ltb-true, leb-true}
use Rattle.lists.proofs.Below.{below_same}
use Rattle.lists.specs.Lists.{any}
use Rattle.lists.proofs.Bools.{and_left, and_right}
use Rattle.facts.specs.FactSet.{has, difference, meets, Subset}
use Rattle.facts.proofs.SetLaws.{in_union_cases, in_difference, in_difference_parts, meets_common, not_in_both}
use Rattle.facts.proofs.SetLaws.{no_common_member}
use Rattle.job.specs.Job.{Job}
use Rattle.job.specs.Valid.{over}
use Rattle.timeline.specs.Step.{Step, union_of}
use Rattle.timeline.specs.Timeline.{held, free}
use Rattle.timeline.specs.Places.{Place}
use Rattle.timeline.specs.Keeps.{Keeps}
use Rattle.timeline.proofs.Tests.{decided, not_both, false_unless, or_cases}
use Rattle.timeline.proofs.Places.{place_after, split_place, any_at, find_any}
use Rattle.timeline.proofs.HeldFacts.{held_comes_from}
use Rattle.timeline.proofs.Clashes.{no_clash_of_test}
use Rattle.timeline.proofs.Shares.{free_is}
use Rattle.timeline.proofs.Persist.{keeps_needs_hold}
use Rattle.regression.specs.Wanted.{wanted_at}
use Rattle.regression.specs.Normal.{added_beside, added_alone, critical, blocks, lacks_room, blocked, touches_at}
use Rattle.regression.specs.Normal.{event_minute}
use Rattle.regression.specs.Tests.{provided, solely_provides, deletes_wanted, running_needs, must_hold}
use Rattle.regression.proofs.Gathered.{in_cond_parts, in_union_of, in_union_of_from}
use Rattle.regression.proofs.WantedFacts.{wanted_holds}
use Rattle.regression.proofs.BlockedSteps.{touches_not_before, not_blocked_when_untouched}
use Rattle.regression.proofs.Tail.{StopBy, in_tail_or_before, tail_wants, tail_in_use}

module _ (J : Job) (goal T : ℕ) (E L : List Step) (keeps : Keeps J T goal (E ++ L)) where
  -- what the tail's steps that run in minute m need holds then
  pub running_needs_hold : (m : ℕ) → Subset (running_needs m L) (held J.start (E ++ L) m)
  running_needs_hold m n h =
      let r = in_union_of_from _ n L h in
      let x = r.0 in
      let started = leb x.start m in
      let w = in_cond_parts (started && ltb m x.stop) x.action.needs n r.3 in
      keeps_needs_hold J T goal (E ++ L) keeps x _ (place_after E r.2) m
      (leb-true x.start m (and_left started _ w.0))
      (ltb-true m x.stop (and_right started _ w.0))
      n w.1

  -- what another step of the tail provides is not added by x alone
  not_provided : (x : Step) (n : ℕ) → 0 < x.stop → has (added_alone J.start (E ++ L) x) n ≡ true
      → has (union_of (provided x) L) n ≡ true → ⊥
  not_provided x n positive alone h =
      let before = held J.start (E ++ L) (pred x.stop) in
      let beside = union_of (added_beside x) (E ++ L) in
      let parts = in_difference_parts (difference x.action.adds before) beside n alone in
      let unheld = (in_difference_parts x.action.adds before n parts.0).1 in
      let r = in_union_of_from (provided x) n L h in
      let y = r.0 in
      let in_plan = place_after E r.2 in
      ⊎_elim (λ added. not_both (in_union_of (added_beside x) n in_plan added) parts.1)
      (λ needed.
      let started = ltb y.start x.stop in
      let w = in_cond_parts (started && leb x.stop y.stop) y.action.needs n needed in
      let a = ltb-true y.start x.stop (and_left started _ w.0) in
      let b = leb-true x.stop y.stop (and_right started _ w.0) in
      not_both
      (keeps_needs_hold J T goal (E ++ L) keeps y _ in_plan (pred x.stop) (omega arith) (omega arith) n w.1)
      unheld)
      (in_union_cases (added_beside x y) _ n r.3)

  module _ (t : ℕ) (stops : StopBy t E) where
    -- what must hold at a minute from t on holds then
    pub must_hold_holds : (m : ℕ) → t ≤ m → m ≤ T → Subset (must_hold goal T L m) (held J.start (E ++ L) m)
    must_hold_holds m a b n h =
        ⊎_elim
        (λ w.
        let same = tail_wants t goal T E L stops keeps.lasting m a b in
        wanted_holds J T goal (E ++ L) keeps m b n (rw same w))
        (running_needs_hold m n)
        (in_union_cases (wanted_at goal L T m) (running_needs m L) n h)

    pub critical_solely_provides : {x : Step} {Q : List Step} → Place x Q (E ++ L) → t ≤ x.stop
        → critical J goal T (E ++ L) x ≡ true → solely_provides goal T L x ≡ true
    unfolding critical solely_provides
    critical_solely_provides {x} {Q} i a h =
        let lasts = keeps.lasting x Q i in
        let before = held J.start (E ++ L) (pred x.stop) in
        let beside = union_of (added_beside x) (E ++ L) in
        let same = tail_wants t goal T E L stops keeps.lasting x.stop a (keeps.in_time x Q i) in
        meets_common (added_alone J.start (E ++ L) x) (wanted_at goal (E ++ L) T x.stop) _ _ h
        (λ n alone w.
        let adds = (in_difference_parts (difference x.action.adds before) beside n alone).0 in (
          in_difference x.action.adds (union_of (provided x) L) n
              (in_difference_parts x.action.adds before n adds).0
              (false_unless _ (not_provided x n (omega arith) alone)),
          rw same at w,
        ))

    -- the steps that start at the stop of x, or have their shares then, are in the tail
    same_room : (x : Step) → t ≤ x.stop → lacks_room J (E ++ L) x ≡ lacks_room J L x
    same_room x a =
        below_same (length J.pools) _ _
        (λ pool l.
        let f = free_is J pool x in
        ap (λ (n : ℕ). over (get_or J.pools pool 0) (n + get_or x.action.pools pool 0))
        (tail_in_use t J pool E L stops (free J pool x) (omega arith)))

    in_tail : {y : Step} {R : List Step} → Place y R (E ++ L) → t ≤ y.start → (test : Step → Bool) → test y ≡ true
        → any test L ≡ true
    in_tail {y} {R} j a test h =
        let lasts = keeps.lasting y R j in
        ⊎_elim (λ r. any_at test r.1 h) (λ before. absurd (omega arith)) (in_tail_or_before t E L stops j)

    pub blocked_by_tail : (x : Step) → t ≤ x.stop → blocked J T (E ++ L) x ≡ true → blocked J T L x ≡ true
    unfolding blocked
    blocked_by_tail x a h =
        ⊎_elim (λ e. rw e)
        (λ e.
        ap (λ (b : Bool). eqb x.stop T || b) (⊎_elim by_start by_pool (or_cases (any (blocks x) (E ++ L)) _ e))
        ∙ or-true (eqb x.stop T))
        (or_cases (eqb x.stop T) _ h)
      where
        by_start : any (blocks x) (E ++ L) ≡ true → (any (blocks x) L || lacks_room J L x) ≡ true
        by_start e =
            let r = find_any (blocks x) (E ++ L) e in
            let starts = eqb-true r.0.start x.stop (and_left _ _ r.3) in
            rw (in_tail r.2 (omega arith) (blocks x) r.3)

        by_pool : lacks_room J (E ++ L) x ≡ true → (any (blocks x) L || lacks_room J L x) ≡ true
        by_pool e = ap (λ (b : Bool). any (blocks x) L || b) (sym (same_room x a) ∙ e) ∙ or-true (any (blocks x) L)

    -- a blocked step stops at an event minute of the tail
    pub blocked_stops_at_event : {x : Step} {Q : List Step} → Place x Q (E ++ L) → t ≤ x.stop
        → blocked J T (E ++ L) x ≡ true → event_minute J T L x.stop ≡ true
    blocked_stops_at_event {x} i a h =
        ⊎_elim (λ e. rw e)
        (λ e.
        ⊎_elim
        (λ u.
        let r = find_any (touches_at J x.stop) (E ++ L) u in
        let starts = touches_not_before J x.stop r.0 r.3 in
        ap (λ (b : Bool). eqb x.stop T || b) (in_tail r.2 (omega arith) (touches_at J x.stop) r.3)
        ∙ or-true (eqb x.stop T))
        (λ u. not_both h (not_blocked_when_untouched J goal T i keeps u (eqb-false x.stop T e)))
        (decided (any (touches_at J x.stop) (E ++ L))))
        (decided (eqb x.stop T))

    pub deletes_nothing_wanted : {x : Step} {Q : List Step} → Place x Q (E ++ L) → t ≤ x.stop
        → meets x.action.adds x.action.deletes ≡ false → deletes_wanted goal T L x ≡ false
    unfolding deletes_wanted
    deletes_nothing_wanted {x} {Q} i a effects =
        no_common_member x.action.deletes (wanted_at goal L T x.stop) (at_stop_lem x.stop refl)
      where
        -- a wanted fact holds at the stop, so it is added or not deleted then
        at_stop_lem : (m : ℕ) → x.stop ≡ m → (n : ℕ) → has x.action.deletes n ≡ true
            → has (wanted_at goal L T x.stop) n ≡ true → ⊥
        at_stop_lem zero e n d w = let lasts = keeps.lasting x Q i in omega arith
        at_stop_lem (suc m) e n d w =
            let lasts = keeps.lasting x Q i in
            let in_time = keeps.in_time x Q i in
            let same = tail_wants t goal T E L stops keeps.lasting x.stop a in_time in
            let holds = wanted_holds J T goal (E ++ L) keeps x.stop in_time n (rw same w) in
            let now : has (held J.start (E ++ L) (suc m)) n ≡ true = rw e at holds in
            ⊎_elim
            (λ g.
            ⊎_elim (λ q. not_in_both x.action.adds x.action.deletes n effects (rw q at g.adds) d)
            (λ r.
            let s = g.stops in
            let g_lasts = keeps.lasting g.by g.rest g.place in
            let no_clash = no_clash_of_test (E ++ L) keeps.no_clash in
            (no_clash x Q i g.by r.0 r.1 (omega arith) (omega arith)).spares.adds n d g.adds)
            (split_place i g.place))
            (λ kept. kept.1 x Q i e d)
            (held_comes_from J.start (E ++ L) m n now)
