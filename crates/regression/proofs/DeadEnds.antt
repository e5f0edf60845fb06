-- Dead ends by a test of the chosen steps L: no normal plan has them as its last ones, where the test fails.
-- Assumes nothing.
use Prim.Native.Nat.{ℕ, ◌<◌, ◌≤◌}
use mathlib.Core.Path.{◌≡◌}
use mathlib.Core.Bool.{true, false}
use mathlib.Core.List.{List, ◌++◌}
use native.Mathlib.Omega.{arith}
use lib.ListN.{length, get_or}
use Rattle.facts.specs.FactSet.{Subset}
use Rattle.job.specs.Resources.{store_cap}
use Rattle.job.specs.Job.{Job}
use Rattle.timeline.specs.Step.{Step, any_pair}
use Rattle.timeline.specs.From.{From, IsNew}
use Rattle.timeline.specs.Timeline.{held, in_use, used_up}
use Rattle.timeline.specs.Accepted.{clashing}
use Rattle.timeline.specs.Places.{Place, EachStep}
use Rattle.timeline.proofs.Tests.{not_both}
use Rattle.timeline.proofs.Places.{place_after}
use Rattle.timeline.proofs.Parts.{part_right, part_in_use, part_used_up, part_length, part_no_clash}
use Rattle.regression.specs.Normal.{blocked}
use Rattle.regression.specs.Tests.{solely_provides, deletes_wanted, running_needs}
use Rattle.regression.specs.DeadEnd.{NormalPlan, Until, Dead}
use Rattle.regression.proofs.Tail.{StopBy}
use Rattle.regression.proofs.TailTests.{critical_solely_provides, blocked_by_tail, deletes_nothing_wanted}
use Rattle.regression.proofs.TailTests.{running_needs_hold}

module _ (J : Job) (b : From) (goal T : ℕ) where
  -- with fewer steps left to choose it is a dead end all the more
  pub dead_weaker : (X Y : Step → Type 0) (L : List Step) → ((x : Step) → Y x → X x) → Dead J b goal T X L
      → Dead J b goal T Y L
  dead_weaker X Y L f dead E h = dead E (λ x Q i. f x (h x Q i))

  -- ---- of the chosen steps alone, whatever the others are
  module _ (X : Step → Type 0) (L : List Step) where
    pub dead_when_clashing : any_pair clashing L ≡ true → Dead J b goal T X L
    dead_when_clashing fails E h p = not_both fails (part_no_clash (part_right E L) p.plan.keeps.no_clash)

    pub dead_when_pool_exceeded : (pool m : ℕ) → pool < length J.pools → get_or J.pools pool 0 < in_use J pool m L
        → Dead J b goal T X L
    dead_when_pool_exceeded pool m l exceeds E h p =
        let within = p.plan.keeps.pools pool m l in
        let less = part_in_use J pool m (part_right E L) in
        omega arith

    pub dead_when_store_exceeded : (store : ℕ) → store < length J.stores → store_cap J store < used_up J store L
        → Dead J b goal T X L
    dead_when_store_exceeded store l exceeds E h p =
        let within = p.plan.keeps.stores store l in
        let less = part_used_up J store (part_right E L) in
        omega arith

    pub dead_when_too_many : 32 < length L → Dead J b goal T X L
    dead_when_too_many many E h p =
        let few = p.few_steps in
        let less = part_length (part_right E L) in
        omega arith

  -- ---- of a chosen step that stops at t or later, where the others stop by t
  until_stops : (t : ℕ) (E : List Step) → EachStep (Until b t) E → StopBy t E
  until_stops t E h x Q i = (h x Q i).2

  module _ (t : ℕ) (L : List Step) {x : Step} {Q : List Step} (i : Place x Q L) (after : t ≤ x.stop) where
    pub dead_when_not_sole_provider : IsNew b x → solely_provides goal T L x ≡ false → Dead J b goal T (Until b t) L
    dead_when_not_sole_provider new fails E h p =
        let in_plan = place_after E i in
        not_both
        (critical_solely_provides J goal T E L p.plan.keeps t (until_stops t E h) in_plan after
        (p.critical_facts x _ in_plan new))
        fails

    pub dead_when_not_blocked : IsNew b x → blocked J T L x ≡ false → Dead J b goal T (Until b t) L
    dead_when_not_blocked new fails E h p =
        not_both
        (blocked_by_tail J goal T E L p.plan.keeps t (until_stops t E h) x after
        (p.blocked_steps x _ (place_after E i) new))
        fails

    pub dead_when_wanted_deleted : deletes_wanted goal T L x ≡ true → Dead J b goal T (Until b t) L
    dead_when_wanted_deleted fails E h p =
        let in_plan = place_after E i in
        not_both fails
        (deletes_nothing_wanted J goal T E L p.plan.keeps t (until_stops t E h) in_plan after
        (p.effects x _ in_plan))

  -- ---- of what must hold: by a bound on the minutes, from that of b on, at which the facts of a set can hold together
  -- in a normal plan with the steps L and else new ones
  abbrev pub Bounds : List Step → (ℕ → ℕ → Type 0) → Type 0
  Bounds L bound =
      (E : List Step) → EachStep (IsNew b) E → NormalPlan J b goal T (E ++ L) → (set m : ℕ) → b.minute ≤ m
      → Subset set (held J.start (E ++ L) m) → bound set m

  module _ (L : List Step) (bound : ℕ → ℕ → Type 0) (bounds : Bounds L bound) where
    pub dead_when_running_too_early : (t m : ℕ) → b.minute ≤ m → (bound (running_needs m L) m → ⊥)
        → Dead J b goal T (Until b t) L
    dead_when_running_too_early t m after early E h p =
        early (bounds E (λ x Q i. (h x Q i).0) p (running_needs m L) m after
        (running_needs_hold J goal T E L p.plan.keeps m))
