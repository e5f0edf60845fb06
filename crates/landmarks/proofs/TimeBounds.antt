-- Two tables that bound a begun day: that of the whole day, and that of what is left.
-- Assumes nothing.
use Prim.Native.Nat.{ℕ, ◌-◌, ◌<◌, ◌≤◌}
use mathlib.Core.Path.{ap, subst, ◌∙◌}
use mathlib.Core.Bool.{Bool, cond}
use mathlib.Core.Logic.{⊎_elim}
use mathlib.Core.List.{List, ◌++◌}
use native.Mathlib.Omega.{arith}
use lib.Dec.{ltb}
use borrow.Author.Tests.{ltb-false}
use Rattle.job.specs.Job.{Job}
use Rattle.timeline.specs.Step.{Step}
use Rattle.timeline.specs.Places.{EachStep}
use Rattle.timeline.proofs.Tests.{decided}
use Rattle.times.specs.Time.{Time, at, unreachable}
use Rattle.times.specs.Earliest.{time_of}
use Rattle.times.specs.Numbers.{table_in}
use Rattle.times.specs.Choices.{By}
use Rattle.times.proofs.Admissible.{held_set_not_before_its_time}
use Rattle.earliest.specs.Sweep.{Filled}
use Rattle.earliest.specs.Numbers.{set_number}
use Rattle.earliest.proofs.SetTimes.{number_by_set, time_of_set}
use Rattle.begun.specs.RestOfDay.{rest_of_job}
use Rattle.begun.proofs.Bounds.{rest_times_bound}
use Rattle.landmarks.specs.Bounds.{TimesBound}

-- a time that is at most a minute is reachable
reachable : (J : Job) (times : List ℕ) → Filled J times → (set m : ℕ) → By (time_of J (table_in times) set) m
    → set_number times set J.facts ≤ 530400
reachable J times filled set m by =
    ⊎_elim
    (λ late.
    absurd
    (subst (λ (t : Time). By t m)
    (time_of_set J times filled.able set
    ∙ ap (λ (b : Bool). cond b unreachable (at (set_number times set J.facts))) late)
    by))
    (λ early. ltb-false 530400 (set_number times set J.facts) early)
    (decided (ltb 530400 (set_number times set J.facts)))

pub whole_day_bounds : (J : Job) (times : List ℕ) → Filled J times → (b : ℕ) (K : List Step) → TimesBound J b K 0 times
whole_day_bounds J times filled b K T goal in_time N new plan set m after holds =
    let by = held_set_not_before_its_time J (table_in times) filled.solves T goal (N ++ K) plan set m holds in
    let n = number_by_set J times filled.able set m by in
    (omega arith, reachable J times filled set m by)

pub rest_bounds : (J : Job) (M : ℕ) (K : List Step) → EachStep (λ x. x.start < M) K → (times : List ℕ)
    → Filled (rest_of_job J M K) times → TimesBound J M K M times
rest_bounds J M K kept times filled T goal in_time N new plan set m after holds =
    let by = rest_times_bound J M T goal K kept in_time (table_in times) filled.solves set m after N new plan holds in
    let n = number_by_set (rest_of_job J M K) times filled.able set (m - M) by in
    (omega arith, reachable (rest_of_job J M K) times filled set (m - M) by)
