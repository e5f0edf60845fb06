-- The pooled day ends no later than the later of two accepted plans with together at most 32 steps.
-- Assumes nothing.
use Prim.Native.Nat.{ℕ, ◌+◌, ◌<◌, ◌≤◌, max}
use mathlib.Core.Path.{◌≡◌}
use mathlib.Core.List.{List, map}
use native.Mathlib.Omega.{arith}
use lib.ListN.{length, length-append, length-map}
use Rattle.job.specs.Job.{Job}
use Rattle.job.proofs.Passed.{passed}
use Rattle.timeline.specs.Step.{Step, steps_in}
use Rattle.timeline.specs.Timeline.{end}
use Rattle.timeline.specs.Accepted.{Accepted}
use Rattle.timeline.specs.Places.{EachStep}
use Rattle.timeline.proofs.AcceptedSteps.{accepted_steps}
use Rattle.timeline.proofs.JobSteps.{steps_in_bytes, steps_of_accepted, keeps_of_bytes}
use Rattle.timeline.specs.Keeps.{OfJob}
use Rattle.makespan.specs.Makespan.{ends_at, makespan}
use Rattle.makespan.proofs.LeastEnds.{ends_by_deadline}
use Rattle.pooling.specs.Pooled.{pooled}
use Rattle.pooling.proofs.PooledJob.{first_step, second_step, side_by_side, count_of_actions}
use Rattle.pooling.proofs.PooledJob.{first_own, second_own, each_side_by_side}
use Rattle.pooling.proofs.PooledPasses.{Pooling, pooled_passes}
use Rattle.pooling.proofs.SideBySide.{side_by_side_keeps}
use Rattle.pooling.proofs.Carried.{PlanBy, plan_of_keeps, makespan_by}

module _ (A B : Job) (pooling : Pooling A B) (a b : List ℕ)
    (accepted_a : Accepted A A.goal a) (accepted_b : Accepted B B.goal b)
    (few : length (steps_in A a) + length (steps_in B b) ≤ 32) where
  abbrev P : List Step
  P = steps_in A a

  abbrev Q : List Step
  Q = steps_in B b

  abbrev T : ℕ
  T = max (end P) (end Q)

  known_p : EachStep (λ x. x.number < length A.actions) P
  known_p = (accepted_steps A A.goal P (steps_of_accepted A A.goal a accepted_a)).known

  known_q : EachStep (λ x. x.number < length B.actions) Q
  known_q = (accepted_steps B B.goal Q (steps_of_accepted B B.goal b accepted_b)).known

  -- the two plans side by side are an accepted plan
  plan_side_by_side : PlanBy (pooled A B) (pooled A B).goal T
  plan_side_by_side =
      let by_a = ends_by_deadline A A.goal a accepted_a in
      let by_b = ends_by_deadline B B.goal b accepted_b in
      let own_p = steps_in_bytes A a in
      let own_q = steps_in_bytes B b in
      let count = count_of_actions A B in
      let sum = length-append (map (first_step A B) P) (map (second_step A B) Q) in
      let n = length-map P (first_step A B) in
      let m = length-map Q (second_step A B) in
      plan_of_keeps (pooled A B) (pooled A B).goal T (side_by_side A B P Q)
      (passed (pooled A B) (pooled_passes A B pooling)) (omega arith)
      (each_side_by_side A B (OfJob (pooled A B)) P Q
      (λ x R i. first_own A B x (own_p x R i) (known_p x R i))
      (λ x R i. second_own A B x (own_q x R i) (known_q x R i)))
      (each_side_by_side A B (λ x. x.number < length (pooled A B).actions) P Q
      (λ x R i. let l = known_p x R i in omega arith)
      (λ x R i. let l = known_q x R i in omega arith))
      (omega arith)
      (side_by_side_keeps A B pooling T P Q own_p known_p own_q known_q
      (keeps_of_bytes A A.goal a T (passed A pooling.valid_a) accepted_a (omega arith))
      (keeps_of_bytes B B.goal b T (passed B pooling.valid_b) accepted_b (omega arith)))

  -- "the pooled day ends no later than the later of those two"
  pub pooled_no_later : (e : ℕ) × (makespan (pooled A B) (pooled A B).goal ≡ ends_at e)
      × (e ≤ max (end (steps_in A a)) (end (steps_in B b)))
  pooled_no_later =
      makespan_by (pooled A B) (pooled A B).goal T (passed (pooled A B) (pooled_passes A B pooling))
      plan_side_by_side
