-- Pooling in the other order gives the same makespan.
-- Assumes nothing.
use Prim.Native.Nat.{ℕ, ◌+◌, ◌<◌}
use mathlib.Core.Path.{◌≡◌, refl, sym, ap, ◌∙◌}
use mathlib.Core.List.{List, map}
use native.Mathlib.Omega.{arith}
use lib.ListN.{length, get_or, length-map}
use Rattle.job.specs.Job.{Job}
use Rattle.job.proofs.Passed.{passed}
use Rattle.timeline.specs.Step.{Step, steps_in}
use Rattle.timeline.specs.Timeline.{end, store_use}
use Rattle.job.specs.Resources.{store_cap}
use Rattle.timeline.specs.Places.{EachStep}
use Rattle.timeline.proofs.Shares.{use_at}
use Rattle.timeline.proofs.AcceptedSteps.{accepted_steps}
use Rattle.timeline.proofs.JobSteps.{steps_in_bytes, steps_of_accepted, keeps_of_bytes}
use Rattle.timeline.specs.Keeps.{OfJob}
use Rattle.timeline.proofs.PlanBytes.{few_steps_of_accepted}
use Rattle.makespan.specs.Makespan.{makespan}
use Rattle.makespan.proofs.LeastEnds.{ends_by_deadline}
use Rattle.timeline.proofs.Places.{each_map}
use Rattle.pooling.specs.Pooled.{pooled}
use Rattle.pooling.proofs.Sums.{plus_comm}
use Rattle.pooling.proofs.PoolTests.{alike_of_test}
use Rattle.pooling.proofs.MappedSteps.{total_of_map}
use Rattle.pooling.proofs.Renamed.{renamed_keeps}
use Rattle.pooling.proofs.PooledJob.{count_of_actions}
use Rattle.pooling.proofs.PassingActions.{within_of}
use Rattle.pooling.proofs.PooledPasses.{Pooling, pooling_other_order, pooled_passes}
use Rattle.pooling.proofs.Carried.{CarriesOver, plan_of_keeps, same_makespan}
use Rattle.pooling.proofs.Exchanged.{exchanged, renumber_apart, renumber_below}
use Rattle.pooling.proofs.InOtherOrder.{in_other, united_exchanged, in_both, renames_in_other, use_in_other}
use Rattle.pooling.proofs.InOtherOrder.{store_use_in_other}

-- what may be used of a store is the same in both orders
cap_other_order : (A B : Job) → Pooling A B → (store : ℕ) → store_cap (pooled A B) store ≡ store_cap (pooled B A) store
unfolding store_cap
cap_other_order A B pooling store =
    let alike = alike_of_test A B pooling.not_unlike in
    rw (plus_comm A.stores B.stores, alike.rule, alike.reserve)

-- every accepted plan of the pooled job is one of the job pooled in the other order, renamed
carries_over : (A B : Job) → Pooling A B → CarriesOver (pooled A B) (pooled A B).goal (pooled B A) (pooled B A).goal
carries_over A B pooling bytes accepted =
    let back = pooling_other_order A B pooling in
    let a = passed A pooling.valid_a in
    let b = passed B pooling.valid_b in
    let P : List Step = steps_in (pooled A B) bytes in
    let f : Step → Step = in_other A B pooling in
    let passed_j = passed (pooled A B) (pooled_passes A B pooling) in
    let passed_w = passed (pooled B A) (pooled_passes B A back) in
    let own = steps_in_bytes (pooled A B) bytes in
    let known = (accepted_steps (pooled A B) (pooled A B).goal P
    (steps_of_accepted (pooled A B) (pooled A B).goal bytes accepted)).known in
    let by = ends_by_deadline (pooled A B) (pooled A B).goal bytes accepted in
    let few = few_steps_of_accepted (pooled A B) (pooled A B).goal bytes accepted in
    let n = length-map P f in
    let count = count_of_actions B A in
    let within : EachStep (λ x. x.number < length A.actions + length B.actions) P
    = λ x Q i. in_both A B pooling x (own x Q i) (known x Q i) in
    let keeps = keeps_of_bytes (pooled A B) (pooled A B).goal bytes (end P) passed_j accepted (omega arith) in
    plan_of_keeps (pooled B A) (pooled B A).goal (end P) (map f P) passed_w (omega arith)
    (each_map (OfJob (pooled B A)) f P (λ x Q i. refl))
    (each_map (λ x. x.number < length (pooled B A).actions) f P
    (λ x Q i.
    let l = renumber_below (length A.actions) (length B.actions) x.number (within x Q i) in
    omega arith))
    (omega arith)
    (renamed_keeps (exchanged A.facts B.facts) f (pooled A B) (pooled B A) (end P) (pooled A B).goal
    (pooled B A).goal P keeps
    (λ x Q i. renames_in_other A B pooling x (own x Q i) (known x Q i))
    (λ x Q i y R j e.
    renumber_apart (length A.actions) (length B.actions) x.number y.number (within x Q i) (within y R j) e)
    (united_exchanged A B pooling A.start B.start (within_of a.start) (within_of b.start))
    (λ m h.
    sym (united_exchanged A B pooling A.goal B.goal (within_of a.goal) (within_of b.goal) m) ∙ h)
    (λ pool t l.
    let counts = ap length (plus_comm A.pools B.pools) in
    let sum = total_of_map (use_at (pooled B A) pool t) (use_at (pooled A B) pool t) f P
    (λ x Q i. use_in_other A B pooling x (own x Q i) (known x Q i) pool t (omega arith)) in
    let cap = ap (λ (xs : List ℕ). get_or xs pool 0) (plus_comm A.pools B.pools) in
    let use' = keeps.pools pool t (omega arith) in
    omega arith)
    (λ store l.
    let sum = total_of_map (store_use (pooled B A) store) (store_use (pooled A B) store) f P
    (λ x Q i. store_use_in_other A B pooling x (own x Q i) (known x Q i) store) in
    let counts = ap length (plus_comm A.stores B.stores) in
    let cap = cap_other_order A B pooling store in
    let used = keeps.stores store (omega arith) in
    omega arith))

-- "Pooling in the other order gives the same end, or the same 22."
pub pooled_other_order : (A B : Job) → Pooling A B
    → makespan (pooled A B) (pooled A B).goal ≡ makespan (pooled B A) (pooled B A).goal
pooled_other_order A B pooling =
    let back = pooling_other_order A B pooling in
    same_makespan (pooled A B) (pooled B A) (pooled A B).goal (pooled B A).goal
    (passed (pooled A B) (pooled_passes A B pooling)) (passed (pooled B A) (pooled_passes B A back))
    (carries_over A B pooling) (carries_over B A back)
