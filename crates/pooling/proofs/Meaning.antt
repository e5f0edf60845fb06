-- What follows for a caller of `pool`: request i's sentences, of the answer itself.
-- Assumes nothing.
use Prim.Native.Nat.{ℕ, ◌+◌, ◌≤◌, max}
use mathlib.Core.Path.{◌≡◌, sym, ap, ◌∙◌}
use mathlib.Core.List.{List}
use lib.ListN.{length}
use Rattle.job.specs.declared.Job as held
use Rattle.job.specs.Refusal.{verdict_of, pass}
use Rattle.std.specs.Prelude.{Ok}
use Rattle.job.specs.Job.{Job, job_in, job_value}
use Rattle.job.specs.Refusal.{first}
use Rattle.job.specs.Valid.{job_rows}
use Rattle.job.proofs.Values.{job_in_shape}
use Rattle.timeline.specs.Step.{steps_in}
use Rattle.timeline.specs.Timeline.{end}
use Rattle.timeline.specs.Accepted.{Accepted}
use Rattle.makespan.specs.Makespan.{ends_at, makespan}
use Rattle.pooling.specs.Pooled.{Pooled, pooled, pool_rows, pool_jobs, Pools}
use Rattle.pooling.proofs.PooledPasses.{Pooling, pooling_of_rows}
use Rattle.pooling.proofs.PooledDays.{pooled_no_later}
use Rattle.pooling.proofs.OtherOrder.{pooled_other_order}
use Rattle.pooling.proofs.PoolAnswers.{verdict_of_pooling, refusals_other_order, answer_holds_pooled}
use Rattle.pooling.proofs.PoolAnswers.{answer_passes, pooled_answer, rows_pass}

verdict_is : (A B : Job) (r : Pooled) → Pools A B r → verdict_of r ≡ first (pool_rows A B)
verdict_is A B r h = ap (λ (x : Pooled). (verdict_of x)) h.answers ∙ verdict_of_pooling A B

module _ (one other : held.Job) (r : Pooled) (h : Pools (job_in one) (job_in other) r) where
  abbrev A : Job
  A = job_in one

  abbrev B : Job
  B = job_in other

  -- for two jobs that pass, the other order is answered by the same refusal, or by none
  pub same_refusal_in_other_order : (s : Pooled) → Pools B A s → first (job_rows A) ≡ pass → first (job_rows B) ≡ pass
      → verdict_of r ≡ (verdict_of s)
  same_refusal_in_other_order s k a b =
      verdict_is A B r h ∙ refusals_other_order A B a b ∙ sym (verdict_is B A s k)

  module _ (job : held.Job) (answer : r ≡ Ok job) where
    same : pool_jobs A B ≡ Ok job
    same = sym h.answers ∙ answer

    pooling : Pooling A B
    pooling = pooling_of_rows A B (job_in_shape one) (job_in_shape other) (rows_pass one other job same)

    -- the answer holds the pooled job
    pub answer_is_pooled : job_in job ≡ pooled A B
    answer_is_pooled = answer_holds_pooled one other job same

    -- the pooled job passes every test of a job, so every call takes it
    pub pooled_job_passes : first (job_rows (job_in job)) ≡ pass
    pooled_job_passes = answer_passes one other job same

    -- "If both jobs have accepted plans with together at most 32 steps, the pooled day ends no later than the later of
    -- those two."
    pub pooled_day_no_later : (a b : List ℕ) → Accepted A A.goal a → Accepted B B.goal b
        → length (steps_in A a) + length (steps_in B b) ≤ 32
        → (e : ℕ) × (makespan (job_in job) (job_in job).goal ≡ ends_at e)
        × (e ≤ max (end (steps_in A a)) (end (steps_in B b)))
    pooled_day_no_later a b p q few =
        let day = pooled_no_later A B pooling a b p q few in
        (day.0, ap (λ (J : Job). makespan J J.goal) answer_is_pooled ∙ day.1, day.2)

    -- "Pooling in the other order gives the same end, or the same 22."
    pub same_day_in_other_order : (s : Pooled) → Pools B A s
        → (back : held.Job) × (s ≡ Ok back)
        × (makespan (job_in job) (job_in job).goal ≡ makespan (job_in back) (job_in back).goal)
    same_day_in_other_order s k =
        let rows : first (pool_rows B A) ≡ pass
        = sym (refusals_other_order A B pooling.valid_a pooling.valid_b) ∙ rows_pass one other job same in
        let there = pooled_answer B A rows in
        let back_job = answer_holds_pooled other one (job_value (pooled B A)) there in (
          job_value (pooled B A),
          k.answers ∙ there,
          ap (λ (J : Job). makespan J J.goal) answer_is_pooled
              ∙ pooled_other_order A B pooling
              ∙ sym (ap (λ (J : Job). makespan J J.goal) back_job),
        )
