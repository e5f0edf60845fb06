-- The ways out of `pool`, and what its answer says.
-- Assumes nothing.
use mathlib.Core.Path.{◌≡◌, refl, sym, ap, ap₂, ◌∙◌}
use mathlib.Core.Bool.{Bool, true, false}
use mathlib.Core.Logic.{◌⊎◌, inl, inr}
use mathlib.Core.List.{[], ◌∷◌}
use Rattle.job.specs.declared.Job as held
use Rattle.job.specs.declared.refusal.Refusal.{Refusal}
use Rattle.job.specs.declared.refusal.Refusal.TheVariants.{PoolTooLarge, PoolUnlike}
use Rattle.std.specs.Prelude.{Ok, Err}
use Rattle.job.specs.Job.{Job, job_in, job_value}
use Rattle.job.specs.Refusal.{Verdict, pass, ◌when◌, first, verdict_of, reply_of, reply_by}
use Rattle.job.specs.Valid.{job_rows}
use Rattle.job.proofs.Passed.{passed}
use Rattle.job.proofs.Rows.{fits_of_pass}
use Rattle.job.proofs.Table.{first_here, first_next, first_none, first_append_pass, first_append_refused}
use Rattle.job.proofs.Values.{job_in_shape}
use Rattle.pooling.specs.Pooled.{Pooled, pooled, too_large, unlike, pool_rows, pooled_of, pool_jobs, Pools}
use Rattle.pooling.specs.Inner.{BothPass, Poolable}
use Rattle.pooling.proofs.PoolTests.{too_large_other_order, unlike_other_order}
use Rattle.pooling.proofs.PooledForm.{value_holds_pooled}
use Rattle.pooling.proofs.PooledPasses.{pooling_of_rows, pooled_passes}

-- ---- the rows in their order
module _ (A B : Job) where
  pub first_refused : (why : Refusal) → first (job_rows A) ≡ Err why → first (pool_rows A B) ≡ Err why
  unfolding pool_rows
  first_refused why h = first_append_refused (job_rows A) _ why h

  module _ (a : first (job_rows A) ≡ pass) where
    pub second_refused : (why : Refusal) → first (job_rows B) ≡ Err why → first (pool_rows A B) ≡ Err why
    unfolding pool_rows
    second_refused why h = first_append_pass (job_rows A) _ a ∙ first_append_refused (job_rows B) _ why h

    module _ (b : first (job_rows B) ≡ pass) where
      own_rows : first (pool_rows A B) ≡ first (PoolTooLarge when too_large A B ∷ PoolUnlike when unlike A B ∷ [])
      unfolding pool_rows
      own_rows = first_append_pass (job_rows A) _ a ∙ first_append_pass (job_rows B) _ b

      pub refused_by_32 : too_large A B ≡ true → first (pool_rows A B) ≡ Err PoolTooLarge
      refused_by_32 h = own_rows ∙ first_here _ _ _ h

      pub refused_by_33 : too_large A B ≡ false → unlike A B ≡ true → first (pool_rows A B) ≡ Err PoolUnlike
      refused_by_33 small h = own_rows ∙ first_next _ _ _ small ∙ first_here _ _ _ h

      pub refused_by_none : too_large A B ≡ false → unlike A B ≡ false → first (pool_rows A B) ≡ pass
      refused_by_none small alike = own_rows ∙ first_next _ _ _ small ∙ first_next _ _ _ alike ∙ first_none

-- for jobs that pass, the other order is refused by the same number, or not at all
pub refusals_other_order : (A B : Job) → first (job_rows A) ≡ pass → first (job_rows B) ≡ pass
    → first (pool_rows A B) ≡ first (pool_rows B A)
refusals_other_order A B a b =
    own_rows A B a b
    ∙ ap₂ (λ x y. first (PoolTooLarge when x ∷ PoolUnlike when y ∷ [])) (too_large_other_order A B)
    (unlike_other_order A B)
    ∙ sym (own_rows B A b a)

-- and of the refusals that are not their own only 32 and 33 are left
pub only_32_or_33 : (A B : Job) → first (job_rows A) ≡ pass → first (job_rows B) ≡ pass → (why : Refusal)
    → first (pool_rows A B) ≡ Err why → (why ≡ PoolTooLarge) ⊎ (why ≡ PoolUnlike)
only_32_or_33 A B a b why h = left (too_large A B) (unlike A B) why (sym (own_rows A B a b) ∙ h)
  where
    left : (x y : Bool) (why : Refusal) → first (PoolTooLarge when x ∷ PoolUnlike when y ∷ []) ≡ Err why
        → (why ≡ PoolTooLarge) ⊎ (why ≡ PoolUnlike)
    left true y why h = inl (cc (first_here PoolTooLarge true (PoolUnlike when y ∷ []) refl))
    left false true why h =
        inr (cc (first_next PoolTooLarge false (PoolUnlike when true ∷ []) refl, first_here PoolUnlike true [] refl))
    left false false why h =
        inr (cc (
          first_next PoolTooLarge false (PoolUnlike when false ∷ []) refl,
          first_next PoolUnlike false [] refl,
          first_none,
        ))

-- ---- the answer
verdict_of_rows : (v : Verdict) (J : Job) → verdict_of (pooled_of v J) ≡ v
verdict_of_rows (Ok _) J = refl
verdict_of_rows (Err why) J = refl

-- its verdict is that of the rows
pub verdict_of_pooling : (A B : Job) → verdict_of (pool_jobs A B) ≡ first (pool_rows A B)
unfolding pool_jobs
verdict_of_pooling A B = verdict_of_rows (first (pool_rows A B)) (pooled A B)

reply_of_rows : (v : Verdict) (J : Job) → reply_of (pooled_of v J) ≡ reply_by v (job_value J)
reply_of_rows (Ok _) J = refl
reply_of_rows (Err why) J = refl

-- what is promised, for a verdict that the rows have
pub pools_when : (A B : Job) (r : Pooled) (v : Verdict) → first (pool_rows A B) ≡ v → r ≡ pooled_of v (pooled A B)
    → Pools A B r
unfolding pool_jobs
pools_when A B r v rows answer =
    let same : r ≡ pooled_of (first (pool_rows A B)) (pooled A B)
    = answer ∙ ap (λ (w : Verdict). pooled_of w (pooled A B)) (sym rows) in
    record { answers = same; replies = ap reply_of same ∙ reply_of_rows (first (pool_rows A B)) (pooled A B) }

-- ---- what inner functions ask
module _ (one other : held.Job) (a : first (job_rows (job_in one)) ≡ pass) (b : first (job_rows (job_in other)) ≡ pass)
  where
    pub both_pass : BothPass one other
    both_pass =
        record {
          fits_first = fits_of_pass one a;
          fits_second = fits_of_pass other b;
          passed_first = passed (job_in one) a;
          passed_second = passed (job_in other) b;
        }

    pub poolable : too_large (job_in one) (job_in other) ≡ false → unlike (job_in one) (job_in other) ≡ false
        → Poolable one other
    poolable small alike = record { both = both_pass; not_too_large = small; not_unlike = alike }

-- ---- where two values are pooled, the answer is a value that holds the pooled job, and every call takes it
pub pooled_answer : (A B : Job) → first (pool_rows A B) ≡ pass → pool_jobs A B ≡ Ok (job_value (pooled A B))
unfolding pool_jobs
pooled_answer A B rows = ap (λ (v : Verdict). pooled_of v (pooled A B)) rows

module _ (one other job : held.Job) (answer : pool_jobs (job_in one) (job_in other) ≡ Ok job) where
  pub rows_pass : first (pool_rows (job_in one) (job_in other)) ≡ pass
  rows_pass = sym (verdict_of_pooling (job_in one) (job_in other)) ∙ ap (λ (r : Pooled). verdict_of r) answer

  pub answer_holds_pooled : job_in job ≡ pooled (job_in one) (job_in other)
  answer_holds_pooled =
      let same = sym (pooled_answer (job_in one) (job_in other) rows_pass) ∙ answer in
      let value : job_value (pooled (job_in one) (job_in other)) ≡ job = cc in
      ap job_in (sym value)
      ∙ value_holds_pooled (job_in one) (job_in other) (job_in_shape one) (job_in_shape other)

  pub answer_passes : first (job_rows (job_in job)) ≡ pass
  answer_passes =
      ap (λ (J : Job). first (job_rows J)) answer_holds_pooled
      ∙ pooled_passes (job_in one) (job_in other)
      (pooling_of_rows (job_in one) (job_in other) (job_in_shape one) (job_in_shape other) rows_pass)
