-- The file of a job that passes its tests: it fits into a slice of 4,096 bytes, and has the job.
-- Assumes nothing.
use Prim.Native.Nat.{ℕ, ◌≤◌}
use mathlib.Core.Path.{◌≡◌, ap, sym, ◌∙◌, subst}
use mathlib.Core.List.{List, []}
use native.Mathlib.Omega.{arith}
use lib.ListN.{length, take}
use lib.Seq.{length-take-le}
use borrow.Author.Tests.{le-ltb}
use Rattle.encoding.specs.Bytes.{overwrite}
use Rattle.encoding.proofs.Overwrite.{length_overwrite}
use Rattle.job.specs.declared.Job as held
use Rattle.job.specs.declared.refusal.Refusal.{Refusal}
use Rattle.job.specs.declared.refusal.Refusal.TheVariants.{FileSlice}
use Rattle.job.specs.Refusal.{Verdict}
use Rattle.job.specs.Refusal.{pass}
use Rattle.job.specs.Job.{Job, job_in, job_value}
use Rattle.job.specs.Refusal.{first}
use Rattle.job.specs.Resumed.{resumed}
use Rattle.job.specs.Valid.{limit_rows, job_rows}
use Rattle.job.proofs.Passed.{passed}
use Rattle.job.proofs.Table.{first_next, first_append_pass, first_none}
use Rattle.job.proofs.Values.{job_in_shape, value_holds_job}
use Rattle.jobfile.specs.Answers.{Written}
use Rattle.std.specs.Prelude.{Option, Some, None, Ok, Err}
use Rattle.std.specs.Result.{result_ok}
use Rattle.job.proofs.Table.{some_is_answered, none_is_refused}
use Rattle.jobfile.specs.File.{file_of}
use Rattle.jobfile.specs.Answers.{read_file, write_rows, written_of, write_file, left_of, left_by_write}
use Rattle.jobfile.proofs.Lengths.{file_fits}
use Rattle.jobfile.proofs.RoundTrips.{ByteDurations, read_after_write_slice}
use Rattle.writer.specs.Wrote.{Wrote}
use Rattle.leaf.specs.Answer.{FileOf}

-- the writer's answers are different, and a length is told by its number
lengths_same : {m n : ℕ} → ◌≡◌ {A = Written} (Ok m) (Ok n) → m ≡ n
lengths_same h = cc h

no_length_when_refused : {n : ℕ} {why : Refusal} → ◌≡◌ {A = Written} (Err why) (Ok n) → ⊥
no_length_when_refused h = cc

module _ (job : held.Job) (passes : first (job_rows (job_in job)) ≡ pass) (slice : List ℕ)
    (room : length slice ≡ 4096) where
  -- none of the writer's tests fails
  none_fails : first (write_rows (job_in job) slice) ≡ pass
  unfolding write_rows
  none_fails =
      let J = job_in job in
      let fits = file_fits J (job_in_shape job) (passed J passes) in
      first_append_pass (job_rows J) _ passes
      ∙ first_next FileSlice _ [] (le-ltb (length slice) (length (file_of J)) (omega arith))
      ∙ first_none

  file_written : write_file (job_in job) slice ≡ Ok (length (file_of (job_in job)))
  unfolding write_file
  file_written = ap (λ (v : Verdict). written_of v (job_in job)) none_fails

  file_left : left_by_write (job_in job) slice ≡ overwrite slice 0 (file_of (job_in job))
  unfolding left_by_write
  file_left = ap (λ (v : Verdict). left_of v (job_in job) slice) none_fails

  module _ (answer : Written) (after : List ℕ) (wrote : Wrote (job_in job) slice answer after) where
    -- 23 is no answer
    pub file_not_refused : result_ok answer ≡ None → ⊥
    file_not_refused h =
        let refused = none_is_refused answer h in
        no_length_when_refused (sym refused.1 ∙ wrote.answers ∙ file_written)

    -- the file ends in the slice
    pub file_in_slice : (n : ℕ) → result_ok answer ≡ Some n → n ≤ length after
    file_in_slice n ok =
        let h = some_is_answered answer n ok in
        let J = job_in job in
        let fits = file_fits J (job_in_shape job) (passed J passes) in
        let size : length (file_of J) ≡ n = lengths_same (sym file_written ∙ sym wrote.answers ∙ h) in
        let left : length after ≡ length (overwrite slice 0 (file_of J)) = ap length (wrote.leaves ∙ file_left) in
        let same = length_overwrite slice 0 (file_of J) (omega arith) in
        omega arith

    pub file_length : (n : ℕ) → result_ok answer ≡ Some n → n ≡ length (take n after)
    file_length n h = sym (length-take-le n after (file_in_slice n h))

-- what the writer leaves in the slice, up to the file's length, is a file of which J is resumed
pub file_of_job : (job : held.Job) (slice : List ℕ) (answer : Written) (after : List ℕ)
    → Wrote (job_in job) slice answer after → ByteDurations job → (n : ℕ) → result_ok answer ≡ Some n
    → (start : ℕ) (stocks : List ℕ) (J : Job) → resumed (job_in job) start stocks ≡ J → first (limit_rows J) ≡ pass
    → FileOf J (take n after) start stocks
file_of_job job slice answer after wrote durations n h start stocks J same passes =
    record {
      value = job_value (job_in job);
      read = subst (λ (bytes : List ℕ). read_file (take n bytes) ≡ Ok (job_value (job_in job)))
          (sym wrote.leaves) (read_after_write_slice job slice n durations (sym wrote.answers ∙ some_is_answered answer n h));
      same = ap (λ (K : Job). resumed K start stocks) (value_holds_job (job_in job) (job_in_shape job)) ∙ same;
      passes = passes;
    }
