-- What follows for a caller of `ruhkevois_pool`, of two accepted files: which refusals are left, and what is written.
-- Assumes nothing.
use Prim.Native.Nat.{ℕ, ◌<◌, ◌≤◌}
use mathlib.Core.Path.{◌≡◌, sym, ap, ◌∙◌}
use mathlib.Core.Logic.{◌⊎◌}
use mathlib.Core.List.{List, [], map}
use native.Mathlib.Omega.{arith}
use lib.ListN.{length}
use borrow.Author.Tests.{le-ltb}
use Rattle.encoding.specs.Bytes.{overwrite}
use Rattle.encoding.proofs.Parts.{Bytes}
use Rattle.job.specs.declared.refusal.Refusal.{Refusal}
use Rattle.job.specs.declared.refusal.Refusal.TheVariants.{PoolTooLarge, PoolUnlike}
use Rattle.job.specs.Refusal.{verdict_of, Verdict}
use Rattle.std.specs.Prelude.{Ok, Err}
use Rattle.job.specs.Refusal.{pass}
use Rattle.job.specs.declared.Job as held
use Rattle.job.specs.Job.{Action, Job, job_in, job_value}
use Rattle.job.specs.Refusal.{first}
use Rattle.job.specs.Valid.{job_rows}
use Rattle.job.proofs.Passed.{passed}
use Rattle.job.proofs.Table.{first_append_pass, first_next, first_none}
use Rattle.job.proofs.Values.{job_in_shape}
use Rattle.jobfile.specs.File.{file_of}
use Rattle.jobfile.specs.Answers.{read_file, write_rows, written_of, write_file, left_of, left_by_write}
use Rattle.jobfile.proofs.Lengths.{file_fits}
use Rattle.jobfile.proofs.RoundTrips.{file_reads_back, read_job_passes, read_durations}
use Rattle.pooling.specs.Pooled.{renumbered, pooled, pool_jobs, pool_rows}
use Rattle.pooling.proofs.Sums.{each_of_append, each_of_map}
use Rattle.pooling.proofs.PooledJob.{pool_count, store_count}
use Rattle.pooling.proofs.PooledForm.{pooled_shape}
use Rattle.pooling.proofs.PooledPasses.{pooling_of_rows, pooled_passes}
use Rattle.pooling.proofs.PoolAnswers.{verdict_of_pooling, only_32_or_33, answer_holds_pooled}
use Rattle.packing.specs.Answer.{done, written_number}
use Rattle.calls.specs.Calls.{pool_answer, left_by_pool}

-- a job that passes is written where there is room for every file
module _ (J : Job) (slice : List ℕ) (passes : first (job_rows J) ≡ pass) (fits : length (file_of J) ≤ length slice) where
  rows_pass : first (write_rows J slice) ≡ pass
  unfolding write_rows
  rows_pass =
      first_append_pass (job_rows J) _ passes
      ∙ first_next _ _ [] (le-ltb (length slice) (length (file_of J)) fits) ∙ first_none

  written_number_lem : written_number (write_file J slice) ≡ done (length (file_of J)) 0
  unfolding write_file
  written_number_lem = ap (λ (v : Verdict). written_number (written_of v J)) rows_pass

  written_slice : left_by_write J slice ≡ overwrite slice 0 (file_of J)
  unfolding left_by_write
  written_slice = ap (λ (v : Verdict). left_of v J slice) rows_pass

module _ (first_file second_file : List ℕ) (one two : held.Job) (mine : read_file first_file ≡ Ok one)
    (other : read_file second_file ≡ Ok two) where
  abbrev A : Job
  A = job_in one

  abbrev B : Job
  B = job_in two

  -- of the refusals of pooling only 32 and 33 are left
  pub files_refused_by_32_or_33 : (why : Refusal) → pool_jobs A B ≡ Err why → (why ≡ PoolTooLarge) ⊎ (why ≡ PoolUnlike)
  files_refused_by_32_or_33 why h =
      only_32_or_33 A B (read_job_passes first_file one mine) (read_job_passes second_file two other) why
      (sym (verdict_of_pooling A B) ∙ ap verdict_of h)

  module _ (job : held.Job) (answers : pool_jobs A B ≡ Ok job) where
    rows : first (pool_rows A B) ≡ pass
    rows = sym (verdict_of_pooling A B) ∙ ap verdict_of answers

    -- otherwise the file of the pooled job stands at the front of a slice of 4,096 bytes or more
    pub pooled_file_is_written : (slice : List ℕ) → 4096 ≤ length slice
        → (pool_answer first_file second_file slice ≡ done (length (file_of (pooled A B))) 0)
        × (left_by_pool first_file second_file slice ≡ overwrite slice 0 (file_of (pooled A B)))
    pooled_file_is_written slice room =
        let holds = answer_holds_pooled one two job answers in
        let both = pooling_of_rows A B (job_in_shape one) (job_in_shape two) rows in
        let passes = pooled_passes A B both in
        let small = file_fits (pooled A B) (pooled_shape A B (job_in_shape one) (job_in_shape two))
        (passed (pooled A B) passes) in
        let fits : length (file_of (pooled A B)) ≤ length slice = omega arith in (
          rw (mine, other, answers)
              (ap (λ (J : Job). written_number (write_file J slice)) holds ∙ written_number_lem (pooled A B) slice passes fits),
          rw (mine, other, answers)
              (ap (λ (J : Job). left_by_write J slice) holds ∙ written_slice (pooled A B) slice passes fits),
        )

    -- and it reads as the pooled job
    pub pooled_file_reads_back : Bytes first_file → Bytes second_file
        → read_file (file_of (pooled A B)) ≡ Ok (job_value (pooled A B))
    pooled_file_reads_back bytes bytes' =
        let both = pooling_of_rows A B (job_in_shape one) (job_in_shape two) rows in
        let short : Action → Type 0 = λ a. a.duration < 256 in
        let in_first = renumbered 0 (pool_count A B) (store_count A B) in
        let in_second = renumbered A.facts (pool_count A B) (store_count A B) in
        file_reads_back (pooled A B) (pooled_shape A B (job_in_shape one) (job_in_shape two))
        (each_of_append short (map in_first A.actions) (map in_second B.actions)
        (each_of_map short in_first A.actions (read_durations first_file one bytes mine))
        (each_of_map short in_second B.actions (read_durations second_file two bytes' other)))
        (pooled_passes A B both)
