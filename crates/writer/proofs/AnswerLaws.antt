-- What writing answers and leaves, for each way out of the writer.
-- Assumes nothing.
use Prim.Native.Nat.{ℕ, ◌≤◌, ◌<◌}
use mathlib.Core.Path.{◌≡◌, refl, ◌∙◌}
use mathlib.Core.List.{List, []}
use lib.ListN.{length}
use borrow.Author.Tests.{lt-ltb, le-ltb}
use Rattle.encoding.specs.Bytes.{overwrite}
use Rattle.job.specs.declared.refusal.Refusal.{Refusal}
use Rattle.job.specs.declared.refusal.Refusal.TheVariants.{FileSlice}
use Rattle.job.specs.Refusal.{Verdict}
use Rattle.std.specs.Prelude.{Ok, Err}
use Rattle.job.specs.Refusal.{pass}
use Rattle.job.specs.Job.{Job}
use Rattle.job.specs.Refusal.{first, reply_of, reply_by}
use Rattle.job.specs.Valid.{job_rows}
use Rattle.job.proofs.Table.{first_here, first_next, first_append_pass, first_append_refused}
use Rattle.jobfile.specs.File.{file_of}
use Rattle.writer.specs.Wrote.{Wrote}
use Rattle.jobfile.specs.Answers.{write_rows, written_of, write_file, left_of, left_by_write}

module _ (J : Job) (slice : List ℕ) where
  by_verdict : (v : Verdict) → first (write_rows J slice) ≡ v → Wrote J slice (written_of v J) (left_of v J slice)
  unfolding write_file left_by_write
  by_verdict v e = record { answers = rw e; replies = rw e (replies_of v); leaves = rw e }
    where
      replies_of : (w : Verdict) → reply_of (written_of w J) ≡ reply_by w (length (file_of J))
      replies_of (Ok _) = refl
      replies_of (Err why) = refl

  pub wrote_refused : (why : Refusal) → first (job_rows J) ≡ Err why → Wrote J slice (Err why) slice
  unfolding write_rows
  wrote_refused why e = by_verdict (Err why) (first_append_refused (job_rows J) _ why e)

  pub wrote_short : first (job_rows J) ≡ pass → length slice < length (file_of J)
      → Wrote J slice (Err FileSlice) slice
  unfolding write_rows
  wrote_short e h =
      by_verdict (Err FileSlice)
      (first_append_pass (job_rows J) _ e ∙ first_here FileSlice _ [] (lt-ltb (length slice) (length (file_of J)) h))

  pub wrote_file : first (job_rows J) ≡ pass → length (file_of J) ≤ length slice
      → Wrote J slice (Ok (length (file_of J))) (overwrite slice 0 (file_of J))
  unfolding write_rows first
  wrote_file e h =
      by_verdict pass
      (first_append_pass (job_rows J) _ e ∙ first_next FileSlice _ [] (le-ltb (length slice) (length (file_of J)) h))
