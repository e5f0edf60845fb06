-- What the writer promises.
-- Assumes nothing.
use Rattle.std.specs.Prelude.{ℕ, ◌≡◌, List, length}
use Rattle.job.specs.Job.{Job}
use Rattle.job.specs.Refusal.{first, reply_of, reply_by}
use Rattle.jobfile.specs.File.{file_of}
use Rattle.jobfile.specs.Answers.{Written, write_rows, write_file, left_by_write}

-- the answer to a job and a slice, the papers' reply, and what the slice then holds
pub record Wrote (J : Job) (slice : List ℕ) (answer : Written) (after : List ℕ) : Type 0 where
  pub answers : answer ≡ write_file J slice
  pub replies : reply_of answer ≡ reply_by (first (write_rows J slice)) (length (file_of J))
  pub leaves : after ≡ left_by_write J slice
