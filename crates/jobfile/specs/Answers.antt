-- What reading and writing answer, and what they leave in a lent slice.
-- Assumes nothing.
use Rattle.std.specs.Prelude.{ℕ, ◌≡◌, List, [], ◌∷◌, ◌++◌, ltb, length, Result, Ok, Err}
use Rattle.encoding.specs.Bytes.{overwrite}
use Rattle.job.specs.declared.Job as held
use Rattle.job.specs.Job.{Job, job_value}
use Rattle.job.specs.Refusal.{Row, ◌when◌, Verdict, answer_by, first, reply_of, reply_by}
use Rattle.job.specs.Valid.{job_rows}
use Rattle.job.specs.declared.refusal.Refusal.{Refusal}
use Rattle.job.specs.declared.refusal.Refusal.TheVariants.{FileSlice}
use Rattle.jobfile.specs.File.{file_of, decoded, file_rows}

-- ── reading ──

-- tests 1 to 3 of a file, then those of the job in it
unfoldable pub read_rows : List ℕ → List Row
read_rows file = file_rows file ++ job_rows (decoded file)

-- what reading answers: a job that passes every test, or the refusal
abbrev pub Reading : Type 0
Reading = Result held.Job Refusal

-- "the reader returns the job"; "a job standing beside a refusal is all zero": beside one none stands
abbrev pub reading_of : Verdict → Job → Reading
reading_of v J = answer_by v (job_value J)

unfoldable pub read_file : List ℕ → Reading
read_file file = reading_of (first (read_rows file)) (decoded file)

-- what reading promises of a file
pub record Reads (file : List ℕ) (r : Reading) : Type 0 where
  pub answers : r ≡ read_file file
  pub replies : reply_of r ≡ reply_by (first (read_rows file)) (job_value (decoded file))

-- ── writing ──

-- the tests of the job; then "slice shorter than the file"
unfoldable pub write_rows : Job → List ℕ → List Row
write_rows J slice = job_rows J ++ (FileSlice when ltb (length slice) (length (file_of J)) ∷ [])

-- what writing answers: the length of the file, or the refusal
abbrev pub Written : Type 0
Written = Result ℕ Refusal

-- "the writer returns the file's length"
abbrev pub written_of : Verdict → Job → Written
written_of v J = answer_by v (length (file_of J))

unfoldable pub write_file : Job → List ℕ → Written
write_file J slice = written_of (first (write_rows J slice)) J

-- "and writes only so much"; "no slice changes" after a refusal
abbrev pub left_of : Verdict → Job → List ℕ → List ℕ
left_of (Ok _) J slice = overwrite slice 0 (file_of J)
left_of (Err why) J slice = slice

unfoldable pub left_by_write : Job → List ℕ → List ℕ
left_by_write J slice = left_of (first (write_rows J slice)) J slice
