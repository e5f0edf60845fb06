-- What follows for a caller: an accepted file comes out byte for byte, and what the job fixes is told by its number.
-- Assumes nothing.
use Prim.Native.Nat.{ℕ, ◌≤◌}
use mathlib.Core.Path.{◌≡◌, ap, ◌∙◌}
use mathlib.Core.List.{List}
use lib.ListN.{length, take}
use Rattle.std.specs.Prelude.{Ok}
use Rattle.encoding.proofs.Parts.{Bytes}
use Rattle.job.specs.declared.Job as held
use Rattle.job.specs.Job.{Job, job_in}
use Rattle.jobfile.specs.Answers.{read_file}
use Rattle.jobfile.proofs.RoundTrips.{write_after_read_slice}
use Rattle.packing.specs.Answer.{done, written_number}
use Rattle.calls.specs.Calls.{number_by, rewrite_answer, left_by_rewrite}

-- "An accepted file read and written is the same file."
pub accepted_file_comes_out : (file slice : List ℕ) (job : held.Job) → Bytes file → read_file file ≡ Ok job
    → length file ≤ length slice
    → (rewrite_answer file slice ≡ done (length file) 0) × (take (length file) (left_by_rewrite file slice) ≡ file)
accepted_file_comes_out file slice job bytes accepted room =
    let again = write_after_read_slice file job slice bytes accepted room in
    rw accepted (ap written_number again.0, again.1)

-- the number of an answer that the job alone fixes
pub number_accepted : {A : Type 0} (file : List ℕ) (job : held.Job) → read_file file ≡ Ok job → (said : Job → A)
    (number : A → ℕ) (answer : A) → answer ≡ said (job_in job)
    → number answer ≡ number_by (read_file file) (λ J. number (said J))
number_accepted file job accepted said number answer told = rw accepted (ap number told)
