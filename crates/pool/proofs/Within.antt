-- A file that was written is within the slice.
-- Assumes nothing.
use Prim.Native.Nat.{ℕ, ◌≤◌}
use mathlib.Core.Path.{◌≡◌, refl, sym, ap, ◌∙◌}
use mathlib.Core.List.{List}
use native.Mathlib.Omega.{arith}
use lib.ListN.{length}
use borrow.Author.Tests.{ltb-false}
use Rattle.encoding.proofs.Overwrite.{length_overwrite}
use Rattle.job.specs.Job.{Job}
use Rattle.job.specs.Refusal.{first}
use Rattle.job.specs.Valid.{job_rows}
use Rattle.job.specs.Refusal.{Verdict}
use Rattle.std.specs.Prelude.{Ok, Err, IfOk}
use Rattle.job.specs.Refusal.{pass}
use Rattle.job.proofs.Table.{first_pass, pass_of_append}
use Rattle.jobfile.specs.Answers.{Written}
use Rattle.jobfile.specs.File.{file_of}
use Rattle.jobfile.specs.Answers.{write_rows, written_of, write_file, left_of, left_by_write}
use Rattle.writer.specs.Wrote.{Wrote}

told : (v : Verdict) (J : Job) (slice : List ℕ) (n : ℕ) → written_of v J ≡ Ok n
    → (v ≡ pass) × (length (file_of J) ≡ n)
told (Ok _) J slice n h = (refl, cc)
told (Err why) J slice n h = (cc, cc)

pub written_within : (J : Job) (slice after : List ℕ) (answer : Written) → Wrote J slice answer after
    → IfOk answer (λ n. n ≤ length after)
unfolding write_rows write_file left_by_write
written_within J slice after (Ok n) wrote =
    let w = told (first (write_rows J slice)) J slice n (sym wrote.answers) in
    let rows = (pass_of_append (job_rows J) _ w.0).1 in
    let room = ltb-false (length slice) (length (file_of J)) (first_pass _ _ _ rows).0 in
    let left = ap length (wrote.leaves ∙ ap (λ (v : Verdict). left_of v J slice) w.0) in
    let kept = length_overwrite slice 0 (file_of J) (omega arith) in
    let size = w.1 in
    omega arith
written_within J slice after (Err why) wrote = tt
