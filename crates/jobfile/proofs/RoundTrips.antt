-- The two round trips of the job file, over job values and the slices that the writer leaves.
-- Assumes nothing.
use Prim.Native.Nat.{ℕ, ◌+◌, ◌*◌, ◌/◌, ◌≤◌, ◌<◌}
use mathlib.Core.Path.{◌≡◌, refl, ap, sym, subst, ◌∙◌}
use mathlib.Core.List.{List, [], ◌∷◌}
use native.Mathlib.Omega.{arith}
use lib.ListN.{length, get_or, take, drop}
use lib.Seq.{take_at}
use borrow.Author.Tests.{le-ltb}
use Rattle.lists.specs.Lists.{Each}
use Rattle.lists.proofs.Tabulate.{each_tabulate}
use Rattle.encoding.specs.Bytes.{from_bytes, part, overwrite}
use Rattle.encoding.proofs.Parts.{Bytes, part_bytes}
use Rattle.job.specs.Job.{Job, beyond, action_at, job_in, job_value}
use Rattle.job.specs.Refusal.{first}
use Rattle.job.specs.Valid.{job_rows}
use Rattle.job.specs.declared.Job as held
use Rattle.job.specs.declared.refusal.Refusal.TheVariants.{FileSlice}
use Rattle.job.specs.Refusal.{Verdict}
use Rattle.std.specs.Prelude.{Ok, Err}
use Rattle.job.specs.Refusal.{pass}
use Rattle.job.proofs.Table.{first_next, first_append_pass, pass_of_append}
use Rattle.job.proofs.Values.{Shape, job_in_shape}
use Rattle.jobfile.specs.File.{file_of, body_in, action_size, action_of, job_of, decoded}
use Rattle.jobfile.specs.Answers.{read_rows, reading_of, read_file, write_rows, written_of, write_file, left_of}
use Rattle.jobfile.specs.Answers.{left_by_write}
use Rattle.jobfile.proofs.DecodeLaws.{value_holds_decoded}
use Rattle.jobfile.proofs.ReadLaws.{passes_laid}
use Rattle.jobfile.proofs.ReadWrite.{body_bytes, read_write}
use Rattle.jobfile.proofs.WriteRead.{write_read}

-- the durations within the counts are bytes
abbrev pub ByteDurations : held.Job → Type 0
ByteDurations j = (i : ℕ) → i < j.counts.actions → (get_or j.actions i beyond).duration < 256

-- "A job written and read is the same job": its value, with zeros in the unused places.
pub file_reads_back : (J : Job) → Shape J → Each (λ a. a.duration < 256) J.actions → first (job_rows J) ≡ pass
    → read_file (file_of J) ≡ Ok (job_value J)
unfolding read_file
file_reads_back J shape durations passes =
    let r = write_read J shape durations passes in
    ap (λ (v : Verdict). reading_of v (decoded (file_of J))) r.0 ∙ ap (reading_of pass) r.1

pub read_after_write : (j : held.Job) → ByteDurations j → first (job_rows (job_in j)) ≡ pass
    → read_file (file_of (job_in j)) ≡ Ok (job_value (job_in j))
read_after_write j d =
    file_reads_back (job_in j) (job_in_shape j) (each_tabulate _ j.counts.actions (action_at j) d)

passed_reading : (v : Verdict) (J : Job) (j : held.Job) → reading_of v J ≡ Ok j
    → (v ≡ pass) × (j ≡ job_value J)
passed_reading (Ok _) J j h = (refl, cc)
passed_reading (Err why) J j h = (cc, cc)

-- a file that is accepted passes its tests and those of its job, and has the job that is read
accepted_file : (file : List ℕ) (j : held.Job) → read_file file ≡ Ok j
    → (first (read_rows file) ≡ pass) × (job_in j ≡ decoded file)
unfolding read_file
accepted_file file j h =
    let r = passed_reading (first (read_rows file)) (decoded file) j h in
    (r.0, value_holds_decoded file (passes_laid file r.0).0 j r.1)

-- the job that is read passes its tests
pub read_job_passes : (file : List ℕ) (j : held.Job) → read_file file ≡ Ok j
    → first (job_rows (job_in j)) ≡ pass
read_job_passes file j h =
    let r = accepted_file file j h in
    ap (λ (J : Job). first (job_rows J)) r.1 ∙ (passes_laid file r.0).1

-- the lengths of the actions that are read are bytes
byte_duration : (pools stores : ℕ) (bytes : List ℕ) → Bytes bytes → (action_of pools stores bytes).duration < 256
unfolding action_of from_bytes
byte_duration pools stores [] b = omega arith
byte_duration pools stores (x ∷ bytes) b = let l : x < 256 = b 0 in omega arith

durations_in : (file : List ℕ) → Bytes file → Each (λ a. a.duration < 256) (decoded file).actions
unfolding job_of
durations_in file b =
    let p = length (body_in file 1) / 4 in
    let s = length (body_in file 2) / 4 in
    let n = action_size p s in
    each_tabulate (λ a. a.duration < 256) (length (body_in file 3) / n) (λ i. action_of p s (part (body_in file 3) (i * n) n))
    (λ i known. byte_duration p s _ (part_bytes (body_in file 3) (i * n) n (body_bytes file b 3)))

pub read_durations : (file : List ℕ) (j : held.Job) → Bytes file → read_file file ≡ Ok j
    → Each (λ a. a.duration < 256) (job_in j).actions
read_durations file j b h =
    subst (λ (J : Job). Each (λ a. a.duration < 256) J.actions) (sym (accepted_file file j h).1) (durations_in file b)

-- "An accepted file read and written is the same file."
pub write_after_read : (file : List ℕ) (j : held.Job) → Bytes file → read_file file ≡ Ok j
    → (first (job_rows (job_in j)) ≡ pass) × (file_of (job_in j) ≡ file)
write_after_read file j b h =
    let r = accepted_file file j h in
    (read_job_passes file j h, ap file_of r.1 ∙ read_write file b r.0)

-- ── the same over the slices that the writer leaves ──

-- a file's length as the answer: all tests passed, and the file stands in front
written_file : (J : Job) (slice : List ℕ) (n : ℕ) → write_file J slice ≡ Ok n
    → (first (job_rows J) ≡ pass) × (take n (left_by_write J slice) ≡ file_of J)
unfolding write_file write_rows left_by_write overwrite
written_file J slice n h =
    let w = passed_writing (first (write_rows J slice)) n h in (
      (pass_of_append (job_rows J) _ w.0).0,
      ap (λ (v : Verdict). take n (left_of v J slice)) w.0
          ∙ take_at (file_of J) (drop (0 + length (file_of J)) slice) n w.1,
    )
  where
    passed_writing : (v : Verdict) (n : ℕ) → written_of v J ≡ Ok n → (v ≡ pass) × (length (file_of J) ≡ n)
    passed_writing (Ok _) n h = (refl, cc)
    passed_writing (Err why) n h = (cc, cc)

pub read_after_write_slice : (j : held.Job) (slice : List ℕ) (n : ℕ) → ByteDurations j
    → write_file (job_in j) slice ≡ Ok n
    → read_file (take n (left_by_write (job_in j) slice)) ≡ Ok (job_value (job_in j))
read_after_write_slice j slice n d h =
    let w = written_file (job_in j) slice n h in
    ap read_file w.1 ∙ read_after_write j d w.0

pub write_after_read_slice : (file : List ℕ) (j : held.Job) (slice : List ℕ) → Bytes file
    → read_file file ≡ Ok j → length file ≤ length slice
    → (write_file (job_in j) slice ≡ Ok (length file))
    × (take (length file) (left_by_write (job_in j) slice) ≡ file)
unfolding write_file write_rows first
write_after_read_slice file j slice b h room =
    let r = write_after_read file j b h in
    let fits = le-ltb (length slice) (length (file_of (job_in j))) (rw r.1 room) in
    let passes = first_append_pass (job_rows (job_in j)) _ r.0 ∙ first_next FileSlice _ [] fits in
    let length_again = ap (λ (bytes : List ℕ). Ok (length bytes)) r.1 in
    let w = ap (λ (v : Verdict). written_of v (job_in j)) passes ∙ length_again in
    (w, (written_file (job_in j) slice (length file) w).1 ∙ r.1)
