-- The shape of the job that the bodies say, and the value of the job in a file.
-- Assumes nothing.
use Prim.Native.Nat.{ℕ, ◌+◌, ◌*◌, ◌/◌, ◌≤◌}
use mathlib.Core.Path.{◌≡◌, ap, ◌∙◌}
use mathlib.Core.Logic.{⊎_elim}
use mathlib.Core.List.{List, []}
use native.Mathlib.Nat.{eq-or-lt_of_le}
use native.Mathlib.Omega.{arith}
use lib.ListN.{length}
use borrow.Author.Tests.{eq-eqb, ne_eqb}
use Rattle.lists.proofs.Tabulate.{length_tabulate, each_tabulate}
use Rattle.encoding.specs.Bytes.{from_bytes, part}
use Rattle.encoding.proofs.Parts.{length_part, part_past_end}
use Rattle.encoding.proofs.Pieces.{piece_within}
use Rattle.job.specs.Job.{handover_count, shortest_count, reserve_in, job_in, job_value}
use Rattle.job.specs.declared.Form.{Form}
use Rattle.job.specs.declared.Job as held
use Rattle.job.proofs.Values.{Shaped, Shape, value_holds_job}
use Rattle.jobfile.specs.File.{form_in, body_in, action_size, action_of, rule_of, job_of, decoded}
use Rattle.jobfile.proofs.Laid.{Laid}

action_of_shape : (p s : ℕ) (bytes : List ℕ) → length bytes ≡ action_size p s → Shaped p s (action_of p s bytes)
unfolding action_of
action_of_shape p s bytes e =
    let a = length_part bytes 25 (4 * p) (omega arith) in
    let b = length_part bytes (25 + 4 * p) (4 * s) (omega arith) in
    record { pools = simp length_tabulate (omega arith); stores = simp length_tabulate (omega arith) }

-- a head without a byte 19 has no reserve
reserve_read : (head : List ℕ) → length head ≤ 20
    → reserve_in (rule_of (length head)) (from_bytes (part head 19 1)) ≡ from_bytes (part head 19 1)
unfolding from_bytes
reserve_read head short =
    ⊎_elim (λ e. rw (eq-eqb (length head) 20 e))
    (λ l.
    let none : part head 19 1 ≡ [] = part_past_end head 19 1 (omega arith) in
    rw (ne_eqb (length head) 20 (λ e. omega arith), none))
    (eq-or-lt_of_le short)

module _ (form : Form) (head pools stores actions handovers shortest : List ℕ) where
  job_of_shape : length handovers ≡ handover_count form (length pools / 4)
      → length shortest ≡ shortest_count form (length actions / action_size (length pools / 4) (length stores / 4))
      → length head ≤ 20 → Shape (job_of form head pools stores actions handovers shortest)
  unfolding job_of
  job_of_shape e g short =
      let p = length pools / 4 in
      let s = length stores / 4 in
      let n = action_size p s in
      record {
        actions = simp length_tabulate
            (each_tabulate (Shaped p s) (length actions / n) (λ i. action_of p s (part actions (i * n) n))
            (λ i h.
            action_of_shape p s (part actions (i * n) n)
            (length_part actions (i * n) n (piece_within (length actions) n i h))));
        handovers = simp length_tabulate (omega arith);
        shortest = simp length_tabulate (omega arith);
        reserve = reserve_read head short;
      }

pub value_holds_decoded : (file : List ℕ) → Laid file → (j : held.Job) → j ≡ job_value (decoded file)
    → job_in j ≡ decoded file
value_holds_decoded file l j e =
    let count : length (body_in file 4) ≡ handover_count (form_in file) (length (body_in file 1) / 4) =
    rw (l.lengths 1) (l.lengths 4 ∙ l.sizes.handovers) in
    let least : length (body_in file 5) ≡ shortest_count (form_in file)
    (length (body_in file 3) / action_size (length (body_in file 1) / 4) (length (body_in file 2) / 4)) =
    rw (l.lengths 1, l.lengths 2, l.lengths 3) (l.lengths 5 ∙ l.sizes.shortest) in
    ap job_in e
    ∙ value_holds_job (decoded file)
    (job_of_shape (form_in file) (body_in file 0) (body_in file 1) (body_in file 2) (body_in file 3) (body_in file 4)
    (body_in file 5) count least (rw (l.lengths 0) l.sizes.short_head))
