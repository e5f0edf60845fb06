-- A file that was read is written again, byte for byte.
-- Assumes nothing.
use Prim.Native.Nat.{ℕ, ◌+◌, ◌*◌, ◌/◌, ◌%◌, ◌≤◌}
use mathlib.Core.Path.{◌≡◌, refl, sym, ap, ◌∙◌}
use mathlib.Core.Bool.{Bool, true, false, cond}
use mathlib.Core.List.{List, [], ◌∷◌}
use mathlib.Core.Logic.{⊎_elim}
use native.Mathlib.Nat.{eq-or-lt_of_le}
use native.Mathlib.Omega.{arith}
use lib.Dec.{ltb}
use lib.ListN.{length}
use lib.Seq.{take_all, take-add}
use borrow.Author.Tests.{eq-eqb, ne_eqb}
use Rattle.encoding.specs.Bytes.{from_bytes, part, split, joined}
use Rattle.encoding.proofs.Parts.{Bytes, length_part, part_past_end, part_bytes, part_glue}
use Rattle.encoding.proofs.Pieces.{joined_split}
use Rattle.job.specs.Job.{Job, entries}
use Rattle.job.specs.Refusal.{first}
use Rattle.job.specs.declared.Form.{Form}
use Rattle.job.specs.declared.Form.TheVariants.{Four, Five, Six}
use Rattle.job.specs.Refusal.{pass}
use Rattle.jobfile.specs.File.{reserve_bytes, head_bytes, amount_bytes, action_bytes, minute_bytes, extra_bodies}
use Rattle.jobfile.specs.File.{file_of_bodies, file_of, form_in, entries_in, body_in, action_size, action_of, job_of}
use Rattle.jobfile.specs.File.{bodies, offset, size, body, rule_of, decoded}
use Rattle.jobfile.specs.Answers.{read_rows}
use Rattle.jobfile.proofs.Fields.{number_again, numbers_again}
use Rattle.jobfile.proofs.Bodies.{bodies_in, count_in, file_when_in_row}
use Rattle.jobfile.proofs.Laid.{Laid}
use Rattle.jobfile.proofs.ReadLaws.{passes_laid}

-- ── amounts, actions and the head ──

amounts_again : (bs : List ℕ) → Bytes bs → length bs % 4 ≡ 0 → amount_bytes (split 4 from_bytes bs) ≡ bs
amounts_again bs h e = numbers_again 4 bs (omega arith) h e

-- the last byte of a head that has one
reserve_again : (head : List ℕ) → Bytes head → length head ≤ 20
    → reserve_bytes (rule_of (length head)) (from_bytes (part head 19 1)) ≡ part head 19 1
reserve_again head h short =
    ⊎_elim (λ e. rw (eq-eqb (length head) 20 e) (number_again head 19 1 h (omega arith)))
    (λ l. rw (ne_eqb (length head) 20 (λ e. omega arith)) (sym (part_past_end head 19 1 (omega arith))))
    (eq-or-lt_of_le short)

head_again : (form : Form) (head pools stores actions handovers shortest : List ℕ) → Bytes head → 19 ≤ length head
    → length head ≤ 20 → head_bytes (job_of form head pools stores actions handovers shortest) ≡ head
unfolding head_bytes job_of
head_again form head pools stores actions handovers shortest h l short =
    rw (
      number_again head 0 1 h (omega arith),
      number_again head 1 2 h (omega arith),
      number_again head 3 8 h (omega arith),
      number_again head 11 8 h (omega arith),
      reserve_again head h short,
      part_glue head 0 1 2,
      part_glue head 0 3 8,
      part_glue head 0 11 8,
      part_glue head 0 19 1,
    ) (take_all 20 head short)

action_again : (p s : ℕ) (bs : List ℕ) → Bytes bs → length bs ≡ action_size p s → action_bytes (action_of p s bs) ≡ bs
unfolding action_bytes action_of
action_again p s bs h l =
    let P = part bs 25 (4 * p) in
    let S = part bs (25 + 4 * p) (4 * s) in
    let l_p : length P ≡ 4 * p = length_part bs 25 (4 * p) (omega arith) in
    let l_s : length S ≡ 4 * s = length_part bs (25 + 4 * p) (4 * s) (omega arith) in
    rw (
      number_again bs 0 1 h (omega arith),
      number_again bs 1 8 h (omega arith),
      number_again bs 9 8 h (omega arith),
      number_again bs 17 8 h (omega arith),
      amounts_again P (part_bytes bs 25 (4 * p) h) (omega arith),
      amounts_again S (part_bytes bs (25 + 4 * p) (4 * s) h) (omega arith),
      part_glue bs 0 1 8,
      part_glue bs 0 9 8,
      part_glue bs 0 17 8,
      part_glue bs 0 25 (4 * p),
      ← (take-add (25 + 4 * p) (4 * s) bs),
    ) (take_all (25 + 4 * p + 4 * s) bs (omega arith))

-- ── the bodies and the file ──

actions_again : (p s : ℕ) (bs : List ℕ) → Bytes bs → length bs % action_size p s ≡ 0
    → joined action_bytes (split (action_size p s) (action_of p s) bs) ≡ bs
actions_again p s bs h e =
    let n = action_size p s in
    joined_split n (action_of p s) action_bytes bs (omega arith) e
    (λ at k. action_again p s (part bs at n) (part_bytes bs at n h) (length_part bs at n k))

module _ (file : List ℕ) (h : Bytes file) where
  pub body_bytes : (k : ℕ) → Bytes (body_in file k)
  body_bytes k = go (ltb k (entries_in file))
    where
      go : (b : Bool) → Bytes (cond b (body file k) [])
      go true = part_bytes file (offset file k) (size file k) h
      go false = λ i. omega arith

module _ (file : List ℕ) (h : Bytes file) (l : Laid file) where
  -- the bodies of the file, one by one
  one_by_one : (form : Form) → form_in file ≡ form → (handovers shortest : List ℕ) → handovers ≡ body_in file 4
      → shortest ≡ body_in file 5 → (J : Job) → minute_bytes J.handovers ≡ handovers
      → minute_bytes J.shortest ≡ shortest
      → body_in file 0 ∷ body_in file 1 ∷ body_in file 2 ∷ body_in file 3 ∷ extra_bodies form J
      ≡ bodies_in file 0 (entries form)
  one_by_one Four e x y p q J h s = rw e
  one_by_one Five e x y p q J h s = rw (h, p, e)
  one_by_one Six e x y p q J h s = rw (h, s, p, q, e)

  bodies_again : bodies (decoded file) ≡ bodies_in file 0 (entries_in file)
  unfolding job_of
  bodies_again =
      let n = l.lengths in
      let z = l.sizes in
      let pools = body_in file 1 in
      let stores = body_in file 2 in
      let handovers = body_in file 4 in
      let shortest = body_in file 5 in
      rw (
        head_again (form_in file) (body_in file 0) pools stores (body_in file 3) handovers shortest (body_bytes file h 0)
            (rw (n 0) z.whole_head) (rw (n 0) z.short_head),
        amounts_again pools (body_bytes file h 1) (rw (n 1) z.whole_pools),
        amounts_again stores (body_bytes file h 2) (rw (n 2) z.whole_stores),
        actions_again (length pools / 4) (length stores / 4) (body_in file 3) (body_bytes file h 3)
            (rw (n 1, n 2, n 3) z.whole_actions),
      )
      (one_by_one (form_in file) refl handovers shortest refl refl (decoded file)
      (numbers_again 1 handovers (omega arith) (body_bytes file h 4) (omega arith))
      (numbers_again 1 shortest (omega arith) (body_bytes file h 5) (omega arith)))

pub read_write : (file : List ℕ) → Bytes file → first (read_rows file) ≡ pass → file_of (decoded file) ≡ file
unfolding file_of
read_write file h passes =
    let l = (passes_laid file passes).0 in
    let n = entries_in file in
    ap file_of_bodies (bodies_again file h l)
    ∙ file_when_in_row file h (bodies_in file 0 n) (rw (count_in file 0 n) l.row)
