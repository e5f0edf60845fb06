-- A step in the bytes of a plan: the byte of its action and the two of its start.
-- Assumes nothing.
use Prim.Native.Nat.{ℕ, ◌+◌, ◌*◌, ◌/◌, ◌%◌, ◌<◌, ◌≤◌}
use mathlib.Core.Path.{◌≡◌, ap, sym, ◌∙◌}
use mathlib.Core.Bool.{false, not}
use mathlib.Core.List.{List}
use native.Mathlib.Omega.{arith}
use lib.Dec.{eqb, leb}
use lib.ListN.{length, get_or, set}
use lib.Seq.{get_or-set_same, get_or-set_other}
use native.Mathlib.Decide.{dec_lt}
use borrow.Author.Tests.{leb-false, ltb-false}
use Rattle.lists.specs.Lists.{tabulate, any}
use Rattle.lists.proofs.Bools.{or_right}
use Rattle.lists.proofs.Tabulate.{length_tabulate, each_at, get_d_tabulate}
use Rattle.lists.proofs.Any.{any_none}
use Rattle.encoding.specs.Bytes.{from_bytes, part}
use Rattle.encoding.proofs.Parts.{part_part}
use Rattle.encoding.proofs.Pieces.{piece_within}
use Rattle.encoding.proofs.ReadLoop.{number_step}
use Rattle.job.specs.declared.Job as held
use Rattle.job.specs.Job.{Job, job_in, action_at}
use Rattle.timeline.specs.Step.{Step, step_of, step_in, steps_in}
use Rattle.timeline.specs.Accepted.{unknown, wrong_size}

-- the step at place i of a plan
abbrev pub step_in_at : Job → List ℕ → ℕ → Step
step_in_at J bytes i = step_in J (part bytes (i * 3) 3)

byte_read : (bytes : List ℕ) (at : ℕ) → at < length bytes → from_bytes (part bytes at 1) ≡ get_or bytes at 0
unfolding from_bytes
byte_read bytes at h = number_step bytes at 0 h ∙ omega arith

pub step_by_bytes : (J : Job) (bytes : List ℕ) (i : ℕ) → i < length bytes / 3
    → step_in_at J bytes i ≡ step_of J (get_or bytes (i * 3) 0) (from_bytes (part bytes (i * 3 + 1) 2))
step_by_bytes J bytes i h =
    let w = piece_within (length bytes) 3 i h in
    let z : i * 3 + 0 ≡ i * 3 = omega arith in
    let a : part (part bytes (i * 3) 3) 0 1 ≡ part bytes (i * 3) 1 =
    part_part bytes (i * 3) 3 0 1 (omega arith) ∙ ap (λ (k : ℕ). part bytes k 1) z in
    let b = part_part bytes (i * 3) 3 1 2 (omega arith) in
    rw (a, b, byte_read bytes (i * 3) (omega arith))

-- an action is unknown exactly if its byte is not below the count
pub unknown_by_byte : (j : held.Job) (bytes : List ℕ) (i : ℕ) → i < length bytes / 3
    → unknown (job_in j) (step_in_at (job_in j) bytes i) ≡ leb j.counts.actions (get_or bytes (i * 3) 0)
unknown_by_byte j bytes i h =
    ap (unknown (job_in j)) (step_by_bytes (job_in j) bytes i h)
    ∙ ap (λ (n : ℕ). leb n (get_or bytes (i * 3) 0)) (length_tabulate j.counts.actions (action_at j))

-- where no action is unknown, each byte is below the count
pub known_byte : (j : held.Job) (bytes : List ℕ) (i : ℕ) → i < length bytes / 3
    → any (unknown (job_in j)) (steps_in (job_in j) bytes) ≡ false → get_or bytes (i * 3) 0 < j.counts.actions
unfolding steps_in
known_byte j bytes i h none =
    let n = length bytes / 3 in
    let at = step_in_at (job_in j) bytes in
    let l = length_tabulate n at in
    let e = any_none (unknown (job_in j)) (tabulate n at) none in
    let f = each_at (λ x. unknown (job_in j) x ≡ false) (tabulate n at) (at i) e i (omega arith) in
    let g : unknown (job_in j) (at i) ≡ false = rw (get_d_tabulate n at i (at i) h) at f in
    leb-false j.counts.actions (get_or bytes (i * 3) 0) (sym (unknown_by_byte j bytes i h) ∙ g)

-- one place more of an array whose first i places hold what they should
pub one_more : {A B : Type 0} (value : A → B) (at : ℕ → B) (d : A) (xs : List A) (i : ℕ) (x : A) → i < length xs
    → ((k : ℕ) → k < i → value (get_or xs k d) ≡ at k) → value x ≡ at i
    → (k : ℕ) → k < i + 1 → value (get_or (set xs i x) k d) ≡ at k
one_more value at d xs i x l h e k m =
    elim (dec_lt k i) [
      | yes b ↦ rw (get_or-set_other xs i k x d (omega arith)) (h k b)
      | no b ↦ let q : k ≡ i = omega arith in rw (q, get_or-set_same xs i x d l) e
    ]

-- a plan of the right size has at most 32 steps
pub few_steps_lem : (bytes : List ℕ) → wrong_size bytes ≡ false → length bytes / 3 ≤ 32
few_steps_lem bytes h =
    let l = ltb-false 96 (length bytes) (or_right (not (eqb (length bytes % 3) 0)) _ h) in
    omega arith
