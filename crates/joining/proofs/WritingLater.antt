-- The steps of a plan written as bytes, so many minutes later, one after the other; a second plan behind the first.
-- Assumes nothing.
use Prim.Native.Nat.{ℕ, ◌+◌, ◌*◌, ◌-◌, ◌/◌, ◌%◌, ◌≤◌}
use mathlib.Core.Path.{◌≡◌, sym, ap, ap₂, ◌∙◌}
use mathlib.Core.List.{List, ◌++◌, map}
use native.Mathlib.Omega.{arith}
use lib.ListN.{length, take, drop, length-map}
use Rattle.lists.specs.Lists.{tabulate}
use Rattle.lists.proofs.Tabulate.{length_tabulate, map_tabulate}
use Rattle.encoding.specs.Bytes.{from_bytes, to_bytes, part, overwrite}
use Rattle.encoding.proofs.Numbers.{length_bytes}
use Rattle.encoding.proofs.Overwrite.{overwrite_overwrite, pieces_none, pieces_more}
use Rattle.encoding.proofs.Parts.{part_part}
use Rattle.job.specs.Job.{Job}
use Rattle.timeline.specs.Step.{Step, step_in, steps_in, step_bytes, plan_bytes}
use Rattle.timeline.proofs.PlanBytes.{length_step_bytes, length_plan_bytes}
use Rattle.joining.specs.Join.{later_by}
use Rattle.joining.specs.Inner.{WritesLater, WritesBoth}
use Rattle.joining.proofs.LaterSteps.{later_none}
use Rattle.joining.proofs.LentPart.{written_behind}

-- the bytes of the step at place `at`, so many minutes later
abbrev pub bytes_later : ℕ → List ℕ → ℕ → List ℕ
bytes_later minutes plan at =
    to_bytes 1 (from_bytes (part plan at 1)) ++ to_bytes 2 (minutes + from_bytes (part plan (at + 1) 2))

-- the number, then the start
pub step_written : (o a b plan : List ℕ) (at minutes number start : ℕ) → at + 3 ≤ length o
    → number ≡ from_bytes (part plan at 1) → start ≡ from_bytes (part plan (at + 1) 2)
    → a ≡ overwrite o at (to_bytes 1 number) → b ≡ overwrite a (at + 1) (to_bytes 2 (minutes + start))
    → b ≡ overwrite o at (bytes_later minutes plan at)
step_written o a b plan at minutes number start l n s p q =
    let one = length_bytes 1 number in
    q
    ∙ ap (λ (xs : List ℕ). overwrite xs (at + 1) (to_bytes 2 (minutes + start))) p
    ∙ overwrite_overwrite o at (to_bytes 1 number) (to_bytes 2 (minutes + start)) (at + 1) (omega arith) (omega arith)
    ∙ ap₂ {C = List ℕ} (λ (x y : ℕ). overwrite o at (to_bytes 1 x ++ to_bytes 2 (minutes + y))) n s

-- step i of the plan, so many minutes later
abbrev later_at : Job → ℕ → List ℕ → ℕ → Step
later_at J minutes plan i = later_by minutes (step_in J (part plan (i * 3) 3))

bytes_of_later : (J : Job) (minutes : ℕ) (plan : List ℕ) (i : ℕ)
    → step_bytes (later_at J minutes plan i) ≡ bytes_later minutes plan (i * 3)
bytes_of_later J minutes plan i =
    let z : i * 3 + 0 ≡ i * 3 = omega arith in
    let a : part (part plan (i * 3) 3) 0 1 ≡ part plan (i * 3) 1 =
    part_part plan (i * 3) 3 0 1 (omega arith) ∙ ap (λ (k : ℕ). part plan k 1) z in
    let b = part_part plan (i * 3) 3 1 2 (omega arith) in
    ap₂ {C = List ℕ} (λ (x y : List ℕ). to_bytes 1 (from_bytes x) ++ to_bytes 2 (minutes + from_bytes y)) a b

-- the first k steps stand at the front
abbrev pub WroteLater : ℕ → List ℕ → List ℕ → List ℕ → ℕ → Type 0
WroteLater minutes plan o out k = (J : Job) → out ≡ overwrite o 0 (plan_bytes (tabulate k (later_at J minutes plan)))

pub wrote_none : (minutes : ℕ) (plan o : List ℕ) → WroteLater minutes plan o o 0
unfolding plan_bytes
wrote_none minutes plan o J =
    pieces_none step_bytes (later_at J minutes plan) 3 (λ k. length_step_bytes (later_at J minutes plan k)) o 0

pub wrote_more : (minutes : ℕ) (plan o out : List ℕ) (k : ℕ) → WroteLater minutes plan o out k → k * 3 ≤ length o
    → (new : List ℕ) → new ≡ overwrite out (k * 3) (bytes_later minutes plan (k * 3))
    → WroteLater minutes plan o new (k + 1)
unfolding plan_bytes
wrote_more minutes plan o out k h l new e J =
    let z : k * 3 ≡ 0 + k * 3 = omega arith in
    e
    ∙ ap (overwrite out (k * 3)) (sym (bytes_of_later J minutes plan k))
    ∙ ap (λ (xs : List ℕ). overwrite xs (k * 3) (step_bytes (later_at J minutes plan k))) (h J)
    ∙ pieces_more step_bytes (later_at J minutes plan) 3 (λ j. length_step_bytes (later_at J minutes plan j)) o 0 k
    (k * 3) z l

pub wrote_all : (minutes : ℕ) (plan o out : List ℕ) (k : ℕ) → WroteLater minutes plan o out k → k ≡ length plan / 3
    → WritesLater minutes plan o out
unfolding steps_in
wrote_all minutes plan o out k h e J =
    h J
    ∙ ap (λ (n : ℕ). overwrite o 0 (plan_bytes (tabulate n (later_at J minutes plan)))) e
    ∙ ap (λ (P : List Step). overwrite o 0 (plan_bytes P))
    (sym (map_tabulate (later_by minutes) (length plan / 3) (λ i. step_in J (part plan (i * 3) 3))))

-- ---- the second plan behind the first
length_written : (J : Job) (plan : List ℕ) → length (plan_bytes (steps_in J plan)) ≡ 3 * (length plan / 3)
unfolding steps_in
length_written J plan =
    let count : length (steps_in J plan) ≡ length plan / 3 = length_tabulate _ _ in
    length_plan_bytes (steps_in J plan) ∙ ap (λ (n : ℕ). 3 * n) count

length_later : (J : Job) (minutes : ℕ) (plan : List ℕ)
    → length (plan_bytes (map (later_by minutes) (steps_in J plan))) ≡ 3 * (length plan / 3)
length_later J minutes plan =
    length_plan_bytes (map (later_by minutes) (steps_in J plan))
    ∙ ap (λ (n : ℕ). 3 * n) (length-map (steps_in J plan) (later_by minutes))
    ∙ sym (length_plan_bytes (steps_in J plan)) ∙ length_written J plan

pub both_written : (o xs ys a b : List ℕ) (minutes : ℕ) → length a % 3 ≡ 0 → length a + length b ≤ length o
    → WritesLater 0 a o xs → WritesLater minutes b (take (length xs - length a) (drop (length a) xs)) ys
    → WritesBoth minutes a b o
    (take (length a) xs ++ (ys ++ drop (length xs - length a) (drop (length a) xs)))
both_written o xs ys a b minutes whole room first second J =
    let n = length_written J a in
    let m = length_later J minutes b in
    written_behind o xs ys (plan_bytes (steps_in J a)) (plan_bytes (map (later_by minutes) (steps_in J b))) (length a)
    (omega arith) (omega arith)
    (first J ∙ ap (λ (P : List Step). overwrite o 0 (plan_bytes P)) (later_none (steps_in J a)))
    (second J)
