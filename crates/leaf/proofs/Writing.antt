-- The steps written as bytes, one after the other.
-- Assumes nothing.
use Prim.Native.Nat.{ℕ, ◌+◌, ◌*◌, ◌≤◌}
use mathlib.Core.Path.{◌≡◌, ap, ◌∙◌}
use mathlib.Core.List.{List, ◌++◌}
use native.Mathlib.Omega.{arith}
use lib.ListN.{length}
use Rattle.lists.specs.Lists.{tabulate}
use Rattle.encoding.specs.Bytes.{to_bytes, overwrite}
use Rattle.encoding.proofs.Numbers.{length_bytes}
use Rattle.encoding.proofs.Overwrite.{overwrite_overwrite, pieces_none, pieces_more}
use Rattle.job.specs.Job.{Job}
use Rattle.timeline.specs.Step.{step_bytes, plan_bytes}
use Rattle.timeline.proofs.PlanBytes.{length_step_bytes}
use Rattle.tables.specs.declared.Steps.{Steps}
use Rattle.leaf.specs.Order.{placed, WritesPlan}

-- the number, then the start
pub step_written : (o a b : List ℕ) (at number start : ℕ) → at + 3 ≤ length o → a ≡ overwrite o at (to_bytes 1 number)
    → b ≡ overwrite a (at + 1) (to_bytes 2 start) → b ≡ overwrite o at (to_bytes 1 number ++ to_bytes 2 start)
step_written o a b at number start l p q =
    let n = length_bytes 1 number in
    q
    ∙ ap (λ (xs : List ℕ). overwrite xs (at + 1) (to_bytes 2 start)) p
    ∙ overwrite_overwrite o at (to_bytes 1 number) (to_bytes 2 start) (at + 1) (omega arith) (omega arith)

-- the first k steps stand at the front
abbrev pub Wrote : Steps → List ℕ → List ℕ → ℕ → Type 0
Wrote steps o out k = (J : Job) → out ≡ overwrite o 0 (plan_bytes (tabulate k (placed J steps)))

pub wrote_none : (steps : Steps) (o : List ℕ) → Wrote steps o o 0
unfolding plan_bytes
wrote_none steps o J = pieces_none step_bytes (placed J steps) 3 (λ k. length_step_bytes (placed J steps k)) o 0

pub wrote_more : (steps : Steps) (o out : List ℕ) (k : ℕ) → Wrote steps o out k → k * 3 ≤ length o → (new : List ℕ)
    → ((J : Job) → new ≡ overwrite out (k * 3) (step_bytes (placed J steps k))) → Wrote steps o new (k + 1)
unfolding plan_bytes
wrote_more steps o out k h l new e J =
    let z : k * 3 ≡ 0 + k * 3 = omega arith in
    e J
    ∙ ap (λ (xs : List ℕ). overwrite xs (k * 3) (step_bytes (placed J steps k))) (h J)
    ∙ pieces_more step_bytes (placed J steps) 3 (λ j. length_step_bytes (placed J steps j)) o 0 k (k * 3) z l

pub wrote_all : (steps : Steps) (o out : List ℕ) (k : ℕ) → Wrote steps o out k → k ≡ steps.count
    → WritesPlan steps o out
wrote_all steps o out k h e J =
    h J ∙ ap (λ (n : ℕ). overwrite o 0 (plan_bytes (tabulate n (placed J steps)))) e
