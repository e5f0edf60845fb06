-- A plan by value, step by step.
-- Assumes nothing.
use Prim.Native.Nat.{ℕ, ◌<◌}
use native.Mathlib.Omega.{arith}
use Rattle.lists.specs.Lists.{Each}
use Rattle.lists.proofs.Tabulate.{each_at, get_d_tabulate, length_tabulate}
use Rattle.timeline.specs.declared.Plan.{Plan}
use Rattle.timeline.specs.Step.{Step}
use Rattle.timeline.specs.Value.{step_at, steps_of}

pub each_of_plan : (F : Step → Type 0) (plan : Plan) → Each F (steps_of plan) → (i : ℕ) → i < plan.length
    → F (step_at plan i)
each_of_plan F plan each i l =
    let steps = length_tabulate plan.length (step_at plan) in
    let here = each_at F (steps_of plan) (step_at plan i) each i (omega arith) in
    rw (get_d_tabulate plan.length (step_at plan) i (step_at plan i) l) at here
