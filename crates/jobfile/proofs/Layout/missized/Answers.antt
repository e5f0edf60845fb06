-- `missized` meets its contract: the code is the definition.
use native.Mathlib.Nat.{one-mul}
use Rattle.jobfile.specs.File.{missized}
use Rattle.jobfile.proofs.Layout.missized.Goals as goal

pub returns : goal.returns
unfolding missized
returns c =
    let c-action-size = c.action_size-action in
    let c-handovers = c.handovers in
    rw (c-handovers.ensures, c.shortest.ensures, c-action-size.ensures) (simp one-mul)
