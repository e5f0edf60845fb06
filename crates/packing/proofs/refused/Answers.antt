-- `refused` meets its contract.
use Rattle.std.proofs.Common.{ℕ, ap, ◌∙◌}
use Rattle.packing.specs.Answer.{packed}
use Rattle.packing.proofs.refused.Goals as goal

pub returns : goal.returns
returns c = c.pack.ensures ∙ ap (λ (n : ℕ). packed 1 n 0 0) c.from.ensures
