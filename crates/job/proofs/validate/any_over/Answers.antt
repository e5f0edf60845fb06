-- `any_over` meets its contract: every place has the one limit.
use Prim.Native.Nat.{ℕ}
use mathlib.Core.Path.{ap₂, ◌∙◌}
use mathlib.Core.List.{List}
use lib.ListN.{replicate}
use Rattle.job.proofs.BeyondLaws.{any_above, above_one_limit}
use Rattle.job.proofs.validate.any_over.Goals as goal

pub returns : goal.returns
returns c =
    let c-args = c.args in
    let c-pre = c.requires in
    c.any_above.ensures
    ∙ ap₂ (λ (most : ℕ) (xs : List ℕ). any_above c-args.n (replicate 4 most) xs) c.from-limits.ensures
    c.widened.ensures
    ∙ above_one_limit c-args.limit c-args.n c-args.amounts (c-pre)
