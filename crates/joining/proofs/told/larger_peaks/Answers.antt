-- `larger_peaks` meets its contract: at each place the larger of two.
use Rattle.std.proofs.Common.{ℕ, arith, ap, sym, ◌∙◌}
use Rattle.lists.specs.Lists.{firsts}
use Rattle.lists.proofs.Tabulate.{firsts_all, tabulate_same}
use Rattle.joining.proofs.told.larger_peaks.Goals as goal

pub returns : goal.returns
returns c =
    let xs = c.loop-pool.larger in
    sym (firsts_all xs 0)
    ∙ ap (λ (m : ℕ). firsts m 0 xs) c.loop-pool.invariant.0
    ∙ tabulate_same 4 _ _ (λ k l. c.loop-pool.invariant.1 k (omega arith))
