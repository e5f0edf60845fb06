-- `sums` meets its contract: place by place.
use Rattle.std.proofs.Common.{ℕ, ◌+◌, arith, sym, ap, ap₂, ◌∙◌}
use Rattle.lists.specs.Lists.{firsts}
use Rattle.lists.proofs.Tabulate.{firsts_all, tabulate_same}
use Rattle.pooling.proofs.Sums.{get_d_filled}
use Rattle.pooling.proofs.Arrays.{sums_by_place}
use Rattle.pooling.proofs.amounts.sums.Goals as goal

pub returns : goal.returns
returns c =
    let xs = c.args.a.now in
    let ys = c.args.b.now in
    let out = c.loop-place.sums in
    sym (firsts_all out 0)
    ∙ ap (λ (i : ℕ). firsts i 0 out) c.loop-place.invariant.0
    ∙ tabulate_same 4 _ _
    (λ k l. c.loop-place.invariant.1 k (omega arith)
    ∙ ap₂ ◌+◌ (rw c.counted-mine.ensures (get_d_filled 4 xs k)) (rw c.counted-other.ensures (get_d_filled 4 ys k)))
    ∙ sums_by_place 4 xs ys c.requires.0 c.requires.1
