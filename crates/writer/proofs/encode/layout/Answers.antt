-- `layout` meets its contract: the length of each body by the counts.
use mathlib.Core.Path.{refl, ap}
use Prim.Native.Nat.{ℕ, ◌*◌}
use Rattle.writer.proofs.ActionLaws.{few_action_bytes}
use Rattle.writer.proofs.LayoutLaws.{Counted, layout_is, small_layout}
use native.Mathlib.Omega.{arith}
use Rattle.writer.proofs.encode.layout.Goals as goal

pub overflow_mul-result-3 : goal.overflow_mul-result-3
overflow_mul-result-3 c =
    let few = few_action_bytes c.args.job.counts (c.requires) in
    rw c.action_size-size.ensures (omega arith)

pub returns : goal.returns
returns c =
    let job = c.args.job in
    let lengths : Counted job _ =
    record {
      form = refl;
      head = c.head.ensures;
      pools = refl;
      stores = refl;
      actions = ap (λ (size : ℕ). job.counts.actions * size) c.action_size-size.ensures;
      handovers = c.handovers.ensures;
      shortest = c.shortest.ensures;
    } in
    (layout_is job _ lengths, small_layout job (c.requires) _ lengths)
