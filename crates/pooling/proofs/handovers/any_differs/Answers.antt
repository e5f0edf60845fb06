-- `any_differs` meets its contract: two fronts differ where they differ at a place.
use Rattle.std.proofs.Common.{rules, arith, ◌≡◌, length, ◌∙◌}
use Rattle.pooling.proofs.Arrays.{fronts_differ}
use Rattle.pooling.proofs.handovers.any_differs.Goals as goal

pub returns : goal.returns
returns c =
    let one : length c.args.a ≡ 4 = search rules in
    let two : length c.args.b ≡ 4 = search rules in
    c.ne.ensures ∙ fronts_differ c.args.n c.args.a c.args.b (omega arith) (omega arith)
