-- `same_action` meets its contract: each part of the two actions is compared.
use Rattle.std.proofs.Common.{rules}
use Rattle.job.proofs.Agree.{first_decides}
use Rattle.job.proofs.SameParts.{same_action}
use Rattle.job.proofs.same.same_action.Goals as goal

pub returns : goal.returns
returns c =
    let a = c.args.a in
    let b = c.args.b in
    let n = c.args.counts in
    rw (c.same_first.ensures, c.same_first-2.ensures)
    (same_action n a b (first_decides n.pools a.pools b.pools (search rules)) (first_decides n.stores a.stores b.stores (search rules)))
