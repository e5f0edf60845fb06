-- `same` meets its contract: each part of the two jobs is compared.
use Rattle.std.proofs.Common.{rules}
use Rattle.job.proofs.Agree.{first_decides}
use Rattle.job.proofs.SameParts.{same_form, same_rule, same_counts, same_job}
use Rattle.job.proofs.same.same.Goals as goal

pub returns : goal.returns
returns c =
    let a = c.args.a in
    let b = c.args.b in
    let f = same_form a.form b.form in
    let r = same_rule a.rule b.rule in
    let n = same_counts a.counts b.counts in
    rw (c.eq.ensures, c.eq-2.ensures, c.reserve.ensures, c.reserve-2.ensures, c.eq-3.ensures, c.same_first.ensures, c.same_first-2.ensures, c.handovers.ensures, c.same_first-3.ensures, c.same_first-4.ensures, c.shortest.ensures)
    (same_job a b f r n
    (first_decides _ a.pools b.pools (search rules))
    (first_decides _ a.handovers b.handovers (search rules))
    (first_decides _ a.stores b.stores (search rules))
    (first_decides _ a.shortest b.shortest (search rules))
    c.same_actions.ensures)
