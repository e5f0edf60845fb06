-- `clash_set` meets its contract: the clashing actions below j are in the set.
use Rattle.std.proofs.Common.{ap, ◌∙◌, cond}
use Rattle.job.specs.Job.{job_in}
use Rattle.tables.proofs.FillLaws.{clashes_at_first, clashes_next, clash_of_values}
use Rattle.tables.proofs.fill.clash_set.Goals as goal

pub loop-j-init : goal.loop-j-init
loop-j-init c = clashes_at_first (job_in c.args.job) c.args.i

pub loop-j-preserved : goal.loop-j-preserved
loop-j-preserved c =
    let job = c.args.job in
    let i = c.args.i in
    let j = c.loop-j.j in
    let same = clash_of_values job i j c.clash.result c.requires.1 c.loop-j-test.true c.clash.ensures in
    clashes_next (job_in job) i j c.loop-j.set c.when-member.result _ c.clash.result c.loop-j.invariant same
    (c.when-member.ensures ∙ ap (λ m. cond c.clash.result m 0) c.single.ensures) c.union-set.ensures.1
