-- `kept_plan` meets its contract: the first i steps of the plan are the last i kept ones.
use Rattle.std.proofs.Common.{refl, ◌∙◌, ◌-◌, arith}
use Rattle.lists.proofs.Tabulate.{tabulate_same}
use Rattle.job.specs.Job.{job_in}
use Rattle.begun.proofs.KeptSteps.{kept_at, last_first}
use Rattle.begun.proofs.kept_plan.Goals as goal

pub returns : goal.returns
returns c =
    let job = c.args.job in
    let kept = c.args.kept in (
      c.requires.1.few,
      refl,
      tabulate_same kept.count _ (λ k. kept_at (job_in job) kept (kept.count - 1 - k))
          (λ k l. c.loop-i.invariant.1 k (omega arith))
          ∙ last_first (job_in job) kept kept.count,
    )
