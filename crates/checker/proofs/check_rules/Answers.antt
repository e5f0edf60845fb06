-- `check_rules` meets its contract: the first of its tests that fails, or the clock at the end.
use Rattle.std.proofs.Common.{rules, refl, sym, ◌∙◌}
use Rattle.job.specs.declared.refusal.Refusal.TheVariants.{Clash, PoolExceeded, StoreExceeded}
use Rattle.job.specs.Job.{job_in}
use Rattle.checker.proofs.ChainLaws.{check_passes, check_fails}
use Rattle.checker.proofs.check_rules.Goals as goal

pub returns-in_err-clashes : goal.returns-in_err-clashes
returns-in_err-clashes c =
    rw (check_fails Clash _ _ _ (sym c.clashes.ensures ∙ c.in_err-clashes.was)) (search rules)

pub returns-in_err-within : goal.returns-in_err-within
returns-in_err-within c =
    rw (
      check_passes Clash _ _ (sym c.clashes.ensures ∙ c.in_ok-clashes.was),
      check_fails PoolExceeded _ _ _ (sym c.within.ensures ∙ c.in_err-within.was),
    ) (search rules)

pub returns-in_err-stores : goal.returns-in_err-stores
returns-in_err-stores c =
    rw (
      check_passes Clash _ _ (sym c.clashes.ensures ∙ c.in_ok-clashes.was),
      check_passes PoolExceeded _ _ (sym c.within.ensures ∙ c.in_ok-within.was),
      check_fails StoreExceeded _ _ _ (sym c.stores.ensures ∙ c.in_err-stores.was),
    ) (search rules)

pub returns : goal.returns
returns c =
    rw (
      check_passes Clash _ _ (sym c.clashes.ensures ∙ c.in_ok-clashes.was),
      check_passes PoolExceeded _ _ (sym c.within.ensures ∙ c.in_ok-within.was),
      check_passes StoreExceeded _ _ (sym c.stores.ensures ∙ c.in_ok-stores.was),
    ) (c.watch.ensures (job_in c.args.job) refl)
