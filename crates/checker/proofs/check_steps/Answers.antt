-- `check_steps` meets its contract: the order, the rules, then the goal.
use Rattle.std.proofs.Common.{rules, Ok, ap, sym, ◌∙◌, [], ◌∷◌, not}
use Rattle.job.specs.declared.refusal.Refusal.TheVariants.{GoalMissing}
use Rattle.facts.specs.FactSet.{subset}
use Rattle.job.specs.Refusal.{Verdict, ◌when◌, first}
use Rattle.checker.specs.declared.clock.Clock.{Clock}
use Rattle.timeline.specs.Accepted.{step_rows}
use Rattle.checker.proofs.ChainLaws.{passed_by, refused_by, value_by}
use Rattle.job.proofs.Table.{first_append_pass, first_append_refused}
use Rattle.checker.proofs.check_steps.Goals as goal

pub returns-in_err-last : goal.returns-in_err-last
unfolding step_rows
returns-in_err-last c =
    rw (first_append_refused _ _ _ (refused_by _ _ _ (sym c.check_order.ensures ∙ c.in_err-last.was))) (search rules)

pub returns-in_err-clock : goal.returns-in_err-clock
unfolding step_rows
returns-in_err-clock c =
    rw (
      first_append_pass _ _ (passed_by _ _ _ (sym c.check_order.ensures ∙ c.in_ok-last.was)),
      first_append_refused _ _ _ (refused_by _ _ _ (sym c.check_rules.ensures ∙ c.in_err-clock.was)),
    ) (search rules)

pub returns-in_err-goal : goal.returns-in_err-goal
unfolding step_rows
returns-in_err-goal c =
    let clock = value_by _ _ _ (sym c.check_rules.ensures ∙ c.in_ok-clock.was) in
    let met : Clock → Verdict = λ k. first (GoalMissing when not (subset c.args.goal k.facts) ∷ []) in
    rw (
      first_append_pass _ _ (passed_by _ _ _ (sym c.check_order.ensures ∙ c.in_ok-last.was)),
      first_append_pass _ _ (passed_by _ _ _ (sym c.check_rules.ensures ∙ c.in_ok-clock.was)),
      ap met clock ∙ sym c.goal.ensures ∙ c.in_err-goal.was,
    ) (search rules)

pub returns : goal.returns
unfolding step_rows
returns c =
    let clock = value_by _ _ _ (sym c.check_rules.ensures ∙ c.in_ok-clock.was) in
    let met : Clock → Verdict = λ k. first (GoalMissing when not (subset c.args.goal k.facts) ∷ []) in
    rw (
      first_append_pass _ _ (passed_by _ _ _ (sym c.check_order.ensures ∙ c.in_ok-last.was)),
      first_append_pass _ _ (passed_by _ _ _ (sym c.check_rules.ensures ∙ c.in_ok-clock.was)),
      ap met clock ∙ sym c.goal.ensures ∙ c.in_ok-goal.was,
    )
    (ap Ok (sym (value_by _ _ _ (sym c.check_order.ensures ∙ c.in_ok-last.was))))
