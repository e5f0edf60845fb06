-- `known_actions` meets its contract: the actions of the first i steps are known.
use Prim.Native.Nat.{◌/◌}
use mathlib.Core.Path.{◌≡◌, sym, ◌∙◌}
use mathlib.Core.Bool.{false}
use mathlib.Core.List.{[]}
use mathlib.Core.Logic.{⊎_elim}
use native.Mathlib.Nat.{eq-or-lt_of_le}
use lib.ListN.{length}
use borrow.Author.Tests.{le-leb, lt-leb}
use Rattle.lists.specs.Lists.{tabulate}
use Rattle.lists.proofs.Bools.{absurd}
use Rattle.lists.proofs.Any.{any_found, none_any}
use Rattle.lists.proofs.Tabulate.{each_tabulate}
use Rattle.job.specs.declared.refusal.Refusal.TheVariants.{UnknownAction}
use Rattle.job.specs.Job.{job_in}
use Rattle.job.specs.Refusal.{first}
use Rattle.job.proofs.Table.{first_here, first_next}
use Rattle.timeline.specs.Step.{steps_in}
use Rattle.timeline.specs.Accepted.{unknown}
use Rattle.checker.proofs.PlanBytes.{step_in_at, unknown_by_byte}
use native.Mathlib.Omega.{arith}
use Rattle.checker.proofs.decode.known_actions.Goals as goal

pub loop-i-init : goal.loop-i-init
loop-i-init c = λ k h. absurd (omega arith)

pub returns-then-counts-from : goal.returns-then-counts-from
unfolding steps_in
returns-then-counts-from c =
    let j = c.args.job in
    let bytes = c.args.bytes.now in
    let i = c.loop-i.i in
    sym (first_here UnknownAction _ []
    (any_found (unknown (job_in j)) (step_in_at (job_in j) bytes) i (length bytes / 3) (omega arith)
    (unknown_by_byte j bytes i (omega arith) ∙ (rw c.from.ensures at (le-leb _ _ c.if-counts-from.true)))))

pub loop-i-preserved : goal.loop-i-preserved
loop-i-preserved c =
    let l = c.loop-i in
    let known = rw c.from.ensures at c.if-counts-from.false in λ k h. ⊎_elim (λ e. let q : k ≡ l.i = omega arith in rw q known) (λ b. l.invariant k (omega arith))
    (eq-or-lt_of_le h)

pub returns : goal.returns
unfolding first steps_in
returns c =
    let j = c.args.job in
    let bytes = c.args.bytes.now in
    let l = c.loop-i in
    sym (first_next UnknownAction _ []
    (none_any (unknown (job_in j)) (tabulate (length bytes / 3) (step_in_at (job_in j) bytes))
    (each_tabulate (λ x. unknown (job_in j) x ≡ false) (length bytes / 3) (step_in_at (job_in j) bytes)
    (λ k h. unknown_by_byte j bytes k h ∙ lt-leb _ _ (l.invariant k (omega arith))))))
