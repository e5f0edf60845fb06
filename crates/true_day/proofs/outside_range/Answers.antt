-- `outside_range` meets its contract: the shortest length is that of the step's action.
use Prim.Native.Nat.{ℕ}
use mathlib.Core.Path.{sym, ap, ◌∙◌}
use mathlib.Core.Bool.{◌||◌}
use lib.Dec.{ltb}
use lib.ListN.{get_or}
use Rattle.job.specs.Lengths.{shortest_by}
use Rattle.job.proofs.LengthLaws.{longest_is, shortest_is}
use Rattle.true_day.proofs.outside_range.Goals as goal

pub returns : goal.returns
returns c =
    let a = c.args in
    let i = a.step.number in
    let d = a.step.action.duration in
    let known = c.requires.1 in
    let longest = ap (shortest_by a.job.form (get_or a.job.shortest i 0))
    (c.requires.2 ∙ sym (longest_is a.job i known)) in
    ap (λ (n : ℕ). ltb a.length n || ltb d a.length)
    ((rw c.from-number.ensures at c.shortest-least.ensures) ∙ longest ∙ shortest_is a.job i known)
