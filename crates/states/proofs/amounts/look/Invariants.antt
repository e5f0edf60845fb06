-- `look` meets its contract: the first k steps are joined.
use Prim.Native.Nat.{ℕ}
use mathlib.Core.List.{List}
use Rattle.job.specs.Resources.{HandoversOf}
use Rattle.job.specs.Job.{Job}
use Rattle.tables.specs.Tables.{chosen_to, Known, DescribesEach}
use Rattle.states.specs.Amounts.{Small, UsesOf}
use Rattle.states.proofs.amounts.look.Given as goal

abbrev pub invariant-loop-k : goal.invariant-loop-k
invariant-loop-k l =
    Small l.k l.uses
    × ((J : Job) (sets : List ℕ) (actions : ℕ) → Known actions l.steps → DescribesEach J sets l.numbers actions
    → HandoversOf J l.handovers → UsesOf J l.t (chosen_to J l.steps l.k) l.uses)
