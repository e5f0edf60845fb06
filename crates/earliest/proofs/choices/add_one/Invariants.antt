-- `add_one` meets its contract: the facts below `q` are done.
use Prim.Native.Nat.{ℕ}
use mathlib.Core.Path.{◌≡◌}
use mathlib.Core.Bool.{true}
use lib.ListN.{length}
use Rattle.job.specs.Job.{Job}
use Rattle.job.specs.declared.Counts.{Counts}
use Rattle.times.specs.Earliest.{action_of, fits_alone}
use Rattle.earliest.specs.Lowering.{Lowerable, Lowering}
use Rattle.earliest.specs.Sweep.{IsAction, CarriedSettled}
use Rattle.earliest.proofs.Loops.{Below}
use Rattle.earliest.proofs.choices.add_one.Given as goal

abbrev pub invariant-loop-q : goal.invariant-loop-q
invariant-loop-q l =
    (length l.table ≡ 2080)
    × ((J : Job) (i : ℕ) (n : Counts) → Lowerable J l.initial.table → IsAction J l.facts i n l.action
    → fits_alone J (action_of J i) ≡ true → Lowering J (Below (CarriedSettled J i) l.q) l.initial.table l.table l.changed)
