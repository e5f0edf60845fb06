-- `lower_row` meets its contract: the entries with the facts of the set below `q` are lowered.
use Prim.Native.Nat.{◌-◌}
use Rattle.earliest.specs.Lowering.{EntryAtMost}
use Rattle.earliest.proofs.Loops.{Swept}
use Rattle.earliest.proofs.Members.{RowAble}
use Rattle.earliest.proofs.lower.lower_row.Given as goal

abbrev pub invariant-loop-q : goal.invariant-loop-q
invariant-loop-q l =
    Swept l.set l.facts (RowAble l.facts l.set l.time l.initial.table l.p) (λ k. EntryAtMost l.p k l.time) l.initial.table l.q l.table l.changed

abbrev pub decreases-loop-q : goal.decreases-loop-q
decreases-loop-q l = 64 - l.q
