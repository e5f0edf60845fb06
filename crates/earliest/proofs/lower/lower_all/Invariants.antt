-- `lower_all` meets its contract: the entries of the facts of the set below `p` are lowered.
use Prim.Native.Nat.{◌-◌}
use Rattle.earliest.specs.Lowering.{RowAtMost}
use Rattle.earliest.proofs.Loops.{Swept}
use Rattle.earliest.proofs.Members.{AllAble}
use Rattle.earliest.proofs.lower.lower_all.Given as goal

abbrev pub invariant-loop-p : goal.invariant-loop-p
invariant-loop-p l =
    Swept l.set l.facts (AllAble l.facts l.set l.time l.initial.table l.other) (λ k. RowAtMost k l.other l.time l.facts) l.initial.table l.p l.table l.changed

abbrev pub decreases-loop-p : goal.decreases-loop-p
decreases-loop-p l = 64 - l.p
