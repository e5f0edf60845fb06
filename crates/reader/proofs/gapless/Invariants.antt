-- `gapless` meets its contract: the bodies before entry k stand in a row up to `at`.
use Prim.Native.Nat.{◌+◌, ◌-◌, ◌*◌, ◌≤◌}
use mathlib.Core.Path.{◌≡◌}
use Rattle.jobfile.specs.File.{gapless}
use Rattle.reader.proofs.gapless.Given as goal

abbrev pub invariant-loop-k : goal.invariant-loop-k
invariant-loop-k l =
    (l.at ≤ 4 * l.entries + 65536 * l.k)
    × (gapless l.file (4 * l.entries) 0 l.entries ≡ gapless l.file l.at l.k (l.entries - l.k))
