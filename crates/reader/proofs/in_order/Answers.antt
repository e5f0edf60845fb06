-- `in_order` meets its contract: the form tells the number of entries.
use Prim.Native.Nat.{ℕ, ◌*◌}
use mathlib.Core.Path.{ap, ◌∙◌}
use Rattle.job.specs.Job.{entries}
use Rattle.jobfile.specs.File.{gapless}
use Rattle.jobfile.proofs.Lengths.{most_entries}
use native.Mathlib.Omega.{arith}
use Rattle.reader.proofs.in_order.Goals as goal

pub gapless-requires : goal.gapless-requires
gapless-requires c =
    let n = c.entries.ensures in
    let few = most_entries c.args.form in
    let room = c.requires.1 in
    (omega arith, omega arith)

pub returns : goal.returns
returns c =
    let file = c.args.file.now in
    c.gapless.ensures
    ∙ ap (λ (n : ℕ). gapless file (4 * n) 0 n) (c.entries.ensures ∙ ap entries c.requires.0)
