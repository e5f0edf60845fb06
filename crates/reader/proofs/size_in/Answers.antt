-- `size_in` meets its contract: the length in the contents, or none.
use borrow.Author.Tests.{lt-ltb, le-ltb}
use Rattle.jobfile.specs.File.{entries_in}
use native.Mathlib.Omega.{arith}
use Rattle.reader.proofs.size_in.Goals as goal

pub returns-then-entries-place : goal.returns-then-entries-place
returns-then-entries-place c =
    let file = c.args.file.now in
    let e = c.requires.0 in
    let none = le-ltb c.args.place (entries_in file) (omega arith) in
    (rw none, omega arith)

pub returns : goal.returns
returns c =
    let file = c.args.file.now in
    let e = c.requires.0 in
    let there = lt-ltb c.args.place (entries_in file) (omega arith) in
    (rw there c.short.ensures.0, c.short.ensures.1)
