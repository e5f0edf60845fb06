-- `wrong_size` meets its contract: no form has less than four entries.
use mathlib.Core.Path.{sym}
use Rattle.jobfile.proofs.Lengths.{most_entries}
use Rattle.reader.proofs.ContentsLaws.{too_short}
use native.Mathlib.Omega.{arith}
use Rattle.reader.proofs.wrong_size.Goals as goal

pub returns-then-length-lt-FOUR_ENTRIES : goal.returns-then-length-lt-FOUR_ENTRIES
returns-then-length-lt-FOUR_ENTRIES c = sym (too_short c.args.file.now c.if-length-lt-FOUR_ENTRIES.true)

pub overflow_mul-result : goal.overflow_mul-result
overflow_mul-result c =
    let e = c.entries.ensures in
    let m = most_entries c.form_in-form.result in
    omega arith

pub returns : goal.returns
returns c = rw (c.entries.ensures, c.form_in-form.ensures)
