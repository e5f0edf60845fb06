-- `decimal::decimal` reads the number of the text: from each place on it is what is read so far with the rest behind it.
use Rattle.std.proofs.Common.{rules, ◌<◌, length, subst, sym}
use Rattle.input.specs.Decimal.{Reads}
use Rattle.input.proofs.Decimals.{nothing_read, one_more_read, all_read}
use Rattle.input.proofs.decimal.decimal.Goals as goal

pub returns-in_err-x : goal.returns-in_err-x
returns-in_err-x c =
    let c-loop = c.loop-byte in
    subst (Reads c.args.most c.args.text.now) (sym c.from_residual.ensures)
    (λ some. nothing_read c.args.most _ c-loop.x c-loop.byte-index c-loop.invariant.1 c.loop-byte-test.true _
    c.with_digit.ensures c.in_err-x.was)

pub loop-byte-preserved : goal.loop-byte-preserved
loop-byte-preserved c =
    let c-loop = c.loop-byte in
    one_more_read c.args.most _ c-loop.x c-loop.byte-index c-loop.invariant.1 c.loop-byte-test.true _
    c.with_digit.ensures _ c.in_ok-x.was

pub returns : goal.returns
returns c =
    let some : 0 < length c.args.text.now = search rules in (
      some,
      all_read c.args.most _ c.loop-byte.x c.loop-byte.byte-index c.loop-byte.invariant.1 c.loop-byte-test.false
          c.loop-byte.invariant.0,
    )
