-- `gapless` meets its contract: the bodies before entry k stand in a row up to `at`.
use Prim.Native.Nat.{◌+◌, ◌-◌}
use mathlib.Core.Path.{◌≡◌, ap, sym, ◌∙◌}
use Rattle.jobfile.specs.File.{gapless}
use Rattle.reader.proofs.ContentsLaws.{gapless_broken, gapless_next, gapless_end}
use native.Mathlib.Omega.{arith}
use Rattle.reader.proofs.gapless.Goals as goal

pub loop-k-init : goal.loop-k-init
loop-k-init c =
    let n = c.args.entries in
    let e : n - 0 ≡ n = omega arith in
    (omega arith, rw e)

pub returns-then-short-at : goal.returns-then-short-at
returns-then-short-at c =
    let file = c.args.file.now in
    let n = c.args.entries in
    let l = c.loop-k in
    sym (l.invariant.1 ∙ gapless_broken file l.at l.k (n - l.k) (omega arith)
    (λ e. c.if-short-at.true (c.short.ensures.0 ∙ e)))

pub loop-k-preserved : goal.loop-k-preserved
loop-k-preserved c =
    let file = c.args.file.now in
    let n = c.args.entries in
    let l = c.loop-k in
    let d : n - l.k - 1 ≡ n - (l.k + 1) = omega arith in (
      omega arith,
      l.invariant.1
          ∙ gapless_next file l.at l.k (n - l.k) (omega arith)
          (sym c.short.ensures.0 ∙ c.if-short-at.false)
          ∙ rw (c.short-at.ensures.0, d),
    )

pub returns : goal.returns
returns c =
    let file = c.args.file.now in
    let n = c.args.entries in
    let l = c.loop-k in
    let d : n - l.k ≡ 0 = omega arith in
    sym (l.invariant.1 ∙ ap (gapless file l.at l.k) d ∙ gapless_end file l.at l.k)
