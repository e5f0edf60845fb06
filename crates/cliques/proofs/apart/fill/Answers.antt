-- `fill` meets its contract: of the facts apart from a fact, those that the first i actions bar are gone.
use mathlib.Core.Path.{◌≡◌}
use native.Mathlib.Omega.{arith}
use Rattle.landmarks.proofs.TableLaws.{kept_again}
use Rattle.cliques.proofs.FillLaws.{apart_on}
use Rattle.cliques.proofs.apart.fill.Goals as goal

pub loop-i-preserved : goal.loop-i-preserved
loop-i-preserved c =
    let a = c.args in
    let inv = c.loop-i.invariant in
    let r = c.lessen.ensures in (
      kept_again 320 384 _ _ _ inv.0 r.kept,
      apart_on _ _ a.numbers.now a.times.now a.frame c.loop-i.i _ c.loop-i-test.true c.requires.2.actions
          c.beside-away.ensures r inv.1,
    )

pub returns : goal.returns
returns c =
    let inv = c.loop-i.invariant in
    let all : c.loop-i.i ≡ c.args.frame.actions = omega arith in
    (kept_again 320 384 _ _ _ c.begin.ensures inv.0, rw all at inv.1)
