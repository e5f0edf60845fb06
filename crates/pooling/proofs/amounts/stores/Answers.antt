-- `stores` meets its contract: each front is the job's own list.
use Rattle.std.proofs.Common.{rules, arith, ◌≡◌, length, List, ℕ, ap₂, ◌∙◌}
use Rattle.std.proofs.lemmas.List.{length-take}
use Rattle.lists.specs.Lists.{filled}
use Rattle.pooling.specs.Pooled.{plus}
use Rattle.pooling.proofs.Arrays.{front_firsts}
use Rattle.pooling.proofs.amounts.stores.Goals as goal

pub sums-requires : goal.sums-requires
sums-requires c =
    let mine = c.args.first in
    let other = c.args.second in
    let n = c.requires.fits_first.1 in
    let m = c.requires.fits_second.1 in
    let four : length mine.stores ≡ 4 = search rules in
    let too : length other.stores ≡ 4 = search rules in (
      omega (arith, length-take mine.counts.stores mine.stores),
      omega (arith, length-take other.counts.stores other.stores),
      rw (front_firsts mine.counts.stores mine.stores (omega arith)) c.requires.passed_first.stores,
      rw (front_firsts other.counts.stores other.stores (omega arith)) c.requires.passed_second.stores,
    )

pub returns : goal.returns
returns c =
    let mine = c.args.first in
    let other = c.args.second in
    let n = c.requires.fits_first.1 in
    let m = c.requires.fits_second.1 in
    let four : length mine.stores ≡ 4 = search rules in
    let too : length other.stores ≡ 4 = search rules in
    c.sums.ensures
    ∙ ap₂ (λ (xs ys : List ℕ). filled 4 0 (plus xs ys)) (front_firsts mine.counts.stores mine.stores (omega arith))
    (front_firsts other.counts.stores other.stores (omega arith))
