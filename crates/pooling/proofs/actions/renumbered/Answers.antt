-- `renumbered` meets its contract: field by field; uses behind those that are counted are 0.
use Rattle.std.proofs.Common.{rules, ◌≡◌, length, List, ℕ, ap, ◌∙◌}
use Rattle.lists.specs.Lists.{firsts, filled}
use Rattle.pooling.proofs.Arrays.{filled_twice, front_firsts, length_firsts}
use native.Mathlib.Omega.{arith}
use Rattle.pooling.proofs.actions.renumbered.Goals as goal

pub returns : goal.returns
returns c =
    λ pools stores w.
    let a = c.args in
    let n = length_firsts a.counts.pools a.action.pools in
    let m = length_firsts a.counts.stores a.action.stores in
    let four : length a.action.pools ≡ 4 = search rules in
    let too : length a.action.stores ≡ 4 = search rules in
    let u = w.all_pools in
    let v = w.all_stores in
    rw (
      c.behind.ensures,
      c.behind-2.ensures,
      c.behind-3.ensures,
      c.counted.ensures
          ∙ ap (λ (xs : List ℕ). filled 4 0 xs) (front_firsts a.counts.pools a.action.pools (omega arith))
          ∙ filled_twice 4 pools (firsts a.counts.pools 0 a.action.pools) (omega arith) w.few_pools,
      c.counted-2.ensures
          ∙ ap (λ (xs : List ℕ). filled 4 0 xs) (front_firsts a.counts.stores a.action.stores (omega arith))
          ∙ filled_twice 4 stores (firsts a.counts.stores 0 a.action.stores) (omega arith) w.few_stores,
    )
