-- `fit_together` meets its contract: none of the first k pools is exceeded.
use Rattle.std.proofs.Common.{ℕ, ◌+◌, Bool, not, sym, ap, ◌∙◌, get_or, arith}
use Rattle.lists.proofs.Below.{below_more, below_found}
use Rattle.job.specs.Valid.{over}
use Rattle.earliest.proofs.allowed.fit_together.Goals as goal

pub returns-then-exceeded : goal.returns-then-exceeded
returns-then-exceeded c =
    let at = c.args in
    let k = c.loop-k.k in
    let test : ℕ → Bool = λ i. over (get_or at.available i 0) (get_or at.a.pools i 0 + get_or at.b.pools i 0) in
    sym (ap not (below_found at.pools test k (omega arith) (sym c.exceeded.ensures ∙ c.if-exceeded.true)))

pub loop-k-preserved : goal.loop-k-preserved
loop-k-preserved c =
    let at = c.args in
    let k = c.loop-k.k in
    let test : ℕ → Bool = λ i. over (get_or at.available i 0) (get_or at.a.pools i 0 + get_or at.b.pools i 0) in
    below_more k test ∙ rw (sym c.exceeded.ensures ∙ c.if-exceeded.false, c.loop-k.invariant)
