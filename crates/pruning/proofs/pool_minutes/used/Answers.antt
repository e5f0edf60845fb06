-- `used` meets its contract: what the first k steps use is added up.
use Prim.Native.Nat.{ℕ, ◌+◌, ◌*◌, ◌-◌, suc, min, max}
use mathlib.Core.Path.{◌≡◌, ap₂, ◌∙◌}
use lib.ListN.{get_or}
use native.Mathlib.Nat.{add_comm}
use native.Mathlib.Omega.{arith}
use Rattle.pruning.proofs.pool_minutes.used.Goals as goal

pub loop-k-preserved : goal.loop-k-preserved
loop-k-preserved c =
    let inv = c.loop-k.invariant in
    let most = inv.0 in
    let r = c.used_by-all.ensures in
    let small = r.1 in
    let below = c.requires.1.known c.loop-k.k c.loop-k-test.true in
    let next : c.loop-k.k + 1 ≡ suc c.loop-k.k = omega arith in
    let start : ℕ = get_or c.args.steps.starts c.loop-k.k 0 in (
      omega arith,
      λ J sets described inside.
          let d = described _ below in
          rw next
          (add_comm c.loop-k.all _
          ∙ ap₂ ◌+◌
          (r.0 ∙ ap₂ (λ (amount minutes : ℕ). amount * (min (start + minutes) c.args.t - max start c.args.from))
          (d.pools _ inside)
          d.duration)
          (inv.1 J sets described inside)),
    )

pub returns : goal.returns
returns c =
    let f = c.requires.1.few in
    let most = c.loop-k.invariant.0 in
    let all : c.loop-k.k ≡ c.args.steps.count = omega arith in
    (λ J sets described inside. rw all at (c.loop-k.invariant.1 J sets described inside), omega arith)
