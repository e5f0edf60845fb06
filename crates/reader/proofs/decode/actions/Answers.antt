-- `actions`: a turn puts one action more behind those that stand there.
use Prim.Native.Nat.{◌<◌, ◌/◌}
use mathlib.Core.Path.{◌≡◌, ap, sym, ◌∙◌}
use native.Mathlib.Omega.{arith}
use lib.ListN.{length, replicate}
use Rattle.lists.proofs.Tabulate.{filled_none, filled_next}
use Rattle.job.specs.Job.{unused_action, action_value}
use Rattle.jobfile.specs.File.{action_size}
use Rattle.reader.specs.View.{action_at}
use Rattle.reader.proofs.decode.actions.Goals as goal

pub loop-i-init : goal.loop-i-init
loop-i-init c =
    ap (replicate 64) c.unused-unused.ensures
    ∙ sym (filled_none 64 unused_action action_value (action_at c.args.bytes.now c.args.pools c.args.stores))

pub loop-i-preserved : goal.loop-i-preserved
loop-i-preserved c =
    let read = action_at c.args.bytes.now c.args.pools c.args.stores in
    let count : c.count-count.result ≡ length c.args.bytes.now / action_size c.args.pools c.args.stores = cc in
    let taken : c.action.result ≡ action_value (read c.loop-i.i) = cc in
    let few : c.loop-i.i < 64 = omega arith in
    rw (taken, c.loop-i.invariant) (filled_next 64 unused_action action_value read c.loop-i.i few)
