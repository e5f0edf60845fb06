-- `actions` meets its contract: the first i are written.
use Prim.Native.Nat.{◌+◌, ◌*◌}
use mathlib.Core.Path.{◌≡◌, refl}
use Rattle.encoding.proofs.Pieces.{piece_below}
use Rattle.encoding.proofs.Overwrite.{pieces_none, pieces_more}
use Rattle.job.specs.Job.{action_at}
use Rattle.jobfile.specs.File.{action_bytes, action_size}
use Rattle.writer.proofs.ActionLaws.{length_action_at}
use native.Mathlib.Omega.{arith}
use Rattle.writer.proofs.encode.actions.Goals as goal

pub loop-i-init : goal.loop-i-init
loop-i-init c =
    let j = c.args.job in (
      pieces_none action_bytes (action_at j) (action_size j.counts.pools j.counts.stores) (length_action_at j) _ _,
      refl,
    )

pub overflow_mul-i : goal.overflow_mul-i
overflow_mul-i c =
    let a = c.args in
    let w = piece_below a.job.counts.actions a.size _ c.loop-i-test.true in
    omega arith

pub overflow_add-at : goal.overflow_add-at
overflow_add-at c =
    let a = c.args in
    let w = piece_below a.job.counts.actions a.size _ c.loop-i-test.true in
    omega arith

pub action-requires : goal.action-requires
action-requires c =
    let a = c.args in
    let w = piece_below a.job.counts.actions a.size _ c.loop-i-test.true in
    (c.requires.0, omega arith)

pub loop-i-preserved : goal.loop-i-preserved
loop-i-preserved c =
    let a = c.args in
    let l = c.loop-i in
    let h = c.requires in
    let w = piece_below a.job.counts.actions a.size l.i c.loop-i-test.true in
    let k = c.action.auto.out in
    let z = action_size a.job.counts.pools a.job.counts.stores in (
      rw (c.action.ensures, l.invariant.0)
          (pieces_more action_bytes (action_at a.job) z (length_action_at a.job) a.out.now a.at l.i
          (a.at + l.i * a.size) (rw h.1) (omega arith)),
      omega arith,
    )

pub shape_of-out : goal.shape_of-out
shape_of-out c = c.loop-i.invariant.1

pub returns : goal.returns
returns c =
    let e : c.loop-i.i ≡ c.args.job.counts.actions = omega arith in
    rw e at c.loop-i.invariant.0
