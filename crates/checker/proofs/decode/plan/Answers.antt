-- `plan` meets its contract: the first i steps are those of the bytes.
use Prim.Native.Nat.{◌+◌, ◌*◌}
use mathlib.Core.Path.{◌≡◌, refl, sym, ap, ◌∙◌}
use lib.ListN.{length, get_or, length-set}
use Rattle.lists.proofs.Bools.{absurd}
use Rattle.lists.proofs.Tabulate.{tabulate_same}
use Rattle.encoding.specs.Bytes.{from_bytes, part}
use Rattle.encoding.proofs.Pieces.{piece_within}
use Rattle.job.specs.Job.{job_in}
use Rattle.timeline.specs.Step.{step_of, steps_in}
use Rattle.timeline.specs.Value.{beyond_step, step_of_value}
use Rattle.checker.proofs.PlanBytes.{step_in_at, step_by_bytes, known_byte, few_steps_lem, one_more}
use native.Mathlib.Omega.{arith}
use Rattle.checker.proofs.decode.plan.Goals as goal

pub loop-i-init : goal.loop-i-init
loop-i-init c = (refl, λ k h. absurd (omega arith))

pub overflow_mul-at : goal.overflow_mul-at
overflow_mul-at c =
    let w = piece_within (length c.args.bytes.now) 3 c.loop-i.i c.loop-i-test.true in
    omega arith

pub bounds-bytes-at : goal.bounds-bytes-at
bounds-bytes-at c =
    let w = piece_within (length c.args.bytes.now) 3 c.loop-i.i c.loop-i-test.true in
    omega arith

pub overflow_add-at : goal.overflow_add-at
overflow_add-at c =
    let w = piece_within (length c.args.bytes.now) 3 c.loop-i.i c.loop-i-test.true in
    omega arith

pub read_number-requires : goal.read_number-requires
read_number-requires c =
    let w = piece_within (length c.args.bytes.now) 3 c.loop-i.i c.loop-i-test.true in
    omega arith

pub step-requires : goal.step-requires
step-requires c =
    let b = c.read_number.ensures.1 in (
      c.requires.fits.0,
      known_byte c.args.job c.args.bytes.now c.loop-i.i c.loop-i-test.true
          c.requires.bytes_value,
      omega arith,
    )

pub offset_bounds-steps-i : goal.offset_bounds-steps-i
offset_bounds-steps-i c =
    let f = few_steps_lem c.args.bytes.now c.requires.fits.1 in
    let t = c.loop-i-test.true in
    omega arith

pub bounds-steps-i : goal.bounds-steps-i
bounds-steps-i c =
    let f = few_steps_lem c.args.bytes.now c.requires.fits.1 in
    let t = c.loop-i-test.true in
    omega arith

pub loop-i-preserved : goal.loop-i-preserved
loop-i-preserved c =
    let j = c.args.job in
    let bytes = c.args.bytes.now in
    let l = c.loop-i in
    let f = few_steps_lem bytes c.requires.fits.1 in
    let t = c.loop-i-test.true in
    let start : c.read_number.result ≡ from_bytes (part bytes (l.i * 3 + 1) 2) = c.read_number.ensures.0 in
    let e : step_of_value j.counts c.step.result ≡ step_in_at (job_in j) bytes l.i =
    c.step.ensures ∙ ap (step_of (job_in j) (get_or bytes (l.i * 3) 0)) start
    ∙ sym (step_by_bytes (job_in j) bytes l.i t) in (
      simp length-set l.invariant.0,
      one_more (step_of_value j.counts) (step_in_at (job_in j) bytes) beyond_step l.steps l.i c.step.result
          (omega arith) l.invariant.1 e,
    )

pub returns : goal.returns
unfolding steps_in
returns c =
    let l = c.loop-i in
    let t = c.loop-i-test.false in
    (few_steps_lem c.args.bytes.now c.requires.fits.1, refl, tabulate_same _ _ _ (λ k h. l.invariant.1 k (omega arith)))
