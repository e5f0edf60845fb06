-- `head` meets its contract: five writes one after the other.
use Rattle.job.specs.Job.{job_in}
use Rattle.jobfile.proofs.Lengths.{length_reserve, short_head_lem}
use Rattle.jobfile.proofs.Writes.{write_head}
use native.Mathlib.Omega.{arith}
use Rattle.writer.proofs.encode.head.Goals as goal

pub write_number-requires : goal.write_number-requires
write_number-requires c =
    let short = short_head_lem c.args.job.rule in
    omega arith

pub write_number-requires-2 : goal.write_number-requires-2
write_number-requires-2 c =
    let short = short_head_lem c.args.job.rule in
    omega arith

pub write_number-requires-3 : goal.write_number-requires-3
write_number-requires-3 c =
    let short = short_head_lem c.args.job.rule in
    omega arith

pub write_number-requires-4 : goal.write_number-requires-4
write_number-requires-4 c =
    let short = short_head_lem c.args.job.rule in
    omega arith

pub reserve-requires : goal.reserve-requires
reserve-requires c =
    let last = length_reserve c.args.job.rule (job_in c.args.job).reserve in
    omega arith

pub returns : goal.returns
returns c =
    let short = short_head_lem c.args.job.rule in
    let room = c.requires in
    rw (
      c.reserve.ensures,
      c.write_number-4.ensures,
      c.write_number-3.ensures,
      c.write_number-2.ensures,
      c.write_number.ensures,
      c.from.ensures,
      c.from-2.ensures,
    )
    (write_head c.args.out.now c.args.at (job_in c.args.job) (omega arith))
