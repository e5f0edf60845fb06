-- `file` meets its contract: seven writes one after the other.
use Prim.Native.Nat.{ℕ, ◌*◌}
use mathlib.Core.Path.{◌≡◌, ap, ◌∙◌}
use lib.ListN.{length}
use Rattle.std.proofs.Common.{rules}
use Rattle.lists.specs.Lists.{firsts}
use Rattle.job.specs.Job.{entries}
use Rattle.jobfile.proofs.Lengths.{most_entries}
use Rattle.writer.proofs.LayoutLaws.{room_for_parts, numbers_are, handovers_are, shortest_are, write_whole}
use native.Mathlib.Omega.{arith}
use Rattle.writer.proofs.encode.file.Goals as goal

pub overflow_mul-entries : goal.overflow_mul-entries
overflow_mul-entries c =
    let most = most_entries c.args.job.form in
    rw c.entries.ensures (omega arith)

pub contents-requires : goal.contents-requires
contents-requires c =
    let r = room_for_parts c.args.job _ _ _ c.requires.0 c.requires.1 in
    let most = most_entries c.args.job.form in
    let n = c.entries.ensures in
    (omega arith, omega arith)

pub head-requires : goal.head-requires
head-requires c =
    let r = room_for_parts c.args.job _ _ _ c.requires.0 c.requires.1 in
    omega arith

pub amounts-requires : goal.amounts-requires
amounts-requires c =
    let r = room_for_parts c.args.job _ _ _ c.requires.0 c.requires.1 in
    (c.requires.0.0, omega arith)

pub amounts-requires-2 : goal.amounts-requires-2
amounts-requires-2 c =
    let r = room_for_parts c.args.job _ _ _ c.requires.0 c.requires.1 in
    (c.requires.0.1, omega arith)

pub actions-requires : goal.actions-requires
actions-requires c =
    let r = room_for_parts c.args.job _ _ _ c.requires.0 c.requires.1 in
    (c.requires.0, c.action_size-size.ensures, rw c.action_size-size.ensures (omega arith))

pub minutes-requires : goal.minutes-requires
minutes-requires c =
    let r = room_for_parts c.args.job _ _ _ c.requires.0 c.requires.1 in
    let places : length c.args.job.handovers ≡ 4 = search rules in
    (omega arith, omega arith)

pub minutes-requires-2 : goal.minutes-requires-2
minutes-requires-2 c =
    let places : length c.args.job.shortest ≡ 64 = search rules in
    let r = room_for_parts c.args.job _ _ _ c.requires.0 c.requires.1 in
    let kept0 = c.contents.auto.out in
    let kept1 = c.head.auto.out in
    let kept2 = c.amounts.auto.out in
    let kept3 = c.amounts-2.auto.out in
    let kept4 = c.actions.auto.out in
    let kept5 = c.minutes.auto.out in
    (omega arith, omega arith)

pub returns : goal.returns
returns c =
    let a = c.args in
    let room = c.requires.1 in
    let xs = c.numbers-entries.result in
    let numbers = ap (λ (n : ℕ). firsts (2 * n) 0 xs) c.entries.ensures
    ∙ ap (firsts (2 * entries a.job.form) 0) c.numbers-entries.ensures
    ∙ numbers_are a.job a.layout a.at a.out.now room in
    rw (
      c.minutes-2.ensures,
      c.minutes.ensures,
      c.actions.ensures,
      c.amounts-2.ensures,
      c.amounts.ensures,
      c.head.ensures,
      c.contents.ensures,
    )
    (write_whole a.job a.layout a.at a.out.now room (firsts (2 * c.entries.result) 0 xs) _ _ numbers
    (handovers_are a.job a.layout a.at a.out.now room)
    (shortest_are a.job a.layout a.at a.out.now room))
