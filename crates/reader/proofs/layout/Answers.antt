-- `layout` meets its contract: the length of each body.
use Rattle.reader.proofs.ContentsLaws.{contents_told}
use Rattle.reader.proofs.layout.Goals as goal

pub size_in-requires : goal.size_in-requires
size_in-requires c =
    contents_told c.args.file.now c.args.form _ c.requires.0 c.requires.1 c.entries-entries.ensures

pub size_in-requires-2 : goal.size_in-requires-2
size_in-requires-2 c =
    contents_told c.args.file.now c.args.form _ c.requires.0 c.requires.1 c.entries-entries.ensures

pub size_in-requires-3 : goal.size_in-requires-3
size_in-requires-3 c =
    contents_told c.args.file.now c.args.form _ c.requires.0 c.requires.1 c.entries-entries.ensures

pub size_in-requires-4 : goal.size_in-requires-4
size_in-requires-4 c =
    contents_told c.args.file.now c.args.form _ c.requires.0 c.requires.1 c.entries-entries.ensures

pub size_in-requires-5 : goal.size_in-requires-5
size_in-requires-5 c =
    contents_told c.args.file.now c.args.form _ c.requires.0 c.requires.1 c.entries-entries.ensures

pub size_in-requires-6 : goal.size_in-requires-6
size_in-requires-6 c =
    contents_told c.args.file.now c.args.form _ c.requires.0 c.requires.1 c.entries-entries.ensures

pub returns : goal.returns
returns c =
    let head = c.size_in.ensures in
    let pools = c.size_in-2.ensures in
    let stores = c.size_in-3.ensures in
    let actions = c.size_in-4.ensures in
    let handovers = c.size_in-5.ensures in
    let shortest = c.size_in-6.ensures in (
      rw (c.requires.0, head.0, pools.0, stores.0, actions.0, handovers.0, shortest.0),
      (head.1, pools.1, stores.1, actions.1, handovers.1, shortest.1),
    )
