-- `write_both` meets its contract: the part behind the first plan is lent on to the writer.
use Rattle.joining.proofs.WritingLater.{both_written}
use Rattle.joining.proofs.later.write_both.Goals as goal

pub returns : goal.returns
returns c =
    both_written c.args.out.now c.write_later.new.out c.write_later-2.new.out c.args.first.now
    c.args.second.now _
    c.requires.0 c.requires.1 c.write_later.ensures c.write_later-2.ensures
