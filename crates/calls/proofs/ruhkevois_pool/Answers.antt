-- `ruhkevois_pool` meets its contract: the file of the pooled job is short.
use Rattle.calls.proofs.Fitting.{written_file_is_short}
use Rattle.calls.proofs.ruhkevois_pool.Goals as goal

pub written-requires : goal.written-requires
written-requires c =
    written_file_is_short c.in-Ok-pool.job c.args.out.now c.write-answer.result c.write-answer.ensures.answers
