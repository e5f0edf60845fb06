-- `with_rest` meets its contract: a stopped step leaves nothing, a running one its rest.
use Rattle.begun.proofs.RestActions.{rest_when_running}
use native.Mathlib.Omega.{arith}
use Rattle.begun.proofs.with_rest.Goals as goal

pub returns : goal.returns
returns c =
    rest_when_running c.args.extra c.args.step c.args.minute c.requires.1 (omega arith) c.requires.0
    c.rest_action.result c.rest_action.ensures
