-- What is left to show of `server_inspect::place::checkpoint_bad`.
use Rattle.server_inspect.proofs.Refusing.{bad_empty, bad_other}
use Rattle.server_inspect.proofs.place.checkpoint_bad.Goals as goal

pub returns-then-checkpoint-eq0 : goal.returns-then-checkpoint-eq0
returns-then-checkpoint-eq0 c = let start = c.args in bad_empty start.checkpoint.now start.log.now c.if-checkpoint-eq0.true

pub returns : goal.returns
returns c =
    let start = c.args in bad_other start.checkpoint.now start.log.now c.if-checkpoint-eq0.false c.is_foreign.ensures
