-- What is left to show of `server_checkpoint::checkpoint`.
use Rattle.server_checkpoint.proofs.Passed.{by_refused, by_passed, passed-done}
use Rattle.server_checkpoint.proofs.checkpoint.Goals as goal

pub returns-in_err-checkpoint_refusal : goal.returns-in_err-checkpoint_refusal
returns-in_err-checkpoint_refusal c =
    let a = c.args in
    by_refused a.state.now a.log.now a.checkpoint.now a.tail.now _ c.in_err-checkpoint_refusal.ensures _ c.from_residual.ensures.1

pub checkpoint_done-requires : goal.checkpoint_done-requires
checkpoint_done-requires c =
    let a = c.args in
    passed-done a.state.now a.log.now a.checkpoint.now a.tail.now c.in_ok-checkpoint_refusal.ensures

pub returns : goal.returns
returns c =
    let a = c.args in
    by_passed a.state.now a.log.now a.checkpoint.now a.tail.now c.in_ok-checkpoint_refusal.ensures (c.checkpoint_done.ensures a.log.now)
