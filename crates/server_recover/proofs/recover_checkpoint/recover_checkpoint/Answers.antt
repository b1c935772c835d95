-- What is left to show of `server_recover::recover_checkpoint::recover_checkpoint`.
use native.Mathlib.Omega.{arith}
use Rattle.server_recover.proofs.Rebuilding.{no_state, tail-refused, tail-long, tail-done}
use borrow.Author.Rules.{rules}
use Rattle.server_recover.proofs.recover_checkpoint.recover_checkpoint.Goals as goal

pub returns-in_err-recover_checkpoint_refusal : goal.returns-in_err-recover_checkpoint_refusal
returns-in_err-recover_checkpoint_refusal c =
    let a = c.args in
    tail-refused a.state.now a.checkpoint.now a.tail.now _ c.in_err-recover_checkpoint_refusal.ensures _ c.from_residual.ensures.1

pub returns-in_err-begin_checkpoint : goal.returns-in_err-begin_checkpoint
returns-in_err-begin_checkpoint c =
    let a = c.args in
    tail-done a.state.now a.checkpoint.now a.tail.now c.in_ok-recover_checkpoint_refusal.ensures
    (no_state a.state.now a.tail.now c.in_err-begin_checkpoint.ensures.begun _ c.from_residual-in_err-begin_checkpoint.ensures.1)

pub rebuild-requires : goal.rebuild-requires
rebuild-requires c =
    let a = c.args in (
      omega (arith, tail-long a.state.now a.checkpoint.now a.tail.now c.in_ok-recover_checkpoint_refusal.ensures),
      search rules,
      c.in_ok-begin_checkpoint.ensures.begun.0,
    )

pub returns : goal.returns
returns c =
    let a = c.args in
    tail-done a.state.now a.checkpoint.now a.tail.now c.in_ok-recover_checkpoint_refusal.ensures (rw c.in_ok-begin_checkpoint.ensures.begun.1 c.rebuild.ensures)
