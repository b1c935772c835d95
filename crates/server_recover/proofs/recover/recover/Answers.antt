-- What is left to show of `server_recover::recover::recover`.
use native.Mathlib.Omega.{arith}
use Rattle.server_recover.proofs.Rebuilding.{no_state, recover-refused, long-passed, plan-passed, recover-done}
use borrow.Author.Rules.{rules}
use Rattle.server_recover.proofs.recover.recover.Goals as goal

pub returns-in_err-recover_refusal : goal.returns-in_err-recover_refusal
returns-in_err-recover_refusal c =
    let a = c.args in
    recover-refused a.state.now a.log.now a.plan.now c.plan_ok-good.ensures _ c.in_err-recover_refusal.ensures _ c.from_residual.ensures.1

pub begin-requires : goal.begin-requires
begin-requires c =
    let a = c.args in
    (search rules, plan-passed a.state.now a.log.now a.plan.now c.plan_ok-good.ensures c.in_ok-recover_refusal.ensures)

pub returns-in_err-begin : goal.returns-in_err-begin
returns-in_err-begin c =
    let a = c.args in
    recover-done a.state.now a.log.now a.plan.now c.plan_ok-good.ensures c.in_ok-recover_refusal.ensures
    (no_state a.state.now a.log.now c.in_err-begin.ensures.begun _ c.from_residual-in_err-begin.ensures.1)

pub rebuild-requires : goal.rebuild-requires
rebuild-requires c =
    let a = c.args in (
      omega (arith, long-passed a.state.now a.log.now a.plan.now c.plan_ok-good.ensures c.in_ok-recover_refusal.ensures),
      search rules,
      c.in_ok-begin.ensures.begun.0,
    )

pub returns : goal.returns
returns c =
    let a = c.args in
    recover-done a.state.now a.log.now a.plan.now c.plan_ok-good.ensures c.in_ok-recover_refusal.ensures (rw c.in_ok-begin.ensures.begun.1 c.rebuild.ensures)
