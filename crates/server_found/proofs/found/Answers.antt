-- What is left to show of `server_found::found`.
use native.Mathlib.Omega.{arith}
use Rattle.server_found.proofs.Founded.{found-refused, lent-passed, plan-passed, found-done}
use Rattle.server_found.proofs.found.Goals as goal

pub returns-in_err-found_refusal : goal.returns-in_err-found_refusal
returns-in_err-found_refusal c =
    let a = c.args in
    found-refused a.state.now a.log.now a.plan.now a.server c.plan_ok-good.ensures _ c.in_err-found_refusal.ensures _ c.from_residual.ensures.1

pub overflow_cast-number : goal.overflow_cast-number
overflow_cast-number c =
    let a = c.args in omega (arith, (plan-passed a.state.now a.log.now a.plan.now a.server c.plan_ok-good.ensures c.in_ok-found_refusal.ensures).1)

pub found_state-requires : goal.found_state-requires
found_state-requires c =
    let a = c.args in (
      omega (arith, (lent-passed a.state.now a.log.now a.plan.now a.server c.plan_ok-good.ensures c.in_ok-found_refusal.ensures).0),
      (plan-passed a.state.now a.log.now a.plan.now a.server c.plan_ok-good.ensures c.in_ok-found_refusal.ensures).0,
    )

pub write_head-requires : goal.write_head-requires
write_head-requires c =
    let a = c.args in (lent-passed a.state.now a.log.now a.plan.now a.server c.plan_ok-good.ensures c.in_ok-found_refusal.ensures).1

pub returns : goal.returns
returns c =
    let a = c.args in
    found-done a.state.now a.log.now a.plan.now a.server c.plan_ok-good.ensures c.in_ok-found_refusal.ensures c.found_state.ensures c.write_head.ensures
