-- What is left to show of `simulator::step::server_line`.
use native.Mathlib.Omega.{arith}
use Rattle.simulator.proofs.Ran.{first-server, second-server, no_such_server, same_count}
use Rattle.simulator.proofs.step.server_line.Goals as goal
use Rattle.simulator.proofs.step.server_line.Goals.{in-0, in-1, in_default}

pub returns-clause-ran : goal.returns-clause-ran
returns-clause-ran c =
    let a = c.args in
    let x = a.lent.now in
    rw c.after_server.ensures (elim c.match-number.branch [
      | in-0 w ↦ let e = w.server_step-made.ensures in rw (w.lent-is, w.made-is) (
        first-server x.s0.now x.log0.now x.s1.now x.log1.now x.store.now _ a.memory a.number a.line w.server_step-made.result w.in-0.is e.0,
        e.1,
      )
      | in-1 w ↦ let e = w.server_step-made-in-1.ensures in rw (w.lent-is, w.made-is) (
        second-server x.s0.now x.log0.now x.s1.now x.log1.now x.store.now _ a.memory a.number a.line w.server_step-made-in-1.result w.in-1.is e.0,
        e.1,
      )
      | in_default w ↦ let e = w.told-made.ensures in rw (w.lent-is, w.made-is) (
        no_such_server x.s0.now x.log0.now x.s1.now x.log1.now x.store.now x.store.now a.memory a.number a.line w.told-made.result (λ q. omega arith) (λ q. omega arith) e.0 e.1,
        same_count e.0,
      )
    ])
