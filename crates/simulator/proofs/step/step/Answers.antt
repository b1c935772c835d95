-- What is left to show of `simulator::step::step`.
use Rattle.simulator.proofs.Ran.{no_line, same_memory}
use Rattle.simulator.proofs.step.step.Goals as goal

pub returns-in_default-clause-ran : goal.returns-in_default-clause-ran
returns-in_default-clause-ran c =
    let a = c.args.lent.now in
    let e = c.malformed.ensures in
    rw c.in_default.is (no_line a.s0.now a.log0.now a.s1.now a.log1.now a.store.now c.args.memory {r = c.malformed.result} e.0 e.1, same_memory c.malformed.result e.0)

pub returns-in-AtServer : goal.returns-in-AtServer
returns-in-AtServer c =
    rw (c.in-Some.is, c.in-AtServer.is) c.server_line.ensures

pub returns-in-AtClient-clause-ran : goal.returns-in-AtClient-clause-ran
returns-in-AtClient-clause-ran c =
    let a = c.args.lent.now in
    let e = c.client_line.ensures in
    rw (c.in-Some.is, c.in-AtClient.is) (e.0 a.s0.now a.log0.now a.s1.now a.log1.now, e.1)
