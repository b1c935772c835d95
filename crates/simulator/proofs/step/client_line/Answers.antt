-- What is left to show of `simulator::step::client_line`.
use mathlib.Core.Path.{sym, ◌∙◌}
use Rattle.simulator.proofs.Ran.{ran-at-client, no_such_client, same_memory}
use Rattle.simulator.proofs.step.client_line.Goals as goal

pub returns-in_default : goal.returns-in_default
returns-in_default c =
    let a = c.args in
    let e = c.malformed.ensures in
    let n = sym c.client_of.ensures ∙ c.in_default.is in
    ((λ s0 l0 s1 l1. no_such_client s0 l0 s1 l1 a.store.now a.store.now a.memory a.number {r = c.malformed.result} a.line n e.0 e.1), same_memory c.malformed.result e.0)

pub returns : goal.returns
returns c =
    let a = c.args in
    let e = c.client_step-made.ensures in
    rw c.after_client.ensures ((λ s0 l0 s1 l1. ran-at-client s0 l0 s1 l1 a.store.now _ a.memory a.number a.line c.client_step-made.result (sym c.client_of.ensures ∙ c.in-Some.is) e.0), e.1)
