-- What is left to show of `simulator::at_client::client_step`.
use native.Mathlib.Omega.{arith}
use Rattle.simulator.specs.Attended.{client_ran}
use Rattle.simulator.proofs.at_client.client_step.Goals as goal

pub returns-in-Issue : goal.returns-in-Issue
unfolding client_ran
returns-in-Issue c = rw (c.in-Issue.is, ← c.issue_by-sent.ensures) c.send_line.ensures

pub returns-in-Resend : goal.returns-in-Resend
unfolding client_ran
returns-in-Resend c = rw (c.in-Resend.is, ← c.resend-sent.ensures) c.send_line-in-Resend.ensures

pub returns-in-Receive : goal.returns-in-Receive
unfolding client_ran
returns-in-Receive c = rw c.in-Receive.is
    (c.receive_line.ensures.0, record { least = omega (arith, c.receive_line.ensures.1); most = omega (arith, c.receive_line.ensures.1) })
