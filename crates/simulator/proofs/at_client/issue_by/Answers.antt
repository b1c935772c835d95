-- What is left to show of `simulator::at_client::issue_by`.
use Rattle.model_laws.proofs.Clients.{past-byte}
use Rattle.model_laws.proofs.Tests.{both-fit}
use native.Mathlib.Omega.{arith}
use Rattle.simulator.proofs.at_client.issue_by.Goals as goal

pub returns-then-op-point : goal.returns-then-op-point
returns-then-op-point c = past-byte _ _ _ _ c.if-op-point.true

pub overflow_cast-op : goal.overflow_cast-op
overflow_cast-op c = let f = both-fit 255 c.args.op c.args.point c.if-op-point.false in omega (arith, f.0, f.1)

pub overflow_cast-point : goal.overflow_cast-point
overflow_cast-point c = let f = both-fit 255 c.args.op c.args.point c.if-op-point.false in omega (arith, f.0, f.1)
