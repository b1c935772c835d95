-- The invariants of `simulator::start::plan`.
use Rattle.simulator.proofs.Plans.{Planned}
use Rattle.simulator.proofs.start.plan.Given as goal

abbrev pub invariant-loop-i : goal.invariant-loop-i
invariant-loop-i l = Planned l.b-items l.i
