-- The invariants of `state_clients::cut`.
use Rattle.state_clients.proofs.Loops.{Cutting}
use Rattle.state_clients.proofs.cut.Given as goal

abbrev pub invariant-loop-n : goal.invariant-loop-n
invariant-loop-n l = Cutting l.initial.s l.k l.s l.n
