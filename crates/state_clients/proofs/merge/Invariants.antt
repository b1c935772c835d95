-- The invariants of `state_clients::merge`.
use Rattle.state_clients.proofs.Loops.{Merging}
use Rattle.state_clients.proofs.merge.Given as goal

abbrev pub invariant-loop-i : goal.invariant-loop-i
invariant-loop-i l = Merging l.initial.s l.image l.n l.s l.i
