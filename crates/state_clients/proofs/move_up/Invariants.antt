-- The invariants of `state_clients::move_up`.
use Rattle.state_clients.proofs.Loops.{Moving}
use Rattle.state_clients.proofs.move_up.Given as goal

abbrev pub invariant-loop-j : goal.invariant-loop-j
invariant-loop-j l = Moving l.initial.s l.i l.n l.s l.j
