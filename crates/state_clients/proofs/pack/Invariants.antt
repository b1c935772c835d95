-- The invariants of `state_clients::pack`.
use Rattle.model.specs.Apply.{is_not_client}
use Rattle.state_clients.proofs.Loops.{Packing}
use Rattle.state_clients.proofs.pack.Given as goal

abbrev pub invariant-loop-i : goal.invariant-loop-i
invariant-loop-i l = Packing l.initial.s (is_not_client l.client) l.s l.i l.j
