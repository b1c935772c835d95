-- The invariants of `state_checkpoint::copy_fronts`.
use Rattle.state_checkpoint.proofs.Fronts.{Fronted}
use Rattle.state_checkpoint.proofs.copy_fronts.Given as goal

abbrev pub invariant-loop-i : goal.invariant-loop-i
invariant-loop-i l = Fronted l.width l.stride l.n l.initial.out l.table l.out l.i
