-- The invariants of `state_clients::merged_count`.
use Rattle.model.specs.States.{load}
use Rattle.state_clients.proofs.Loops.{Counting}
use Rattle.state_clients.proofs.merged_count.Given as goal

abbrev pub invariant-loop-i : goal.invariant-loop-i
invariant-loop-i l = Counting (load l.s).floors l.image l.n l.count l.i
