-- The invariants of `state_soundness::hints_of`.
use Rattle.state_soundness.proofs.Hints.{Hinted}
use Rattle.state_soundness.proofs.hints_of.Given as goal

abbrev pub invariant-loop-i : goal.invariant-loop-i
invariant-loop-i l = Hinted l.s l.n l.hints l.i
