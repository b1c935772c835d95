-- The invariants of `state_records::compact`.
use Rattle.state_records.proofs.Loops.{Compacting}
use Rattle.state_records.proofs.compact.Given as goal

abbrev pub invariant-loop-i : goal.invariant-loop-i
invariant-loop-i l = Compacting l.rule l.initial.s l.n l.s l.i l.j
