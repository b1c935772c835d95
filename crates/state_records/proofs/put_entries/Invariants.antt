-- The invariants of `state_records::put_entries`.
use Rattle.model.specs.Apply.{taken_record}
use Rattle.state_records.proofs.Loops.{Adding}
use Rattle.state_records.proofs.put_entries.Given as goal

abbrev pub invariant-loop-i : goal.invariant-loop-i
invariant-loop-i l = Adding l.h.timed (taken_record l.h.point l.end) l.image l.width l.at l.initial.s l.n l.entries l.s l.i l.j
