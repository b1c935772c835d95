-- The invariants of `state_soundness::records_ok`.
use Rattle.model.specs.States.{load}
use Rattle.state_soundness.specs.Slots.{records_ok}
use Rattle.state_soundness.proofs.Pass.{Pass}
use Rattle.state_soundness.proofs.records_ok.Given as goal

abbrev pub invariant-loop-i : goal.invariant-loop-i
invariant-loop-i l = Pass l.s l.count (records_ok (load l.s)) l.marks l.last l.i
