-- The invariant of `simulator_text::read_number::number_in`.
use Prim.Native.Nat.{◌≤◌}
use Rattle.model.specs.Limits.{last32}
use Rattle.simulator_text.proofs.Fields.{Left}
use Rattle.simulator_text.proofs.read_number.number_in.Given as goal

abbrev pub invariant-loop-b : goal.invariant-loop-b
invariant-loop-b l = (l.value ≤ last32) × Left l.s l.value l.b-index
