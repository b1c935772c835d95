-- The invariant of `simulator_text::read_line::numbers_in`.
use Rattle.simulator_text.proofs.Lines.{Fields}
use Rattle.simulator_text.proofs.read_line.numbers_in.Given as goal

abbrev pub invariant-loop-field : goal.invariant-loop-field
invariant-loop-field l = Fields (goal.iterator-loop-field).next_gives l.s l.field-iterator l.ns l.k
