-- The invariants of `format_image_reader::entries_ok`.
use Rattle.format_image_reader.proofs.Tables.{Beside}
use Rattle.format_image_reader.proofs.entries_ok.Given as goal

abbrev pub invariant-loop-i : goal.invariant-loop-i
invariant-loop-i l = Beside l.timed l.point l.n l.width l.at l.entries l.s l.i l.j
