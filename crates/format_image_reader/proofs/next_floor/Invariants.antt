-- The invariants of `format_image_reader::next_floor`.
use Rattle.format_image_reader.proofs.Tables.{Seek}
use Rattle.format_image_reader.proofs.next_floor.Given as goal

abbrev pub invariant-loop-j : goal.invariant-loop-j
invariant-loop-j l = Seek l.client l.s l.n l.j
