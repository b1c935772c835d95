-- The invariants of `state_sound_rows::floors_ok`.
use Rattle.model_laws.proofs.Loops.{Open, row_test}
use Rattle.model.specs.Images.{floor_of_bytes, floor_ok}
use Rattle.model.specs.Tables.{rows, every}
use Rattle.model.specs.Limits.{floor_row}
use lib.ListN.{drop}
use Rattle.state_sound_rows.proofs.floors_ok.Given as goal

abbrev pub invariant-loop-i : goal.invariant-loop-i
invariant-loop-i l = Open (row_test floor_of_bytes floor_ok) floor_row l.at (every floor_ok (rows floor_of_bytes floor_row l.n (drop l.at l.s))) l.s l.n l.i
