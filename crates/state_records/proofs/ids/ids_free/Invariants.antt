-- The invariants of `state_records::ids::ids_free`.
use lib.ListN.{drop}
use Rattle.model.specs.Tables.{rows, every}
use Rattle.model.specs.Images.{image_entry_of}
use Rattle.model.specs.States.{load}
use Rattle.model.specs.Decisions.{free_for}
use Rattle.model_laws.proofs.Loops.{Open, row_test}
use Rattle.state_records.proofs.ids.ids_free.Given as goal

abbrev pub invariant-loop-i : goal.invariant-loop-i
invariant-loop-i l =
    Open (row_test (image_entry_of l.h.timed) (free_for l.h.point (load l.s).records)) l.width l.at
    (every (free_for l.h.point (load l.s).records) (rows (image_entry_of l.h.timed) l.width l.entries (drop l.at l.image))) l.image l.entries l.i
