-- The tests of checkpoint and of inspect behind those of lent memory, on values. Checkpoints states the whole lists over the lent slices.
-- Assumes nothing.
use Rattle.std.specs.Prelude.{ℕ, Bool, ◌||◌, ltb}
use Rattle.model.specs.Choice.{◌if◌else◌, passed}
use Rattle.model.specs.Refusals.{not_synced, bad_log, unknown}

unfoldable pub checkpoint_tests : ℕ → ℕ → ℕ
checkpoint_tests mark size = not_synced if ltb mark size else passed

-- by the tests of the checkpoint, of the tail by the first walk, and of the id
unfoldable pub inspect_tests : Bool → Bool → Bool → ℕ
inspect_tests bad off lacks =
    bad_log if (bad || off)
    else unknown if lacks
    else passed
