-- The places of an id: in a row of a table, in an image, and in the records from a place of the log on.
-- Assumes nothing.
use Rattle.std.specs.Prelude.{ℕ, ◌+◌, Bool, ◌&&◌, List, length, eqb, ltb, Option, None, Some}
use Rattle.model.specs.declared.Place.{Place}
use Rattle.model.specs.Choice.{pick, or_else}
use Rattle.model.specs.Numbers.{le32_at}
use Rattle.model.specs.Refusals.{unknown}
use Rattle.model.specs.Images.{Image, entry_width, entries_start, image_head}
use Rattle.model.specs.Checkpoints.{in_image, no_place, place_among, is_entry_id, latest_in}
use Rattle.format_log_ends.specs.Walked.{ends_from}

-- a row opens with the id: client and call
unfoldable pub is_row_id : ℕ → ℕ → List ℕ → Bool
is_row_id x c s = eqb (le32_at s 0) x && eqb (le32_at s 4) c

-- an index, if it is below n
abbrev pub below : ℕ → ℕ → Option ℕ
below n i = pick (ltb i n) (Some i) None

-- among the entries of an image that starts at a place of the log
unfoldable pub place_in_image : ℕ → ℕ → ℕ → Image → Place → Place
place_in_image x c from i found =
    place_among in_image (from + entries_start (length i.floors)) (entry_width (image_head i)) (is_entry_id x c) i.entries found

-- over the records from a place of the log on
unfoldable pub latest_from : ℕ → ℕ → List ℕ → ℕ → Place → Place
latest_from x c log at found = or_else (ends_from log at) (no_place unknown) (λ es. latest_in x c log at es found)
