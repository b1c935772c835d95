-- The three parts in which the bytes before an image's tables are written, in the form with times.
-- Assumes nothing.
use Rattle.std.specs.Prelude.{ℕ, ◌*◌, List, ◌++◌}
use Rattle.model.specs.declared.ImageHead.{ImageHead}
use Rattle.model.specs.Numbers.{le32, signed32, quad}
use Rattle.model.specs.Limits.{parts_start, point_part, least_image, floor_row, entry_row}
use Rattle.model.specs.Images.{image_magic, entries_start}

-- the four bytes, point, destination, source, 0, move, heard time
unfoldable pub frame_bytes : ImageHead → List ℕ
frame_bytes h = image_magic ++ (quad h.point h.destination h.source 0 ++ (le32 h.move_number ++ le32 h.heard))

-- three pairs of offset and length
unfoldable pub pair_bytes : ImageHead → List ℕ
pair_bytes h =
    le32 parts_start
    ++ (le32 point_part ++ (le32 least_image ++ (le32 (floor_row * h.floors) ++ (le32 (entries_start h.floors) ++ le32 (entry_row * h.entries)))))

-- value, quality, three zeros
unfoldable pub point_bytes : ℕ → ℕ → List ℕ
point_bytes value quality = signed32 value ++ quad quality 0 0 0
