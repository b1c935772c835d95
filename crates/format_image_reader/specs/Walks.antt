-- What the two walks of the reader answer, over the floors and over the completion records, and one step of each.
-- Assumes nothing.
use Rattle.std.specs.Prelude.{ℕ, suc, Bool, true, ◌&&◌, List, [], ◌∷◌, drop, eqb, ltb}
use Rattle.model.specs.declared.Floor.{Floor}
use Rattle.model.specs.declared.ImageEntry.{ImageEntry}
use Rattle.model.specs.declared.ImageHead.{ImageHead}
use Rattle.model.specs.Choice.{pick}
use Rattle.model.specs.Tables.{rows, every_row, every}
use Rattle.model.specs.Limits.{least_image, floor_row}
use Rattle.model.specs.Packets.{command_ok, outcome_ok, id_ok}
use Rattle.model.specs.Images.{floor_of_bytes, image_entry_of, entry_width, entries_start, image_at, floor_ok, in_window, clients_ascend, ids_ascend, entry_row_ok, image_entry_ok, image_tables_ok}
use Rattle.format_image_rows.specs.Order.{entry_before}

-- ---- floors

-- the first n floors of an image
abbrev pub floors_in : List ℕ → ℕ → List Floor
floors_in s n = rows floor_of_bytes floor_row n (drop least_image s)

-- a floor's client is below that of the first floor behind it
unfoldable pub client_follows : Floor → List Floor → Bool
client_follows f [] = true
client_follows f (g ∷ gs) = ltb f.client g.client

-- the floor in front of t, with so many behind it
unfoldable pub floor_step : ℕ → List ℕ → Bool
floor_step left t =
    client_follows (floor_of_bytes t) (rows floor_of_bytes floor_row left (drop floor_row t)) && floor_ok (floor_of_bytes t)

unfoldable pub floors_ok : List Floor → Bool
floors_ok fs = every floor_ok fs && clients_ascend fs

-- how many floors in front have a client below x
unfoldable pub leading : ℕ → List Floor → ℕ
leading x [] = 0
leading x (f ∷ fs) = pick (ltb f.client x) (suc (leading x fs)) 0

-- the floor in front where it is of the client x, else 0
unfoldable pub floor_first : ℕ → List Floor → ℕ
floor_first x [] = 0
floor_first x (f ∷ fs) = pick (eqb f.client x) f.floor 0

-- ---- completion records

-- a record's id is before that of the first record behind it
unfoldable pub id_follows : ImageEntry → List ImageEntry → Bool
id_follows e [] = true
id_follows e (f ∷ fs) = entry_before e f

-- a record of the point p whose client has the floor k: image_entry_ok, with the floor found
unfoldable pub entry_fields_ok : ℕ → ℕ → ImageEntry → Bool
entry_fields_ok p k e =
    command_ok e.op p e.argument && (outcome_ok e.result.outcome e.result.quality && (id_ok e.client e.call && in_window k e.call))

-- the record in front of t, in a form, with so many of w bytes behind it
unfoldable pub entry_step : Bool → ℕ → ℕ → ℕ → ℕ → List ℕ → Bool
entry_step timed p k w left t =
    id_follows (image_entry_of timed t) (rows (image_entry_of timed) w left (drop w t)) && (entry_row_ok t && entry_fields_ok p k (image_entry_of timed t))

-- m records of the point p in a form, of w bytes each, in front of t, among the floors fs
unfoldable pub entries_ok : Bool → ℕ → List Floor → ℕ → ℕ → List ℕ → Bool
entries_ok timed p fs w m t =
    every_row entry_row_ok w m t
    && (every (image_entry_ok p fs) (rows (image_entry_of timed) w m t) && ids_ascend (rows (image_entry_of timed) w m t))

-- ---- both tables

unfoldable pub rows_ok : ImageHead → List ℕ → Bool
rows_ok h s = every_row entry_row_ok (entry_width h) h.entries (drop (entries_start h.floors) s) && image_tables_ok (image_at h s)
