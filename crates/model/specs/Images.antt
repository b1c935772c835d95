-- The image of a point on its way to another server.
--     0 4D 56 49 32    4 point, destination, source, 0    8 move    12 heard time
--     16 three pairs of offset and length: the point's part, the floors, the completion records
--     40 value, quality, three zeros    48 floors, 8 bytes each    then completion records, 24 bytes each
-- In the first form it opens with 4D 56 49 31, and a completion record has 20 bytes: no time of execution.
-- Assumes nothing.
use Rattle.std.specs.Prelude.{ℕ, ◌+◌, ◌*◌, ◌/◌, Bool, true, ◌&&◌, ◌||◌, List, [], ◌∷◌, ◌++◌, length, drop, eqb, leb, ltb}
use Rattle.std.proofs.Math.Option.{Option, none, some}
use Rattle.model.specs.declared.PlanEntry.{PlanEntry}
use Rattle.model.specs.declared.Floor.{Floor}
use Rattle.model.specs.declared.ImageEntry.{ImageEntry}
use Rattle.model.specs.declared.ImageHead.{ImageHead}
use Rattle.model.specs.Choice.{pick}
use Rattle.model.specs.Numbers.{byte_at, le32_at, le32, signed_at, signed32, zero_at, zeros3_at, quad, starts_with}
use Rattle.model.specs.Tables.{rows, every_row, bytes_of, every}
use Rattle.model.specs.Plan.{in_range}
use Rattle.model.specs.Packets.{id_ok, command_ok, outcome_ok, time_at, time_bytes}
use Rattle.model.specs.Limits.{last_point, last_server, last_quality, last_in_window, client_count, first_greatest_image, greatest_image, least_image, image_pairs, parts_start, point_part, floor_row, first_entry_row, entry_row}

pub record Image : Type 0 where
  pub point : ℕ
  pub destination : ℕ
  pub source : ℕ
  pub move_number : ℕ
  pub heard : ℕ
  pub value : ℕ
  pub quality : ℕ
  pub floors : List Floor
  pub entries : List ImageEntry
  pub timed : Bool

-- the four bytes that open an image
abbrev pub first_image_magic : List ℕ
first_image_magic = quad 77 86 73 49

abbrev pub image_magic : List ℕ
image_magic = quad 77 86 73 50

-- by form
unfoldable pub image_magic_of : Bool → List ℕ
image_magic_of timed = pick timed image_magic first_image_magic

-- ---- rows

unfoldable pub floor_of_bytes : List ℕ → Floor
floor_of_bytes s = record { client = le32_at s 0; floor = le32_at s 4 }

unfoldable pub floor_bytes : Floor → List ℕ
floor_bytes f = le32 f.client ++ le32 f.floor

-- client, call, argument, value, op, outcome, quality, 0; then the time
unfoldable pub image_entry_of : Bool → List ℕ → ImageEntry
image_entry_of timed s =
    record {
      client = le32_at s 0;
      call = le32_at s 4;
      op = byte_at s 16;
      argument = signed_at s 8;
      result = record { outcome = byte_at s 17; value = signed_at s 12; quality = byte_at s 18; time = time_at timed s 20 };
    }

unfoldable pub image_entry_bytes : Bool → ImageEntry → List ℕ
image_entry_bytes timed e =
    let r = e.result in
    le32 e.client
    ++ (le32 e.call
    ++ (signed32 e.argument ++ (signed32 r.value ++ (quad e.op r.outcome r.quality 0 ++ time_bytes timed r.time))))

-- the floor of a client among floors, 0 where it has none (floors are ≥ 1)
unfoldable pub floor_of : ℕ → List Floor → ℕ
floor_of x [] = 0
floor_of x (f ∷ fs) = pick (eqb f.client x) f.floor (floor_of x fs)

-- a client with this floor is not known: a floor is at least 1
abbrev pub not_known : ℕ → Bool
not_known floor = eqb floor 0

-- the call is from floor to floor + 15, and the client has a floor
unfoldable pub in_window : ℕ → ℕ → Bool
in_window floor call = leb 1 floor && (leb floor call && leb call (floor + last_in_window))

-- strictly ascending by client
unfoldable pub clients_ascend : List Floor → Bool
clients_ascend [] = true
clients_ascend (f ∷ fs) = elim fs [ [] ↦ true | g ∷ gs ↦ ltb f.client g.client ] && clients_ascend fs

-- an id is before another: by client, then call
unfoldable pub id_before : ℕ → ℕ → ℕ → ℕ → Bool
id_before x c y d = ltb x y || (eqb x y && ltb c d)

-- strictly ascending by client, then call
unfoldable pub ids_ascend : List ImageEntry → Bool
ids_ascend [] = true
ids_ascend (e ∷ es) = elim es [ [] ↦ true | f ∷ fs ↦ id_before e.client e.call f.client f.call ] && ids_ascend es

unfoldable pub floor_ok : Floor → Bool
floor_ok f = leb 1 f.client && leb 1 f.floor

-- a record of the point p among floors fs
unfoldable pub image_entry_ok : ℕ → List Floor → ImageEntry → Bool
image_entry_ok p fs e =
    command_ok e.op p e.argument
    && (outcome_ok e.result.outcome e.result.quality && (id_ok e.client e.call && in_window (floor_of e.client fs) e.call))

-- ---- the head, and the places by it

-- bytes of a completion record, by form
unfoldable pub entry_row_of : Bool → ℕ
entry_row_of timed = pick timed entry_row first_entry_row

-- in an image with this head
unfoldable pub entry_width : ImageHead → ℕ
entry_width h = entry_row_of h.timed

-- the greatest length, by form: that of 32 floors and 512 completion records
unfoldable pub greatest_of : Bool → ℕ
greatest_of timed = pick timed greatest_image first_greatest_image

-- where the completion records start, behind n floors
abbrev pub entries_start : ℕ → ℕ
entries_start n = least_image + floor_row * n

-- where the completion record of index i starts
abbrev pub entry_place : ImageHead → ℕ → ℕ
entry_place h i = entries_start h.floors + entry_width h * i

-- the end of the last one: the image's length
abbrev pub length_by : ImageHead → ℕ
length_by h = entry_place h h.entries

-- the fields outside the tables, with the numbers of their rows
unfoldable pub image_head : Image → ImageHead
image_head i =
    record {
      point = i.point;
      destination = i.destination;
      source = i.source;
      move_number = i.move_number;
      heard = i.heard;
      value = i.value;
      quality = i.quality;
      floors = length i.floors;
      entries = length i.entries;
      timed = i.timed;
    }

unfoldable pub image_length : Image → ℕ
unfolding image_head
image_length i = length_by (image_head i)

-- ---- the whole

-- the lengths of the two tables, by their pairs
abbrev pub floors_size_in : List ℕ → ℕ
floors_size_in s = le32_at s 28

abbrev pub entries_size_in : List ℕ → ℕ
entries_size_in s = le32_at s 36

unfoldable pub image_head_of : List ℕ → ImageHead
image_head_of s =
    record {
      point = byte_at s 4;
      destination = byte_at s 5;
      source = byte_at s 6;
      move_number = le32_at s 8;
      heard = le32_at s 12;
      value = signed_at s 40;
      quality = byte_at s 44;
      floors = floors_size_in s / floor_row;
      entries = entries_size_in s / entry_row_of (starts_with s image_magic);
      timed = starts_with s image_magic;
    }

-- the image of a head and its tables, read from the bytes behind it
unfoldable pub image_at : ImageHead → List ℕ → Image
image_at h s =
    record {
      point = h.point;
      destination = h.destination;
      source = h.source;
      move_number = h.move_number;
      heard = h.heard;
      value = h.value;
      quality = h.quality;
      floors = rows floor_of_bytes floor_row h.floors (drop least_image s);
      entries = rows (image_entry_of h.timed) (entry_width h) h.entries (drop (entries_start h.floors) s);
      timed = h.timed;
    }

-- 4D 56 49 32 or 31, and the zero bytes
unfoldable pub image_framed : List ℕ → Bool
image_framed s = (starts_with s image_magic || starts_with s first_image_magic) && (zero_at s 7 && zeros3_at s 45)

-- three parts without gaps from byte 40 to the slice's end: 8 bytes, 8 a floor, and the records by their form
unfoldable pub image_parts : ImageHead → List ℕ → Bool
image_parts h s =
    eqb (le32_at s image_pairs) parts_start
    && (eqb (le32_at s 20) point_part
    && (eqb (le32_at s 24) least_image
    && (eqb (floors_size_in s) (floor_row * h.floors)
    && (eqb (le32_at s 32) (entries_start h.floors)
    && (eqb (entries_size_in s) (entry_width h * h.entries) && eqb (length s) (length_by h))))))

unfoldable pub image_head_ok : ImageHead → Bool
image_head_ok h =
    leb h.point last_point
    && (leb h.destination last_server
    && (leb h.source last_server && (leb h.quality last_quality && leb h.floors client_count)))

-- the zero byte of each record's row
unfoldable pub entry_row_ok : List ℕ → Bool
entry_row_ok s = zero_at s 19

unfoldable pub image_tables_ok : Image → Bool
image_tables_ok i =
    every floor_ok i.floors
    && (clients_ascend i.floors && (every (image_entry_ok i.point i.floors) i.entries && ids_ascend i.entries))

-- all rules but the one on values, which needs the plan
unfoldable pub image_ok : List ℕ → Bool
image_ok s =
    leb least_image (length s)
    && (leb (length s) (greatest_of (starts_with s image_magic))
    && (image_framed s
    && (image_head_ok (image_head_of s)
    && (image_parts (image_head_of s) s
    && (every_row entry_row_ok (entry_width (image_head_of s)) (image_head_of s).entries (drop (entries_start (image_head_of s).floors) s)
    && image_tables_ok (image_at (image_head_of s) s))))))

unfoldable pub parse_image : List ℕ → Option Image
parse_image s = pick (image_ok s) (some (image_at (image_head_of s) s)) none

-- the values lie in the point's range
unfoldable pub entry_in_range : PlanEntry → ImageEntry → Bool
entry_in_range e r = in_range e r.result.value

unfoldable pub image_in_range : PlanEntry → Image → Bool
image_in_range e i = in_range e i.value && every (entry_in_range e) i.entries

unfoldable pub image_head_bytes : ImageHead → List ℕ
image_head_bytes h =
    image_magic_of h.timed
    ++ (quad h.point h.destination h.source 0
    ++ (le32 h.move_number
    ++ (le32 h.heard
    ++ (le32 parts_start
    ++ (le32 point_part
    ++ (le32 least_image
    ++ (le32 (floor_row * h.floors)
    ++ (le32 (entries_start h.floors) ++ (le32 (entry_width h * h.entries) ++ (signed32 h.value ++ quad h.quality 0 0 0))))))))))

unfoldable pub image_bytes : Image → List ℕ
image_bytes i = image_head_bytes (image_head i) ++ (bytes_of floor_bytes i.floors ++ bytes_of (image_entry_bytes i.timed) i.entries)
