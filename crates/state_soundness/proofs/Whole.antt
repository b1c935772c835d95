-- The rule of soundness in the order of `state_ok`: length, framing, the head's numbers, tables.
--     tables_by     tables_ok by the rows of each table
--     sound-parts     sound by the parts of `state_ok`
-- Assumes nothing.
use Prim.Native.Nat.{ℕ}
use mathlib.Core.Path.{◌≡◌, refl, sym, ap}
use mathlib.Core.Bool.{Bool, true, false, ◌&&◌, and_assoc}
use mathlib.Core.List.{List}
use lib.ListN.{length, drop}
use lib.Dec.{leb}
use Rattle.model.specs.Numbers.{byte_at, le64_at}
use Rattle.model.specs.Tables.{rows, every_row, every}
use Rattle.model.specs.Plan.{plan_entry_of, plan_row_ok}
use Rattle.model.specs.Images.{floor_of_bytes, floor_ok, clients_ascend}
use Rattle.model.specs.States.{clients_in, point_of, load, points_ok, state_framed, point_row_ok, state_ok, sound, floors_start, point_row, points_start, state_end, state_head}
use Rattle.model.specs.Limits.{floor_row, plan_row, point_count, head_size, last_server}
use Rattle.state_sound_rows.specs.Parts.{rows_ok}
use Rattle.state_soundness.specs.Slots.{records_ok, head_ok, tables_ok}

pub tables_by : (s : List ℕ) {server size n : ℕ} → server ≡ (load s).server → size ≡ (load s).size → n ≡ clients_in s
    → tables_ok s
    ≡ (rows_ok server size (drop state_head s) (drop points_start s)
    && (every floor_ok (rows floor_of_bytes floor_row n (drop floors_start s)) && (clients_ascend (rows floor_of_bytes floor_row n (drop floors_start s)) && records_ok (load s))))
unfolding tables_ok load
tables_by s p q r = rw (p, q, r)

-- the rows' tests p and q stand with that of the points, x
moved : (p q a b c x y : Bool) → (p && (q && (a && (b && (c && (x && y)))))) ≡ ((a && (b && c)) && ((p && (q && x)) && y))
moved true true true b c x y = sym (and_assoc b c (x && y))
moved true true false b c x y = refl
moved true false true true true x y = refl
moved true false true true false x y = refl
moved true false true false c x y = refl
moved true false false b c x y = refl
moved false q true true true x y = refl
moved false q true true false x y = refl
moved false q true false c x y = refl
moved false q false b c x y = refl

pub sound-parts : (s : List ℕ) → sound s ≡ (leb state_end (length s) && (state_framed s && (head_ok (load s) && tables_ok s)))
unfolding sound state_ok head_ok tables_ok rows_ok records_ok load
sound-parts s =
    ap (λ (b : Bool). leb state_end (length s) && (state_framed s && b))
    (moved (every_row plan_row_ok plan_row point_count (drop state_head s)) (every_row point_row_ok point_row point_count (drop points_start s)) (leb (byte_at s 4) last_server)
    (leb head_size (le64_at s 32)) (leb (le64_at s 32) (le64_at s 24))
    (points_ok (byte_at s 4) (le64_at s 24) (rows plan_entry_of plan_row point_count (drop state_head s)) (rows point_of point_row point_count (drop points_start s)))
    (every floor_ok (rows floor_of_bytes floor_row (clients_in s) (drop floors_start s))
    && (clients_ascend (rows floor_of_bytes floor_row (clients_in s) (drop floors_start s)) && records_ok (load s))))
