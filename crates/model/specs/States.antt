-- A server's state (paper: cabinet state) and how it lies in the lent buffer. docs/STATE.md has the table and the rule.
--     0 57 53 54 32    4 server number, three zeros    8 heard time    12 clients    16 completion records    20 zeros (4)
--     24 log length (8)    32 sync mark (8)    40 plan, 64 × 16    1064 points, 64 × 32
--     3112 clients, 32 × 8, zero past their count    3368 completion records, at most 512 × 32, in order of arrival
-- The state ends with its last completion record: a sound state has one list of bytes, and what lies behind them is no part of it.
-- Assumes nothing.
use Rattle.std.specs.Prelude.{ℕ, suc, ◌+◌, ◌-◌, ◌*◌, Bool, true, false, ◌&&◌, ◌||◌, not, List, [], ◌∷◌, ◌++◌, length, get_or, drop, replicate, eqb, leb, ltb}
use Rattle.model.specs.declared.PlanEntry.{PlanEntry}
use Rattle.model.specs.declared.Floor.{Floor}
use Rattle.model.specs.declared.Point.{Point}
use Rattle.model.specs.declared.Completion.{Completion}
use Rattle.model.specs.Choice.{pick}
use Rattle.model.specs.Numbers.{byte_at, le32_at, le32, le64_at, le64, signed_at, signed32, zero_at, zeros3_at, quad, starts_with}
use Rattle.model.specs.Tables.{rows, every_row, bytes_of, every, zeros}
use Rattle.model.specs.Plan.{plan_entry_of, plan_bytes, plan_row_ok, entry_at, in_range}
use Rattle.model.specs.Packets.{id_ok, command_ok, outcome_ok}
use Rattle.model.specs.Images.{floor_of_bytes, floor_bytes, floor_of, floor_ok, in_window, clients_ascend}
use Rattle.model.specs.Limits.{invalid, last_server, last_quality, point_count, client_count, record_count, plan_size, plan_row, head_size, floor_row, end_size, checkpoint_point, checkpoint_record}

-- `size` is the recorded length of the log; `records` are in order of arrival, `floors` by client
pub record State : Type 0 where
  pub server : ℕ
  pub heard : ℕ
  pub size : ℕ
  pub mark : ℕ
  pub plan : List PlanEntry
  pub points : List Point
  pub floors : List Floor
  pub records : List Completion

-- ---- a point's status

abbrev pub absent : ℕ
absent = 0

abbrev pub held : ℕ
held = 1

abbrev pub given : ℕ
given = 2

abbrev pub released_status : ℕ
released_status = 3

-- what a lookup past the points' end gives
abbrev pub no_point : Point
no_point = record { status = 0; quality = 0; destination = 0; value = 0; move_number = 0; taken_move = 0; give_end = 0; take_end = 0 }

unfoldable pub point_at : State → ℕ → Point
point_at st p = get_or st.points p no_point

unfoldable pub is_held : Point → Bool
is_held x = eqb x.status held

unfoldable pub is_given : Point → Bool
is_given x = eqb x.status given

-- a record that ends at `end` is synced
unfoldable pub is_synced : ℕ → ℕ → Bool
is_synced mark end = leb end mark

-- ---- layout

abbrev pub state_magic : List ℕ
state_magic = quad 87 83 84 50

-- places in the head: the counts of clients and of completion records, the log's length, the sync mark
abbrev pub clients_place : ℕ
clients_place = 12

abbrev pub records_place : ℕ
records_place = 16

abbrev pub length_place : ℕ
length_place = 24

abbrev pub mark_place : ℕ
mark_place = length_place + end_size

abbrev pub state_head : ℕ
state_head = mark_place + end_size

-- a row is what a checkpoint keeps of it, and the ends of log records
abbrev pub point_row : ℕ
point_row = checkpoint_point + end_size + end_size

abbrev pub record_row : ℕ
record_row = checkpoint_record + end_size

-- one table after the other: plan, points, clients, completion records
abbrev pub points_start : ℕ
points_start = state_head + plan_size

abbrev pub floors_start : ℕ
floors_start = points_start + point_row * point_count

abbrev pub records_start : ℕ
records_start = floors_start + floor_row * client_count

-- where n completion records end; and the most of them, so long a state's buffer has to be
abbrev pub records_end : ℕ → ℕ
records_end n = records_start + record_row * n

abbrev pub state_end : ℕ
state_end = records_end record_count

-- status, quality, destination, 0, value, move, latest taken move, end of the give (8), end of the take (8)
abbrev pub status_in : List ℕ → ℕ
status_in s = byte_at s 0

abbrev pub taken_move_in : List ℕ → ℕ
taken_move_in s = le32_at s 12

unfoldable pub point_of : List ℕ → Point
point_of s =
    record {
      status = status_in s;
      quality = byte_at s 1;
      destination = byte_at s 2;
      value = signed_at s 4;
      move_number = le32_at s 8;
      taken_move = taken_move_in s;
      give_end = le64_at s checkpoint_point;
      take_end = le64_at s (checkpoint_point + end_size);
    }

unfoldable pub point_bytes : Point → List ℕ
point_bytes x =
    quad x.status x.quality x.destination 0
    ++ (signed32 x.value ++ (le32 x.move_number ++ (le32 x.taken_move ++ (le64 x.give_end ++ le64 x.take_end))))

-- client, call, argument, value, op, outcome, quality, point, time, end (8)
unfoldable pub completion_of : List ℕ → Completion
completion_of s =
    record {
      command = record { client = le32_at s 0; call = le32_at s 4; op = byte_at s 16; point = byte_at s 19; argument = signed_at s 8 };
      result = record { outcome = byte_at s 17; value = signed_at s 12; quality = byte_at s 18; time = le32_at s 20 };
      end = le64_at s checkpoint_record;
    }

unfoldable pub completion_bytes : Completion → List ℕ
completion_bytes r =
    let c = r.command in
    let a = r.result in
    le32 c.client
    ++ (le32 c.call
    ++ (signed32 c.argument
    ++ (signed32 a.value ++ (quad c.op a.outcome a.quality c.point ++ (le32 a.time ++ le64 r.end)))))

unfoldable pub clients_in : List ℕ → ℕ
clients_in s = le32_at s clients_place

unfoldable pub records_in : List ℕ → ℕ
records_in s = le32_at s records_place

-- the state that lies in the buffer s
unfoldable pub load : List ℕ → State
load s =
    record {
      server = byte_at s 4;
      heard = le32_at s 8;
      size = le64_at s length_place;
      mark = le64_at s mark_place;
      plan = rows plan_entry_of plan_row point_count (drop state_head s);
      points = rows point_of point_row point_count (drop points_start s);
      floors = rows floor_of_bytes floor_row (clients_in s) (drop floors_start s);
      records = rows completion_of record_row (records_in s) (drop records_start s);
    }

unfoldable pub state_head_bytes : State → List ℕ
state_head_bytes st =
    state_magic
    ++ (quad st.server 0 0 0
    ++ (le32 st.heard
    ++ (le32 (length st.floors) ++ (le32 (length st.records) ++ (quad 0 0 0 0 ++ (le64 st.size ++ le64 st.mark))))))

-- the rows of a table with n places of w bytes
unfoldable pub padded : {A : Type 0} → (A → List ℕ) → ℕ → ℕ → List A → List ℕ
padded enc w n rs = bytes_of enc rs ++ replicate (w * (n - length rs)) 0

-- the bytes of a state
unfoldable pub state_bytes : State → List ℕ
state_bytes st =
    state_head_bytes st
    ++ (plan_bytes st.plan
    ++ (bytes_of point_bytes st.points
    ++ (padded floor_bytes floor_row client_count st.floors ++ bytes_of completion_bytes st.records)))

-- ---- soundness: every field in range, every limit kept, nothing that no run leaves as far as one pass tells

-- an end of a log record, or 0 for none. 8, the end of the log's head, stands for any place before this log
unfoldable pub end_ok : ℕ → ℕ → Bool
end_ok size end = eqb end 0 || (leb head_size end && leb end size)

-- the record that ends at e stands before the one that ends at f; of two before this log nothing is told
unfoldable pub ends_in_order : ℕ → ℕ → Bool
ends_in_order e f = ltb e f || (eqb e head_size && eqb f head_size)

-- neither destination nor give
unfoldable pub not_given : Point → Bool
not_given x = eqb x.destination 0 && eqb x.give_end 0

-- never taken: founded here; else the take has an end
unfoldable pub origin_ok : ℕ → PlanEntry → Point → Bool
origin_ok server e x = pick (eqb x.taken_move 0) (eqb x.take_end 0 && eqb e.home server) (leb 1 x.take_end)

-- absent: as founding left it
unfoldable pub absent_ok : ℕ → PlanEntry → Point → Bool
absent_ok server e x =
    not (eqb e.home server)
    && (eqb x.value e.fallback
    && (eqb x.quality invalid && (eqb x.move_number 0 && (eqb x.taken_move 0 && (eqb x.take_end 0 && not_given x)))))

-- held: since founding, or taken with just this move
unfoldable pub held_ok : ℕ → PlanEntry → Point → Bool
held_ok server e x = eqb x.move_number x.taken_move && (not_given x && origin_ok server e x)

-- given or released: to another server, by the move and the log record after those of being held
unfoldable pub given_ok : ℕ → PlanEntry → Point → Bool
given_ok server e x =
    eqb x.move_number (suc x.taken_move) && (not (eqb x.destination server) && (ends_in_order x.take_end x.give_end && origin_ok server e x))

unfoldable pub status_ok : ℕ → PlanEntry → Point → Bool
status_ok server e x =
    pick (eqb x.status absent) (absent_ok server e x) (pick (eqb x.status held) (held_ok server e x) (given_ok server e x))

unfoldable pub point_ok : ℕ → ℕ → PlanEntry → Point → Bool
point_ok server size e x =
    leb x.status released_status
    && (leb x.quality last_quality
    && (leb x.destination last_server
    && (in_range e x.value && (end_ok size x.give_end && (end_ok size x.take_end && status_ok server e x)))))

-- each point keeps its entry of the plan
unfoldable pub points_ok : ℕ → ℕ → List PlanEntry → List Point → Bool
points_ok server size [] [] = true
points_ok server size [] (x ∷ xs) = false
points_ok server size (e ∷ es) [] = false
points_ok server size (e ∷ es) (x ∷ xs) = point_ok server size e x && points_ok server size es xs

-- a point whose completion records stay: held, or given and not released
unfoldable pub keeps_records : Point → Bool
keeps_records x = is_held x || is_given x

-- a completion record: fields, a value in its point's range, a point held or given, an end in the log or before it, a known client, a call from
-- floor to floor + 15
unfoldable pub completion_ok : State → Completion → Bool
completion_ok st r =
    let c = r.command in
    command_ok c.op c.point c.argument
    && (outcome_ok r.result.outcome r.result.quality
    && (id_ok c.client c.call
    && (in_range (entry_at st.plan c.point) r.result.value
    && (keeps_records (point_at st c.point)
    && (leb head_size r.end && (leb r.end st.size && in_window (floor_of c.client st.floors) c.call))))))

unfoldable pub is_id : ℕ → ℕ → Completion → Bool
is_id x c r = eqb r.command.client x && eqb r.command.call c

-- no id stands twice
unfoldable pub ids_differ : List Completion → Bool
ids_differ [] = true
ids_differ (r ∷ rs) = every (λ q. not (is_id r.command.client r.command.call q)) rs && ids_differ rs

-- in order of arrival: no end is below the one before; the first is not below `last`
unfoldable pub ends_from : ℕ → List Completion → Bool
ends_from last [] = true
ends_from last (r ∷ rs) = leb last r.end && ends_from r.end rs

-- the magic, the zero bytes, the counts and the clients' rows past theirs
unfoldable pub state_framed : List ℕ → Bool
state_framed s =
    starts_with s state_magic
    && (zeros3_at s 5
    && (eqb (le32_at s 20) 0
    && (leb (clients_in s) client_count
    && (leb (records_in s) record_count
    && zeros (floor_row * (client_count - clients_in s)) (drop (floors_start + floor_row * clients_in s) s)))))

-- the zero byte of each point's row
unfoldable pub point_row_ok : List ℕ → Bool
point_row_ok s = zero_at s 3

unfoldable pub state_ok : State → Bool
state_ok st =
    leb st.server last_server
    && (leb head_size st.mark
    && (leb st.mark st.size
    && (points_ok st.server st.size st.plan st.points
    && (every floor_ok st.floors
    && (clients_ascend st.floors
    && (every (completion_ok st) st.records && (ids_differ st.records && ends_from head_size st.records)))))))

-- the written rule of soundness, a test over the bytes
unfoldable pub sound : List ℕ → Bool
sound s =
    leb state_end (length s)
    && (state_framed s
    && (every_row plan_row_ok plan_row point_count (drop state_head s)
    && (every_row point_row_ok point_row point_count (drop points_start s) && state_ok (load s))))
