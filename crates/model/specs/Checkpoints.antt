-- Checkpoint and tail. A checkpoint is a server's state without places of its log; the tail is the log that follows it.
--     0 57 4C 47 33    4 server number, three zeros    8 heard time
--     12 four pairs of offset and length: plan, points, clients, completion records
--     44 plan, 64 × 16    1068 points, 64 × 16    2092 clients, 8 bytes each    then completion records, 24 bytes each, in the state's order
-- In the first form it opens with 57 4C 47 32, and a completion record has 20 bytes: no time of execution.
-- A row of a point or of a completion record is the front of the state's row; left out are the ends of log records, which close that row.
-- Assumes nothing.
use Rattle.std.specs.Prelude.{ℕ, ◌+◌, ◌-◌, ◌*◌, ◌/◌, Bool, true, false, ◌&&◌, ◌||◌, not, List, [], ◌∷◌, ◌++◌, map, length, take, drop, replicate, eqb, leb, ltb}
use Rattle.std.proofs.Math.Option.{Option, none, some}
use Rattle.model.specs.declared.Answer.{Answer}
use Rattle.model.specs.declared.Place.{Place}
use Rattle.model.specs.declared.Point.{Point}
use Rattle.model.specs.declared.Completion.{Completion}
use Rattle.model.specs.declared.ImageEntry.{ImageEntry}
use Rattle.model.specs.Choice.{pick, or_else, ◌if◌else◌, passed, is_passed}
use Rattle.model.specs.Numbers.{le32_at, le32, le64, quad, starts_with}
use Rattle.model.specs.Refusals.{too_short, not_synced, bad_log, unknown, unsound, no_refusal}
use Rattle.model.specs.Limits.{state_size, head_size, plan_size, point_count, client_count, record_count, floor_row, take_head}
use Rattle.model.specs.Limits.{checkpoint_size, checkpoint_pairs, checkpoint_head, checkpoint_point, first_checkpoint_record, checkpoint_record}
use Rattle.model.specs.Tables.{rows, bytes_of, index_of, written}
use Rattle.model.specs.Plan.{plan_bytes}
use Rattle.model.specs.Images.{floor_bytes, entry_width, entries_start, image_head}
use Rattle.model.specs.Logs.{LogRecord, executed, gone, gave, took, released, head_bytes, head_server, executed_size_of, record_at, ends_of}
use Rattle.model.specs.States.{State, given, state_magic, record_row, status_in, taken_move_in, point_bytes, completion_bytes, padded, load, sound, is_id}
use Rattle.model.specs.Versions.{Versions}
use Rattle.model.specs.Decisions.{find, is_none, timed_by}
use Rattle.model.specs.Operations.{After, answer_of, short, unfit, stored, left_unless, settle_recovered, recovered_on}

-- ---- places of the log

-- a point and a completion record with their ends through f
unfoldable pub placed_point : (ℕ → ℕ) → Point → Point
placed_point f x =
    record {
      status = x.status;
      quality = x.quality;
      destination = x.destination;
      value = x.value;
      move_number = x.move_number;
      taken_move = x.taken_move;
      give_end = f x.give_end;
      take_end = f x.take_end;
    }

unfoldable pub placed_record : (ℕ → ℕ) → Completion → Completion
placed_record f r = record { command = r.command; result = r.result; end = f r.end }

-- a state with every place of the log through f: the length, the mark and the ends
unfoldable pub placed : (ℕ → ℕ) → State → State
placed f st =
    record {
      server = st.server;
      heard = st.heard;
      size = f st.size;
      mark = f st.mark;
      plan = st.plan;
      points = map (placed_point f) st.points;
      floors = st.floors;
      records = map (placed_record f) st.records;
    }

-- every place becomes 8, before this log; 0 is no place
unfoldable pub end_before : ℕ → ℕ
end_before e = pick (eqb e 0) 0 head_size

-- what a checkpoint leaves of a state: all but length, mark and ends. Two states with the same are equal, length, mark and record places aside
unfoldable pub rebased : State → State
rebased st = placed end_before st

-- ---- layout

abbrev pub first_checkpoint_magic : List ℕ
first_checkpoint_magic = quad 87 76 71 50

abbrev pub checkpoint_magic : List ℕ
checkpoint_magic = quad 87 76 71 51

-- by form: the four bytes that open it, the bytes of a completion record
unfoldable pub checkpoint_magic_of : Bool → List ℕ
checkpoint_magic_of timed = pick timed checkpoint_magic first_checkpoint_magic

unfoldable pub checkpoint_record_of : Bool → ℕ
checkpoint_record_of timed = pick timed checkpoint_record first_checkpoint_record

-- where the parts start; the records after n clients
abbrev pub plan_part : ℕ
plan_part = checkpoint_head

abbrev pub points_part : ℕ
points_part = plan_part + plan_size

abbrev pub clients_part : ℕ
clients_part = points_part + checkpoint_point * point_count

abbrev pub records_part : ℕ → ℕ
records_part n = clients_part + floor_row * n

-- the four pairs, with n clients and k completion records of w bytes
unfoldable pub pairs_bytes : ℕ → ℕ → ℕ → List ℕ
pairs_bytes w n k =
    le32 plan_part
    ++ (le32 plan_size
    ++ (le32 points_part
    ++ (le32 (checkpoint_point * point_count)
    ++ (le32 clients_part ++ (le32 (floor_row * n) ++ (le32 (records_part n) ++ le32 (w * k)))))))

unfoldable pub point_front : Point → List ℕ
point_front x = take checkpoint_point (point_bytes x)

-- the first w bytes of the state's row
unfoldable pub record_front : ℕ → Completion → List ℕ
record_front w r = take w (completion_bytes r)

unfoldable pub checkpoint_bytes : Bool → State → List ℕ
checkpoint_bytes timed st =
    checkpoint_magic_of timed
    ++ (quad st.server 0 0 0
    ++ (le32 st.heard
    ++ (pairs_bytes (checkpoint_record_of timed) (length st.floors) (length st.records)
    ++ (plan_bytes st.plan
    ++ (bytes_of point_front st.points ++ (bytes_of floor_bytes st.floors ++ bytes_of (record_front (checkpoint_record_of timed)) st.records))))))

-- ---- reading: the bytes of the state that a checkpoint keeps, which then has to be sound by the state's own rule

-- the bytes of a completion record in the checkpoint s, by its form
unfoldable pub record_width : List ℕ → ℕ
record_width s = checkpoint_record_of (starts_with s checkpoint_magic)

-- numbers of clients and of completion records, by the lengths of their parts
abbrev pub clients_size_in : List ℕ → ℕ
clients_size_in s = le32_at s 32

abbrev pub records_size_in : List ℕ → ℕ
records_size_in s = le32_at s 40

unfoldable pub clients_of : List ℕ → ℕ
clients_of s = clients_size_in s / floor_row

unfoldable pub records_of : List ℕ → ℕ
records_of s = records_size_in s / record_width s

-- the state's row of a point, from its front: given and released ones have a give, those with a latest taken move a take, before this log
unfoldable pub point_whole : List ℕ → List ℕ
point_whole s =
    take checkpoint_point s ++ (le64 (pick (leb given (status_in s)) head_size 0) ++ le64 (pick (eqb (taken_move_in s) 0) 0 head_size))

-- that of a completion record, from the first w bytes of its front: the rest of the front is zero, its end before this log
unfoldable pub record_whole : ℕ → List ℕ → List ℕ
record_whole w s = take w s ++ (replicate (checkpoint_record - w) 0 ++ le64 head_size)

-- n rows of w bytes, each with all that follows it
unfoldable pub fronts : ℕ → ℕ → List ℕ → List (List ℕ)
fronts w n s = rows (λ r. r) w n s

-- the state's bytes: length and mark are 8
unfoldable pub restored_bytes : List ℕ → List ℕ
restored_bytes s =
    state_magic
    ++ (take 8 (drop 4 s)
    ++ (le32 (clients_of s)
    ++ (le32 (records_of s)
    ++ (quad 0 0 0 0
    ++ (le64 head_size
    ++ (le64 head_size
    ++ (take plan_size (drop plan_part s)
    ++ (bytes_of point_whole (fronts checkpoint_point point_count (drop points_part s))
    ++ (padded (take floor_row) floor_row client_count (fronts floor_row (clients_of s) (drop clients_part s))
    ++ bytes_of (record_whole (record_width s)) (fronts (record_width s) (records_of s) (drop (records_part (clients_of s)) s)))))))))))

-- in a buffer of zeros, as long as the state's own test asks
unfoldable pub restored : List ℕ → List ℕ
restored s = restored_bytes s ++ replicate (record_row * (record_count - records_of s)) 0

-- 57 4C 47 33 or 32, and the pairs: without gaps from byte 44, all within the slice. Bytes past the last part are not read
unfoldable pub checkpoint_framed : List ℕ → Bool
checkpoint_framed s =
    leb checkpoint_head (length s)
    && ((starts_with s checkpoint_magic || starts_with s first_checkpoint_magic)
    && (eqb (le32_at s checkpoint_pairs) plan_part
    && (eqb (le32_at s 16) plan_size
    && (eqb (le32_at s 20) points_part
    && (eqb (le32_at s 24) (checkpoint_point * point_count)
    && (eqb (le32_at s 28) clients_part
    && (eqb (clients_size_in s) (floor_row * clients_of s)
    && (eqb (le32_at s 36) (records_part (clients_of s))
    && (eqb (records_size_in s) (record_width s * records_of s)
    && (leb (clients_of s) client_count
    && (leb (records_of s) record_count && leb (records_part (clients_of s) + record_width s * records_of s) (length s))))))))))))

-- the state that a checkpoint gives; none where it is off its layout, or the state unsound
unfoldable pub checkpoint_state : List ℕ → Option State
checkpoint_state s = pick (checkpoint_framed s && sound (restored s)) (some (load (restored s))) none

-- ---- Checkpoint: 2 state or checkpoint under 32,768 bytes, tail under 8; 19; 7 records not synced; else the checkpoint, the tail's head,
-- and the state with the places that the tail starts with. The log is lent to be measured

-- what a call leaves
pub record AfterCheckpoint : Type 0 where
  pub answer : Answer
  pub state : List ℕ
  pub log : List ℕ
  pub checkpoint : List ℕ
  pub tail : List ℕ

unfoldable pub checkpoint_refusal : List ℕ → List ℕ → ℕ → ℕ → ℕ
checkpoint_refusal state log checkpoints tails =
    too_short if (short state state_size || (ltb checkpoints checkpoint_size || ltb tails head_size))
    else unsound if unfit state log
    else not_synced if ltb (load state).mark (load state).size
    else passed

-- by a program that writes by v
unfoldable pub checkpoint_of : Versions → List ℕ → List ℕ → List ℕ → List ℕ → AfterCheckpoint
checkpoint_of v state log checkpoint tail =
    let n = checkpoint_refusal state log (length checkpoint) (length tail) in
    let st = load state in
    pick (is_passed n)
    (record {
      answer = answer_of no_refusal (length (checkpoint_bytes (timed_by v st) st));
      state = stored state (rebased st);
      log = log;
      checkpoint = written checkpoint 0 (checkpoint_bytes (timed_by v st) st);
      tail = written tail 0 (head_bytes st.server);
    })
    (record { answer = answer_of n 0; state = state; log = log; checkpoint = checkpoint; tail = tail })

-- ---- Recover from checkpoint and tail: 2; 14, also for a checkpoint of another server than the tail; else the replay of the tail's whole
-- records, and the mark is their end

-- the state that both give, none for 14
unfoldable pub recovered_tail : List ℕ → List ℕ → Option State
recovered_tail checkpoint tail =
    or_else (checkpoint_state checkpoint) none (λ st. pick (eqb (head_server tail) st.server) (recovered_on st tail) none)

-- by the state's length
unfoldable pub recover_tail_refusal : ℕ → ℕ
recover_tail_refusal states = too_short if ltb states state_size else passed

unfoldable pub recover_tail_of : List ℕ → List ℕ → List ℕ → After
recover_tail_of state checkpoint tail =
    left_unless (recover_tail_refusal (length state)) state tail (settle_recovered state tail (recovered_tail checkpoint tail))

-- ---- Inspect: 2; 19; 14 where there is a checkpoint and it is bad beside this tail, or where the first walk refuses the tail; 17 no such
-- completion record; else the part of the tail or of the checkpoint that holds it, the latest

-- what holds a completion record: a log record, an entry of an image in a log record, an entry of the checkpoint
abbrev pub in_record : ℕ
in_record = 1

abbrev pub in_image : ℕ
in_image = 2

abbrev pub in_checkpoint : ℕ
in_checkpoint = 3

-- n bytes from k
abbrev pub place_at : ℕ → ℕ → ℕ → Place
place_at source k n = record { refusal = no_refusal; source = source; start = k; end = k + n }

abbrev pub no_place : ℕ → Place
no_place n = record { refusal = n; source = 0; start = 0; end = 0 }

-- the one of rows of w bytes from k on that passes a test; `found` where none does
unfoldable pub place_among : {A : Type 0} → ℕ → ℕ → ℕ → (A → Bool) → List A → Place → Place
place_among source k w t rs found = pick (ltb (index_of t rs) (length rs)) (place_at source (k + w * index_of t rs) w) found

unfoldable pub is_entry_id : ℕ → ℕ → ImageEntry → Bool
is_entry_id x c e = eqb e.client x && eqb e.call c

-- the record from k of the tail holds the id, or `found` does
unfoldable pub latest_of : ℕ → ℕ → ℕ → Option LogRecord → Place → Place
latest_of x c k none found = found
latest_of x c k (some (executed r)) found =
    pick (eqb r.command.client x && eqb r.command.call c) (place_at in_record k (executed_size_of r.timed)) found
latest_of x c k (some (took i)) found =
    place_among in_image (k + take_head + entries_start (length i.floors)) (entry_width (image_head i)) (is_entry_id x c) i.entries found
latest_of x c k (some (gone n)) found = found
latest_of x c k (some (gave g)) found = found
latest_of x c k (some (released r)) found = found

-- over the records between the ends, from place k on
unfoldable pub latest_in : ℕ → ℕ → List ℕ → ℕ → List ℕ → Place → Place
latest_in x c log k [] found = found
latest_in x c log k (e ∷ es) found = latest_in x c log e es (latest_of x c k (record_at (drop k log)) found)

-- in the checkpoint; before the first one that slice is empty
unfoldable pub place_in_checkpoint : ℕ → ℕ → List ℕ → Place
place_in_checkpoint x c checkpoint =
    pick (leb 1 (length checkpoint))
    (place_among in_checkpoint (records_part (clients_of checkpoint)) (record_width checkpoint) (is_id x c)
    (load (restored checkpoint)).records (no_place unknown))
    (no_place unknown)

-- there is a checkpoint, but no state in it, or that of a server other than the tail's
unfoldable pub checkpoint_bad : List ℕ → List ℕ → Bool
checkpoint_bad checkpoint tail =
    leb 1 (length checkpoint) && or_else (checkpoint_state checkpoint) true (λ st. not (eqb (head_server tail) st.server))

-- the tail up to its recorded length
unfoldable pub tail_of : List ℕ → List ℕ → List ℕ
tail_of state tail = take (load state).size tail

unfoldable pub inspect_refusal : List ℕ → List ℕ → List ℕ → ℕ → ℕ → ℕ
inspect_refusal state checkpoint tail x c =
    too_short if short state state_size
    else unsound if unfit state tail
    else bad_log if (checkpoint_bad checkpoint tail || or_else (ends_of (tail_of state tail)) true (λ es. false))
    else unknown if is_none (find x c (load state).records)
    else passed

unfoldable pub inspect_of : List ℕ → List ℕ → List ℕ → ℕ → ℕ → Place
inspect_of state checkpoint tail x c =
    let n = inspect_refusal state checkpoint tail x c in
    pick (is_passed n)
    (or_else (ends_of (tail_of state tail)) (no_place unknown) (λ es. latest_in x c (tail_of state tail) head_size es (place_in_checkpoint x c checkpoint)))
    (no_place n)

-- the part itself: of the checkpoint or of the tail; no bytes with a refusal
unfoldable pub shown_of : List ℕ → List ℕ → List ℕ → ℕ → ℕ → List ℕ
shown_of state checkpoint tail x c =
    let p = inspect_of state checkpoint tail x c in
    take (p.end - p.start) (drop p.start (pick (eqb p.source in_checkpoint) checkpoint tail))
