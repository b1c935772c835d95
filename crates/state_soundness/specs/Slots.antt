-- One pass over the completion records: each passes its test and finds its slot free. A record's slot stands for its id.
-- Assumes nothing.
use Rattle.std.specs.Prelude.{ℕ, suc, ◌+◌, ◌%◌, ◌≤◌, ◌≡◌, Bool, true, false, ◌&&◌, not, List, [], ◌∷◌, length, get_or, set, drop, leb, Option, None, Some}
use Rattle.model.specs.declared.Floor.{Floor}
use Rattle.model.specs.declared.Completion.{Completion}
use Rattle.model.specs.Choice.{pick}
use Rattle.model.specs.Limits.{head_size, client_count, record_count, floor_row, last_server}
use Rattle.model.specs.Tables.{rows, every}
use Rattle.model.specs.Plan.{entry_at, in_range}
use Rattle.model.specs.Packets.{id_ok, command_ok, outcome_ok}
use Rattle.model.specs.Images.{floor_of_bytes, floor_ok, clients_ascend}
use Rattle.model.specs.States.{State, load, point_at, keeps_records, state_head, points_start, floors_start, record_row, state_end, clients_in, records_in, completion_ok, ids_differ, ends_from}
use Rattle.state_clients.specs.Places.{slot_of}
use Rattle.state_sound_rows.specs.Parts.{is_end, rows_ok}

-- the fields of a record that are tested without plan and clients
unfoldable pub fields_ok : ℕ → Completion → Bool
fields_ok size r =
    command_ok r.command.op r.command.point r.command.argument
    && (outcome_ok r.result.outcome r.result.quality && (id_ok r.command.client r.command.call && is_end size r.end))

-- what is tested without the clients: the fields, and the record's point
unfoldable pub at_point_ok : ℕ → State → Completion → Bool
at_point_ok size st r =
    fields_ok size r && (in_range (entry_at st.plan r.command.point) r.result.value && keeps_records (point_at st r.command.point))

-- 16 slots for each client, one for each call of its window
unfoldable pub slot_in : State → Completion → ℕ
slot_in st r = slot_of st.floors r.command.client r.command.call

-- the slot of a record that passes its test
unfoldable pub tested_slot : State → Completion → Option ℕ
tested_slot st r = pick (completion_ok st r) (Some (slot_in st r)) None

-- the slot of r is not marked
unfoldable pub is_free : State → List Bool → Completion → Bool
is_free st marks r = not (get_or marks (slot_in st r) false)

-- each record passes its test, its slot is free, and is then marked; the order of arrival apart
unfoldable pub slots_pass : State → List Bool → List Completion → Bool
slots_pass st marks [] = true
slots_pass st marks (r ∷ rs) = completion_ok st r && (is_free st marks r && slots_pass st (set marks (slot_in st r) true) rs)

-- in order of arrival too: no end is below the one before, `last`
unfoldable pub records_pass : State → ℕ → List Bool → List Completion → Bool
records_pass st last marks [] = true
records_pass st last marks (r ∷ rs) =
    leb last r.end && (completion_ok st r && (is_free st marks r && records_pass st r.end (set marks (slot_in st r) true) rs))

-- the test of all records
unfoldable pub records_ok : State → Bool
records_ok st = every (completion_ok st) st.records && (ids_differ st.records && ends_from head_size st.records)

-- hints, with the place of each client, from place i on, at its number modulo 256; a later client takes the entry of an earlier one
unfoldable pub hints_from : ℕ → List ℕ → List Floor → List ℕ
hints_from i hints [] = hints
hints_from i hints (f ∷ fs) = hints_from (suc i) (set hints (f.client % 256) i) fs

-- ---- the whole

-- the head's numbers
unfoldable pub head_ok : State → Bool
head_ok st = leb st.server last_server && (leb head_size st.mark && leb st.mark st.size)

-- the tables of the buffer s, the zero bytes in the rows of plan and points among them
unfoldable pub tables_ok : List ℕ → Bool
tables_ok s =
    let st = load s in
    rows_ok st.server st.size (drop state_head s) (drop points_start s)
    && (every floor_ok st.floors
    && (clients_ascend st.floors && records_ok st))

-- ---- what the tests of completion records rest on: a buffer s of the state's size with n clients in order, and a log of `size` bytes

-- a record from k
abbrev pub RecordPlaced : List ℕ → ℕ → ℕ → ℕ → Type 0
RecordPlaced s n size k =
    (state_end ≤ length s)
    × (k + record_row ≤ length s)
    × (n ≤ client_count)
    × (n ≡ clients_in s)
    × (size ≡ (load s).size)
    × (clients_ascend (rows floor_of_bytes floor_row n (drop floors_start s)) ≡ true)

-- m records
abbrev pub RecordsPlaced : List ℕ → ℕ → ℕ → ℕ → Type 0
RecordsPlaced s n m size =
    (state_end ≤ length s)
    × (n ≤ client_count)
    × (m ≤ record_count)
    × (n ≡ clients_in s)
    × (m ≡ records_in s)
    × (size ≡ (load s).size)
    × (clients_ascend (rows floor_of_bytes floor_row n (drop floors_start s)) ≡ true)
