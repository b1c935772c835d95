-- What each call of a server decides on its state. Its tests are functions on values that give the refusal's number, in the order of
-- docs/REFERENCE.md; then comes what it does. Recovery asks the same functions. `free` is the space left in the log. The tests of lent
-- memory (2, 19) stand before these, in Operations.
-- Assumes nothing.
use Rattle.std.specs.Prelude.{ℕ, suc, ◌+◌, Bool, true, false, ◌&&◌, ◌||◌, not, List, [], ◌∷◌, map, length, eqb, leb, ltb, Option}
use Rattle.std.proofs.Math.Option.{Option as Maybe, none, some}
use Rattle.model.specs.declared.CommandResult.{CommandResult}
use Rattle.model.specs.declared.Request.{Request}
use Rattle.model.specs.declared.ResultPacket.{ResultPacket}
use Rattle.model.specs.declared.Notice.{Notice}
use Rattle.model.specs.declared.Executed.{Executed}
use Rattle.model.specs.declared.ImageEntry.{ImageEntry}
use Rattle.model.specs.declared.Point.{Point}
use Rattle.model.specs.declared.Completion.{Completion}
use Rattle.model.specs.declared.Packet.{Packet}
use Rattle.model.specs.Choice.{pick, or_else, Decision, refuse, deny, reply, append, marks, ◌if◌else◌, passed, is_passed, unless_refused}
use Rattle.model.specs.Refusals.{malformed, not_held, lease_over, under_floor, other_command, not_synced, clients_full, log_full, bad_mark, wrong_destination, old_move, already_held, numbers_out, unknown}
use Rattle.model.specs.Limits.{last_point, last_server, last32, client_count, gone_size, give_size, take_head, release_size}
use Rattle.model.specs.Tables.{every, keep}
use Rattle.model.specs.Plan.{entry_at, in_range}
use Rattle.model.specs.Versions.{Versions}
use Rattle.model.specs.Rules.{rule_of}
use Rattle.model.specs.Packets.{result_bytes, refusal_bytes, receipt_bytes, as_request, as_receipt, as_notice}
use Rattle.model.specs.Images.{Image, image_in_range, image_bytes, image_length, id_before, floor_of, not_known}
use Rattle.model.specs.Logs.{LogRecord, executed, gone, gave, took, released, executed_size_of}
use Rattle.model.specs.States.{State, point_at, is_held, is_given, is_synced, is_id}
use Rattle.model.specs.Apply.{merge_floors}

abbrev pub Decided : Type 0
Decided = Decision LogRecord

-- what is decided on a packet of the kind asked for, or on an image; 1 where there is none
unfoldable pub or_malformed : {A : Type 0} → Maybe A → (A → Decided) → Decided
or_malformed o f = or_else o (refuse malformed) f

-- the completion record of an id
unfoldable pub find : ℕ → ℕ → List Completion → Maybe Completion
find x c [] = none
find x c (r ∷ rs) = pick (is_id x c r) (some r) (find x c rs)

-- ---- Request: 3 the point is not held; 4 the lease is over; 5 the call is under its floor; then by whether the id is held

-- `over`: the lease is over
unfoldable pub request_refusal : Point → Bool → ℕ → ℕ → ℕ
request_refusal x over floor call =
    not_held if not (is_held x)
    else lease_over if over
    else under_floor if ltb call floor
    else passed

-- a program that writes no times has none to write: then packets, images and checkpoints have their first form. No time is lost by a program
-- from before, whatever state it is run on
unfoldable pub timed_by : Versions → State → Bool
timed_by v st = v.timed || not (every (λ r. eqb r.result.time 0) st.records)

-- the result packet of a completion record, by form
unfoldable pub result_of_record : Bool → Completion → ResultPacket
result_of_record timed r =
    record { client = r.command.client; call = r.command.call; point = r.command.point; result = r.result; timed = timed }

unfoldable pub same_command : Completion → Request → Bool
same_command r q =
    let c = r.command in
    let d = q.command in
    eqb c.op d.op && (eqb c.point d.point && eqb c.argument d.argument)

-- an id that is held: 6 with another op, point or argument; 7 not synced; else the result packet
unfoldable pub held_refusal : ℕ → Request → Completion → ℕ
held_refusal mark q r =
    other_command if not (same_command r q)
    else not_synced if not (is_synced mark r.end)
    else passed

unfoldable pub on_held : Versions → State → Request → Completion → Decided
on_held v st q r = unless_refused (held_refusal st.mark q r) (reply (result_bytes (result_of_record (timed_by v st) r)))

-- what the command does to its point, by v's version of its op's rule
unfoldable pub result_for : Versions → State → Request → CommandResult
result_for v st q =
    let c = q.command in
    let x = point_at st c.point in
    rule_of (v.rule c.op) (entry_at st.plan c.point) c.op c.argument (record { value = x.value; quality = x.quality })

-- the time of execution: the heard time, 0 of a program that writes none
unfoldable pub time_for : Versions → State → ℕ
time_for v st = pick v.timed st.heard 0

unfoldable pub with_time : ℕ → CommandResult → CommandResult
with_time t r = record { outcome = r.outcome; value = r.value; quality = r.quality; time = t }

unfoldable pub executed_for : Versions → State → Request → Executed
executed_for v st q =
    record { command = q.command; done = q.done; result = with_time (time_for v st) (result_for v st q); timed = v.timed }

-- an id that is not held: 8 a new client without a place; 9 no space for the record, of `need` bytes; else the command is executed
unfoldable pub new_refusal : ℕ → ℕ → ℕ → ℕ → ℕ
new_refusal floor clients free need =
    clients_full if (not_known floor && leb client_count clients)
    else log_full if ltb free need
    else passed

unfoldable pub on_new : Versions → State → ℕ → Request → Decided
on_new v st free q =
    unless_refused (new_refusal (floor_of q.command.client st.floors) (length st.floors) free (executed_size_of v.timed))
    (append (executed (executed_for v st q)))

unfoldable pub on_id : Versions → State → ℕ → Request → Maybe Completion → Decided
on_id v st free q none = on_new v st free q
on_id v st free q (some r) = on_held v st q r

unfoldable pub decide_request : Versions → State → ℕ → Request → Decided
decide_request v st free q =
    let c = q.command in
    unless_refused (request_refusal (point_at st c.point) (leb q.lease st.heard) (floor_of c.client st.floors) c.call)
    (on_id v st free q (find c.client c.call st.records))

-- numbers 3 to 9 also make a refusal packet
unfoldable pub denying : Request → Decided → Decided
denying q (refuse n) =
    let c = q.command in
    deny n (refusal_bytes (record { refusal = n; point = c.point; client = c.client; call = c.call }))
denying q (deny n b) = deny n b
denying q (reply b) = reply b
denying q (append r) = append r
denying q (marks m) = marks m

unfoldable pub on_request : Versions → State → ℕ → Option Packet → Decided
on_request v st free p = or_malformed (as_request p) (λ q. denying q (decide_request v st free q))

-- ---- Fetch, of an id: 17 it is not held; 7 its record is not synced; else its result packet

unfoldable pub fetch_refusal : ℕ → Completion → ℕ
fetch_refusal mark r = not_synced if not (is_synced mark r.end) else passed

unfoldable pub on_fetched : Versions → State → Maybe Completion → Decided
on_fetched v st none = refuse unknown
on_fetched v st (some r) = unless_refused (fetch_refusal st.mark r) (reply (result_bytes (result_of_record (timed_by v st) r)))

unfoldable pub on_fetch : Versions → State → ℕ → ℕ → Decided
on_fetch v st x c = on_fetched v st (find x c st.records)

-- ---- Sync, to a mark: 10 if it falls, or passes the log's length

unfoldable pub sync_refusal : ℕ → ℕ → ℕ → ℕ
sync_refusal mark size m = bad_mark if (ltb m mark || ltb size m) else passed

unfoldable pub on_sync : State → ℕ → Decided
on_sync st m = unless_refused (sync_refusal st.mark st.size m) (marks m)

-- ---- Notice: 1; 17 client not known; 9

unfoldable pub notice_refusal : ℕ → ℕ → ℕ
notice_refusal floor free =
    unknown if not_known floor
    else log_full if ltb free gone_size
    else passed

unfoldable pub decide_notice : State → ℕ → Notice → Decided
decide_notice st free n = unless_refused (notice_refusal (floor_of n.client st.floors) free) (append (gone n))

unfoldable pub on_notice : State → ℕ → Option Packet → Decided
on_notice st free p = or_malformed (as_notice p) (decide_notice st free)

-- ---- Give (point, destination): 1; 3; 11 destination is this server; 16 move number at its greatest; 9

unfoldable pub places_bad : ℕ → ℕ → Bool
places_bad p d = ltb last_point p || ltb last_server d

unfoldable pub give_refusal : Point → ℕ → ℕ → ℕ → ℕ
give_refusal x server free d =
    not_held if not (is_held x)
    else wrong_destination if eqb d server
    else numbers_out if leb last32 x.move_number
    else log_full if ltb free give_size
    else passed

unfoldable pub on_give : State → ℕ → ℕ → ℕ → Decided
on_give st free p d =
    unless_refused (malformed if places_bad p d else give_refusal (point_at st p) st.server free d)
    (append (gave (record { point = p; destination = d; move_number = suc (point_at st p).move_number })))

-- ---- Image, of a point: 1 no point; 3 it is not given, or no longer; 7 its give is not synced

unfoldable pub is_on_point : ℕ → Completion → Bool
is_on_point p r = eqb r.command.point p

unfoldable pub entry_of_record : Completion → ImageEntry
entry_of_record r =
    let c = r.command in
    record { client = c.client; call = c.call; op = c.op; argument = c.argument; result = r.result }

-- by client, then call
unfoldable pub insert_entry : ImageEntry → List ImageEntry → List ImageEntry
insert_entry e [] = e ∷ []
insert_entry e (f ∷ fs) = pick (id_before e.client e.call f.client f.call) (e ∷ (f ∷ fs)) (f ∷ insert_entry e fs)

unfoldable pub sort_entries : List ImageEntry → List ImageEntry
sort_entries [] = []
sort_entries (e ∷ es) = insert_entry e (sort_entries es)

-- all clients of the giver; completion records of the point
unfoldable pub image_for : Versions → State → ℕ → Image
image_for v st p =
    let x = point_at st p in
    record {
      point = p;
      destination = x.destination;
      source = st.server;
      move_number = x.move_number;
      heard = st.heard;
      value = x.value;
      quality = x.quality;
      floors = st.floors;
      entries = sort_entries (map entry_of_record (keep (is_on_point p) st.records));
      timed = timed_by v st;
    }

unfoldable pub image_refusal : Point → ℕ → ℕ
image_refusal x mark =
    not_held if not (is_given x)
    else not_synced if not (is_synced mark x.give_end)
    else passed

unfoldable pub on_image : Versions → State → ℕ → Decided
on_image v st p =
    unless_refused (malformed if ltb last_point p else image_refusal (point_at st p) st.mark) (reply (image_bytes (image_for v st p)))

-- ---- Take: 1 malformed, or a value out of range; 11 for another server; 12 no later move; 13 held here, or an id that is here for another
-- point; 8 too many clients once the floors are merged; 9 no space

-- an id is not held for another point than p
unfoldable pub free_for : ℕ → List Completion → ImageEntry → Bool
free_for p rs e = every (λ r. not (is_id e.client e.call r) || eqb r.command.point p) rs

-- an image for `destination` with the move `number`; `ranged`: its values are in the point's range; `ids`: none is held for another
-- point; `merged`: clients after merging; `need`: bytes of the record
unfoldable pub take_refusal : Point → ℕ → ℕ → ℕ → Bool → Bool → ℕ → ℕ → ℕ → ℕ
take_refusal x server destination number ranged ids merged free need =
    malformed if not ranged
    else wrong_destination if not (eqb destination server)
    else old_move if leb number x.move_number
    else already_held if (is_held x || not ids)
    else clients_full if ltb client_count merged
    else log_full if ltb free need
    else passed

-- on a state
unfoldable pub take_tests : State → ℕ → Image → ℕ
take_tests st free i =
    take_refusal (point_at st i.point) st.server i.destination i.move_number (image_in_range (entry_at st.plan i.point) i)
    (every (free_for i.point st.records) i.entries) (length (merge_floors i.floors st.floors)) free (take_head + image_length i)

unfoldable pub decide_take : State → ℕ → Image → Decided
decide_take st free i = unless_refused (take_tests st free i) (append (took i))

unfoldable pub on_take : State → ℕ → Maybe Image → Decided
on_take st free o = or_malformed o (decide_take st free)

-- ---- Receipt, of a point: 1 no point; 3 it was never taken; 7 its latest take is not synced; else that take's move

unfoldable pub receipt_refusal : Point → ℕ → ℕ
receipt_refusal x mark =
    not_held if eqb x.taken_move 0
    else not_synced if not (is_synced mark x.take_end)
    else passed

unfoldable pub on_receipt : State → ℕ → Decided
on_receipt st p =
    unless_refused (malformed if ltb last_point p else receipt_refusal (point_at st p) st.mark)
    (reply (receipt_bytes (record { point = p; server = st.server; move_number = (point_at st p).taken_move })))

-- ---- Release: 1 no receipt; 3 the point is not given, or no longer; 12 a receipt of an earlier move; 9 no space

unfoldable pub release_refusal : Point → ℕ → ℕ → ℕ
release_refusal x free m =
    not_held if not (is_given x)
    else old_move if ltb m x.move_number
    else log_full if ltb free release_size
    else passed

unfoldable pub decide_release : State → ℕ → ℕ → ℕ → Decided
decide_release st free p m =
    unless_refused (release_refusal (point_at st p) free m) (append (released (record { point = p; move_number = (point_at st p).move_number })))

unfoldable pub on_release : State → ℕ → Option Packet → Decided
on_release st free p = or_malformed (as_receipt p) (λ r. decide_release st free r.point r.move_number)

-- ---- Recover: a record follows a state where its operation's tests are passed there, with the lease passed and the free space set to
-- the record's size

unfoldable pub is_none : Maybe Completion → Bool
is_none none = true
is_none (some r) = false

-- an executed record's value is tested against the range, not worked out again, so that the rules' versions are no matter; a move must be
-- the one written there
unfoldable pub follows : State → LogRecord → Bool
follows st (executed x) =
    let c = x.command in
    is_passed (request_refusal (point_at st c.point) false (floor_of c.client st.floors) c.call)
    && (is_none (find c.client c.call st.records)
    && (is_passed (new_refusal (floor_of c.client st.floors) (length st.floors) (executed_size_of x.timed) (executed_size_of x.timed))
    && in_range (entry_at st.plan c.point) x.result.value))
follows st (gone n) = is_passed (notice_refusal (floor_of n.client st.floors) gone_size)
follows st (gave g) =
    not (places_bad g.point g.destination)
    && (is_passed (give_refusal (point_at st g.point) st.server give_size g.destination)
    && eqb g.move_number (suc (point_at st g.point).move_number))
follows st (took i) = is_passed (take_tests st (take_head + image_length i) i)
follows st (released r) =
    is_passed (release_refusal (point_at st r.point) release_size r.move_number)
    && eqb r.move_number (point_at st r.point).move_number
