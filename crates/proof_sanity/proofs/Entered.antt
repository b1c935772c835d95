-- The schedule of Entered keeps all provisos. A set and a part of the version before give quality 0, today's give 2, which a step keeps; every order that
-- explains the schedule has the four with the marks of the programs that executed them.
--     hands_met, hands_marked
-- Assumes nothing.
use Prim.Native.Nat.{ℕ, suc}
use mathlib.Core.Path.{◌≡◌, refl, ap}
use mathlib.Core.Bool.{true}
use mathlib.Core.List.{List, [], ◌∷◌}
use mathlib.Core.Option.{some}
use lib.ListN.{drop, get_elem?}
use Rattle.std.specs.Prelude.{Ok, Some}
use Rattle.model.specs.declared.Command.{Command}
use Rattle.model.specs.declared.Packet.TheVariants.{Requested}
use Rattle.model.specs.declared.Received.TheVariants.{Completed}
use Rattle.model.specs.declared.ResultPacket.{ResultPacket}
use Rattle.model.specs.Limits.{valid, by_hand}
use Rattle.model.specs.Versions.{Versions, first, second, third, today}
use Rattle.model.specs.Sequential.{OrderEntry, single, Marked, marked_by, one, result_meant}
use Rattle.model.specs.Tables.{every}
use Rattle.model.specs.Packets.{request_bytes, result_bytes, parse_packet}
use Rattle.model.specs.Calls.{request, sync}
use Rattle.model.specs.Clients.{place_of, call_at, receive_of}
use Rattle.model.specs.Simulator.{simulator_plan}
use Rattle.model_laws.specs.Opened.{open_numbers, open_rules, open_packets, open_clients}
use Rattle.claim.specs.World.{Event, call, outside, receive, nothing_stored, run, after}
use Rattle.claim.specs.Provisos.{reach_of, At, Provisos}
use Rattle.claim.specs.Claim.{command_at, SurvivesAt, Completes, ◌∈◌, Explains}
use Rattle.proof_sanity.specs.Trace.{Call, Seen, call_seen, Ended, end_seen, stands_at, up, keeps_many, call_with, done}
use Rattle.proof_sanity.specs.Moved.{lent_all, asks_of, asks, called}
use Rattle.proof_sanity.specs.Entered.{previous, first_set, second_set, hand_step, first_part, second_part, entry_asked, first_set_answer, second_set_answer, hand_step_answer, first_part_answer, second_part_answer, entering, receiving, entering_rows, entered_point, entering_seen}
use Rattle.proof_sanity.proofs.Traced.{call-at, end-at, provisos_kept, survives-seen, completes_seen}
use Rattle.proof_sanity.proofs.Computed.{entering_trace_is}
use Rattle.proof_sanity.proofs.NotVacuous.{mark-kept}

row : (n : ℕ) (x : Event) (r : Seen) → get_elem? entering n ≡ some x → get_elem? entering_rows n ≡ some r → call_seen (after entering n) x ≡ r.call
unfolding entering_seen
row n x r q k = call-at simulator_plan 5 entering entering_seen entering_trace_is n x r q k

provisos : Provisos simulator_plan entering
unfolding entering_seen entering_rows every
provisos = provisos_kept simulator_plan 5 entering entering_seen entering_trace_is refl

-- ---- executions

abbrev Parses : Command → Type 0
Parses k = parse_packet (request_bytes (entry_asked k)) ≡ Some (Requested (entry_asked k))

parsed : Parses first_set × Parses second_set × Parses hand_step × Parses first_part × Parses second_part
unfolding open_numbers open_rules open_packets
parsed = (refl, refl, refl, refl, refl)

-- event n executes k by v, and survives: there is no crash
survives_by : (v : Versions) (n p size : ℕ) (k : Command) → At entering n (asks_of v 0 p) → Parses k
    → call_seen (after entering n) (asks_of v 0 p) ≡ (called size (request v (request_bytes (entry_asked k))) 0 0).call → {reach : ℕ} → reach_of ((after entering (suc n)).servers 0) ≡ reach
    → every (keeps_many 0 reach) (drop (suc n) entering_rows) ≡ true → SurvivesAt entering n (marked_by v k)
unfolding entering_seen
survives_by v n p size k a b s {reach} r h = survives-seen simulator_plan entering 5 entering_seen entering_trace_is n 0 p size reach v lent_all (entry_asked k) a b s r h

set_before : SurvivesAt entering 8 (marked_by previous first_set)
unfolding At entering entering_rows call_seen call_with done every keeps_many
set_before =
    survives_by previous 8 1 8 first_set refl parsed.0 (row 8 (asks_of previous 0 1) _ refl refl) (ap (λ (x : Call). x.size) (row 9 (asks 0 2) _ refl refl)) refl

set-today : SurvivesAt entering 9 (marked_by today second_set)
unfolding At entering entering_rows call_seen call_with done every keeps_many
set-today = survives_by today 9 2 40 second_set refl parsed.1 (row 9 (asks 0 2) _ refl refl) (ap (λ (x : Call). x.size) (row 10 (asks 0 3) _ refl refl)) refl

step-today : SurvivesAt entering 10 (marked_by today hand_step)
unfolding At entering entering_rows call_seen call_with done every keeps_many
step-today = survives_by today 10 3 72 hand_step refl parsed.2 (row 10 (asks 0 3) _ refl refl) (ap (λ (x : Call). x.size) (row 11 (asks_of previous 0 4) _ refl refl)) refl

part-before : SurvivesAt entering 11 (marked_by previous first_part)
unfolding At entering entering_rows call_seen call_with done every keeps_many
part-before =
    survives_by previous 11 4 104 first_part refl parsed.3 (row 11 (asks_of previous 0 4) _ refl refl) (ap (λ (x : Call). x.size) (row 12 (asks 0 5) _ refl refl)) refl

part-today : SurvivesAt entering 12 (marked_by today second_part)
unfolding At entering entering_rows call_seen call_with done every keeps_many
part-today =
    survives_by today 12 5 136 second_part refl parsed.4 (row 12 (asks 0 5) _ refl refl) (ap (λ (x : Call). x.size) (row 13 (call 0 (sync 168) lent_all) _ refl refl)) refl

-- ---- results

abbrev Gets : ℕ → ResultPacket → Type 0
Gets n r = (receive_of (receiving n) (result_bytes r)).answer ≡ Ok (Completed r)

received : Gets 0 first_set_answer × Gets 1 second_set_answer × Gets 2 hand_step_answer × Gets 3 first_part_answer × Gets 4 second_part_answer
unfolding open_numbers open_packets open_clients
received = (refl, refl, refl, refl, refl)

-- the result of k is received by event n
abbrev Completed-by : ℕ → Command → ResultPacket → Type 0
Completed-by n k r = Completes entering n (k ∷ []) (one (result_meant r.result))

first-set : Completed-by 19 first_set first_set_answer
unfolding At entering entering_rows command_at call_at place_of
first-set = completes_seen simulator_plan entering 19 1 6 (receiving 0) first_set_answer refl received.0 (row 19 (outside (receive 1 6)) _ refl refl)

second-set : Completed-by 20 second_set second_set_answer
unfolding At entering entering_rows command_at call_at place_of
second-set = completes_seen simulator_plan entering 20 1 7 (receiving 1) second_set_answer refl received.1 (row 20 (outside (receive 1 7)) _ refl refl)

hand_step_lem : Completed-by 21 hand_step hand_step_answer
unfolding At entering entering_rows command_at call_at place_of
hand_step_lem = completes_seen simulator_plan entering 21 1 8 (receiving 2) hand_step_answer refl received.2 (row 21 (outside (receive 1 8)) _ refl refl)

first_part_lem : Completed-by 22 first_part first_part_answer
unfolding At entering entering_rows command_at call_at place_of
first_part_lem = completes_seen simulator_plan entering 22 1 9 (receiving 3) first_part_answer refl received.3 (row 22 (outside (receive 1 9)) _ refl refl)

second-part : Completed-by 23 second_part second_part_answer
unfolding At entering entering_rows command_at call_at place_of
second-part = completes_seen simulator_plan entering 23 1 10 (receiving 4) second_part_answer refl received.4 (row 23 (outside (receive 1 10)) _ refl refl)

holder : stands_at 5 ((run entering).servers 0) ≡ up nothing_stored entered_point 0
unfolding end_seen entering_seen
holder = ap (λ (x : Ended). x.first) (end-at simulator_plan 5 entering entering_seen entering_trace_is)

-- events 8 to 12 execute a set, a set, a step, a part, a part, the first and the fourth by the version before; events 19 to 23 complete them, with their qualities;
-- the point ends by hand
pub hands_met : Provisos simulator_plan entering
    × SurvivesAt entering 8 (marked_by previous first_set)
    × SurvivesAt entering 9 (marked_by today second_set)
    × SurvivesAt entering 10 (marked_by today hand_step)
    × SurvivesAt entering 11 (marked_by previous first_part)
    × SurvivesAt entering 12 (marked_by today second_part)
    × Completed-by 19 first_set first_set_answer
    × Completed-by 20 second_set second_set_answer
    × Completed-by 21 hand_step hand_step_answer
    × Completed-by 22 first_part first_part_answer
    × Completed-by 23 second_part second_part_answer
    × (first_set_answer.result.quality ≡ valid)
    × (second_set_answer.result.quality ≡ by_hand)
    × (hand_step_answer.result.quality ≡ by_hand)
    × (first_part_answer.result.quality ≡ valid)
    × (second_part_answer.result.quality ≡ by_hand)
    × (stands_at 5 ((run entering).servers 0) ≡ up nothing_stored entered_point 0)
hands_met = (provisos, set_before, set-today, step-today, part-before, part-today, first-set, second-set, hand_step_lem, first_part_lem, second-part, refl, refl, refl, refl, refl, holder)

-- with other marks no order explains it
pub hands_marked : (order : List OrderEntry) → Explains simulator_plan entering order → (m : Marked) → single m ∈ order
    → (m.command ≡ first_set → m.version ≡ first)
    × (m.command ≡ second_set → m.version ≡ second)
    × (m.command ≡ first_part → m.version ≡ second)
    × (m.command ≡ second_part → m.version ≡ third)
hands_marked order E m i =
    let kept = mark-kept entering order E m i in
    (kept 8 _ set_before, kept 9 _ set-today, kept 11 _ part-before, kept 12 _ part-today)
