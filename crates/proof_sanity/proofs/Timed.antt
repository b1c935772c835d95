-- The clause `times` speaks of something: the schedule of Timed keeps all provisos. An execution by a program from before times of execution notes 0, one by
-- today's notes 20; the results of both are told after a move, by a server that has heard of time 40 by then, with 0 and 20, the second twice.
--     times_met
-- Assumes nothing.
use Prim.Native.Nat.{ℕ, suc}
use mathlib.Core.Path.{◌≡◌, refl, sym, ap, ◌∙◌}
use mathlib.Core.Bool.{true}
use mathlib.Core.List.{[], ◌∷◌}
use mathlib.Core.Option.{some}
use lib.ListN.{drop, get_elem?}
use Rattle.std.specs.Prelude.{Ok, Some}
use Rattle.model.specs.declared.Client.{Client}
use Rattle.model.specs.declared.Packet.TheVariants.{Requested, Resulted}
use Rattle.model.specs.declared.Received.TheVariants.{Completed}
use Rattle.model.specs.declared.Request.{Request}
use Rattle.model.specs.declared.ResultPacket.{ResultPacket}
use Rattle.model.specs.Choice.{pick}
use Rattle.model.specs.Versions.{Versions, today}
use Rattle.model.specs.Sequential.{Marked, marked_by, one, result_meant}
use Rattle.model.specs.Tables.{every}
use Rattle.model.specs.Packets.{request_bytes, result_bytes, parse_packet}
use Rattle.model.specs.States.{load}
use Rattle.model.specs.Decisions.{time_for}
use Rattle.model.specs.Calls.{request, sync}
use Rattle.model.specs.Clients.{place_of, call_at, receive_of}
use Rattle.model.specs.Simulator.{simulator_plan}
use Rattle.model_laws.specs.Opened.{open_numbers, open_rules, open_packets, open_clients}
use Rattle.claim.specs.World.{Event, call, outside, receive, Lent, nothing_stored, run, after}
use Rattle.claim.specs.Provisos.{reach_of, At, Provisos}
use Rattle.claim.specs.Claim.{command_at, SurvivesAt, Completes, Notes, Tells}
use Rattle.claim.proofs.Clients.{at_once}
use Rattle.claim.proofs.Packets.{packet-stays}
use Rattle.proof_sanity.specs.Trace.{Call, Seen, call_seen, Ended, end_seen, stands_at, up, keeps_many, call_with, done}
use Rattle.proof_sanity.specs.Moved.{before, step_command, step_result, step_asked, step_answer, lent_all, asks_of, asks, idle, called, at_client}
use Rattle.proof_sanity.specs.Timed.{second_asked, both_open, one_open, timed, timed_rows, timed_held, timed_seen, heard_by}
use Rattle.proof_sanity.proofs.Traced.{call-at, end-at, up_of, provisos_kept, survives-seen, completes_seen}
use Rattle.proof_sanity.proofs.Computed.{timed_trace_is, heard-then}

-- ---- events

row : (n : ℕ) (x : Event) (r : Seen) → get_elem? timed n ≡ some x → get_elem? timed_rows n ≡ some r → call_seen (after timed n) x ≡ r.call
unfolding timed_seen
row n x r q k = call-at simulator_plan 5 timed timed_seen timed_trace_is n x r q k

provisos : Provisos simulator_plan timed
unfolding timed_seen timed_rows every
provisos = provisos_kept simulator_plan 5 timed timed_seen timed_trace_is refl

-- ---- the packets, by themselves

abbrev Parses : Request → Type 0
Parses q = parse_packet (request_bytes q) ≡ Some (Requested q)

parsed : Parses (step_asked 1) × Parses second_asked
unfolding open_numbers open_rules open_packets
parsed = (refl, refl)

told-parsed : (parse_packet (result_bytes (step_answer 1)) ≡ Some (Resulted (step_answer 1))) × (parse_packet (result_bytes (step_answer 2)) ≡ Some (Resulted (step_answer 2)))
unfolding open_numbers open_packets
told-parsed = (refl, refl)

abbrev Gets : Client → ResultPacket → Type 0
Gets d r = (receive_of d (result_bytes r)).answer ≡ Ok (Completed r)

received : Gets both_open (step_answer 2) × Gets one_open (step_answer 1)
unfolding open_numbers open_packets open_clients
received = (refl, refl)

-- ---- executions

-- event n executes q at server 0 by v and survives: there is no crash
survives_by : (v : Versions) (n p size reach : ℕ) (q : Request) → At timed n (asks_of v 0 p) → Parses q
    → call_seen (after timed n) (asks_of v 0 p) ≡ (called size (request v (request_bytes q)) 0 0).call → reach_of ((after timed (suc n)).servers 0) ≡ reach
    → every (keeps_many 0 reach) (drop (suc n) timed_rows) ≡ true → SurvivesAt timed n (marked_by v q.command)
unfolding timed_seen
survives_by v n p size reach q a b s r h = survives-seen simulator_plan timed 5 timed_seen timed_trace_is n 0 p size reach v lent_all q a b s r h

first-survives : SurvivesAt timed 14 (marked_by before (step_command 1))
unfolding At timed timed_rows call_seen call_with done every keeps_many
first-survives =
    survives_by before 14 5 52 80 (step_asked 1) refl parsed.0 (row 14 (asks_of before 0 5) _ refl refl) (ap (λ (x : Call). x.size) (row 15 (asks 0 6) _ refl refl)) refl

second-survives : SurvivesAt timed 15 (marked_by today (step_command 2))
unfolding At timed timed_rows call_seen call_with done every keeps_many
second-survives =
    survives_by today 15 6 80 112 second_asked refl parsed.1 (row 15 (asks 0 6) _ refl refl) (ap (λ (x : Call). x.size) (row 16 (call 0 (sync 112) lent_all) _ refl refl)) refl

-- the time that it notes: what its server has heard of, 0 of a program that writes none
noted : (n c p : ℕ) (v : Versions) (l : Lent) (m : Marked) → At timed n (call c (request v p) l) → SurvivesAt timed n m → Notes timed n m (pick v.timed (heard_by ((after timed n).servers c)) 0)
unfolding heard_by time_for
noted n c p v l m a s =
    let x = s.executes in
    let e = at_once simulator_plan timed n _ _ x.event a in
    let i : s.server ≡ c = cc in
    let j : x.versions ≡ v = cc in
    let k : heard_by ((after timed n).servers c) ≡ (load x.state).heard = ap (λ (d : ℕ). heard_by ((after timed n).servers d)) (sym i) ∙ ap heard_by x.up in
    (s, ap (λ (w : Versions). pick w.timed (load x.state).heard 0) j ∙ ap (λ (h : ℕ). pick v.timed h 0) (sym k))

first-noted : Notes timed 14 (marked_by before (step_command 1)) 0
unfolding At timed
first-noted = noted 14 0 5 before lent_all _ refl first-survives

second-noted : Notes timed 15 (marked_by today (step_command 2)) 20
unfolding At timed
second-noted = let x = noted 15 0 6 today lent_all _ refl second-survives in (x.0, x.1 ∙ heard-then)

-- ---- results

-- packet p, which event n brings to a client, is the result r
told_at : (n p : ℕ) (d : Client) (r : ResultPacket) → parse_packet (result_bytes r) ≡ Some (Resulted r) → call_seen (after timed n) (outside (receive 2 p)) ≡ (at_client d (some (result_bytes r))).call
    → (t : Tells timed r) × (t.number ≡ p)
unfolding call_seen call_with done
told_at n p d r e s = (record { number = p; bytes = result_bytes r; made = packet-stays timed n p (result_bytes r) (ap (λ (x : Call). x.packet) s); parsed = e }, refl)

second-told : (t : Tells timed (step_answer 2)) × (t.number ≡ 12)
unfolding timed timed_rows
second-told = told_at 29 12 both_open (step_answer 2) told-parsed.1 (row 29 (outside (receive 2 12)) _ refl refl)

first-told : (t : Tells timed (step_answer 1)) × (t.number ≡ 11)
unfolding timed timed_rows
first-told = told_at 30 11 one_open (step_answer 1) told-parsed.0 (row 30 (outside (receive 2 11)) _ refl refl)

-- at server 0, before the move
second-told-before : (t : Tells timed (step_answer 2)) × (t.number ≡ 7)
unfolding timed timed_rows
second-told-before = told_at 31 7 (idle 2 1000 3) (step_answer 2) told-parsed.1 (row 31 (outside (receive 2 7)) _ refl refl)

second_completed : Completes timed 29 (step_command 2 ∷ []) (one (result_meant (step_result 2)))
unfolding At timed timed_rows command_at call_at place_of
second_completed = completes_seen simulator_plan timed 29 2 12 both_open (step_answer 2) refl received.0 (row 29 (outside (receive 2 12)) _ refl refl)

first_completed : Completes timed 30 (step_command 1 ∷ []) (one (result_meant (step_result 1)))
unfolding At timed timed_rows command_at call_at place_of
first_completed = completes_seen simulator_plan timed 30 2 11 one_open (step_answer 1) refl received.1 (row 30 (outside (receive 2 11)) _ refl refl)

-- the teller has heard of a later time
teller_heard : heard_by ((run timed).servers 1) ≡ 40
unfolding end_seen timed_seen heard_by
teller_heard =
    let e : stands_at 5 ((run timed).servers 1) ≡ up nothing_stored timed_held 40 = ap (λ (x : Ended). x.second) (end-at simulator_plan 5 timed timed_seen timed_trace_is) in
    let s = up_of 5 ((run timed).servers 1) nothing_stored timed_held 40 e in
    ap heard_by s.2 ∙ s.4

-- events 14 and 15 execute the two steps and note 0 and 20; packets 11 and 12 tell both results at server 1, packet 7 the second at server 0; events 29 and
-- 30 complete them
pub times_met : Provisos simulator_plan timed
    × Notes timed 14 (marked_by before (step_command 1)) 0
    × Notes timed 15 (marked_by today (step_command 2)) 20
    × ((t : Tells timed (step_answer 1)) × (t.number ≡ 11))
    × ((t : Tells timed (step_answer 2)) × (t.number ≡ 7))
    × ((t : Tells timed (step_answer 2)) × (t.number ≡ 12))
    × ((step_answer 1).result.time ≡ 0)
    × ((step_answer 2).result.time ≡ 20)
    × Completes timed 29 (step_command 2 ∷ []) (one (result_meant (step_result 2)))
    × Completes timed 30 (step_command 1 ∷ []) (one (result_meant (step_result 1)))
    × (heard_by ((run timed).servers 1) ≡ 40)
times_met = (provisos, first-noted, second-noted, first-told, second-told-before, second-told, refl, refl, second_completed, first_completed, teller_heard)
