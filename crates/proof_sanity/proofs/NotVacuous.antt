-- The claim speaks of something: the schedule of Moved, with a move, crashes and recoveries from logs and from a checkpoint with its tail, a lease
-- end and a late repeat, keeps all its provisos. Six commands survive and are completed, the first before the second is issued, one of them executed
-- before the checkpoint and one on its tail; and point 5 has a holder at move 1. Of two equal steps past the range's end a program of the first version
-- executed one and today's the other: their results differ, and no order explains the schedule in which one of them has another mark.
--     not_vacuous
--     marks-kept
-- Assumes nothing.
use Prim.Native.Nat.{ℕ, zero, suc, ◌+◌, ◌≤◌}
use mathlib.Core.Path.{◌≡◌, refl, sym, ap, ◌∙◌, subst}
use mathlib.Core.Bool.{true}
use mathlib.Core.Option.{Option, none, some}
use native.Mathlib.Omega.{arith}
use lib.Dec.{lit≤, lit<}
use lib.ListN.{drop, get_elem?}
use Rattle.std.specs.Prelude.{Ok, Some}
use Rattle.model.specs.declared.Client.{Client}
use Rattle.model.specs.declared.Command.{Command}
use Rattle.model.specs.declared.Point.{Point}
use Rattle.model.specs.declared.Request.{Request}
use Rattle.model.specs.declared.ResultPacket.{ResultPacket}
use Rattle.model.specs.declared.Packet.TheVariants.{Requested}
use Rattle.model.specs.declared.Received.TheVariants.{Completed}
use mathlib.Core.List.Memᴰ
use mathlib.Core.List.{List, [], ◌∷◌}
use Rattle.model.specs.Versions.{Versions, first, second, today}
use Rattle.model.specs.Sequential.{Marked, marked_by, OrderEntry, single, parts, one, result_meant}
use Rattle.model.specs.Numbers.{half}
use Rattle.model.specs.Limits.{refusal_size, step_op}
use Rattle.model.specs.Tables.{every}
use Rattle.model.specs.Packets.{request_bytes, result_bytes, parse_packet}
use Rattle.model.specs.States.{State, load, point_at}
use Rattle.model.specs.Operations.{answer_of}
use Rattle.model.specs.Calls.{request, sync, give, handed}
use Rattle.model.specs.Clients.{place_of, call_at, issue_of, receive_of}
use Rattle.model.specs.Simulator.{simulator_plan}
use Rattle.claim.specs.World.{Event, call, crash, outside, issue, receive, Stored, nothing_stored, nothing, stored_of, packet, run, after}
use Rattle.claim.specs.Provisos.{reach_of, At, Provisos}
use Rattle.claim.specs.Claim.{command_at, Executes, Crashes, SurvivesAt, Completes, Issues, state_given, final_state, Holder, ◌∈◌, Once, one_more, Explains}
use Rattle.proof_sanity.specs.Trace.{Cut, Call, Seen, operation_answer, call_seen, up, stands_at, Ended, end_seen, keeps_many, below, call_with, done}
use Rattle.model_laws.specs.Opened.{open_numbers, open_rules, open_packets, open_clients}
use Rattle.proof_sanity.specs.Moved.{setting, step_command, stepping, setting_result, step_result, stepping_result, setting_asked, step_asked, far_asked, setting_answer, step_answer, far_answer, far_command, stayed_result, stopped_result, before, lent_all, first_stored, asks_of, asks, schedule, idle, setter, stepper, far_stepper, called, answering, giver_point, taker_point, rows_seen, trace_seen}
use Rattle.proof_sanity.proofs.Traced.{call-at, end-at, provisos_kept, untouched, up_of, executes-seen, survives-seen, completes_seen, done-answer}
use Rattle.proof_sanity.proofs.Computed.{trace_is}

some_same : {A : Type 0} {a b : A} → some a ≡ some b → a ≡ b
some_same e = cc

-- ---- events

row : (n : ℕ) (x : Event) (r : Seen) → get_elem? schedule n ≡ some x → get_elem? rows_seen n ≡ some r → call_seen (after schedule n) x ≡ r.call
unfolding trace_seen
row n x r q k = call-at simulator_plan 5 schedule trace_seen trace_is n x r q k

provisos : Provisos simulator_plan schedule
unfolding trace_seen rows_seen every
provisos = provisos_kept simulator_plan 5 schedule trace_seen trace_is refl

-- the packets and the clients, by themselves
abbrev Parses : Request → Type 0
Parses q = parse_packet (request_bytes q) ≡ Some (Requested q)

parsed : Parses setting_asked × Parses (step_asked 1) × Parses (step_asked 2) × Parses (step_asked 3) × Parses (far_asked 4) × Parses (far_asked 5)
unfolding open_numbers open_rules open_packets
parsed = (refl, refl, refl, refl, refl, refl)

abbrev Gets : Client → ResultPacket → Type 0
Gets d r = (receive_of d (result_bytes r)).answer ≡ Ok (Completed r)

received : Gets setter setting_answer × Gets (stepper 1) (step_answer 1) × Gets (stepper 2) (step_answer 2) × Gets (stepper 3) (step_answer 3)
    × Gets (far_stepper 4) (far_answer 4 stayed_result) × Gets (far_stepper 5) (far_answer 5 stopped_result)
unfolding open_numbers open_packets open_clients
received = (refl, refl, refl, refl, refl, refl)

issued : (issue_of (idle 2 1000 1) 2 5 (half + 1)).answer ≡ Ok (step_asked 1)
unfolding open_rules open_packets open_clients
issued = refl

-- event n executes q at server c by v and survives: its log then reaches `reach`, and no later crash keeps less
survives_by : (v : Versions) (n c p size reach : ℕ) (q : Request) → At schedule n (asks_of v c p) → Parses q
    → call_seen (after schedule n) (asks_of v c p) ≡ (called size (request v (request_bytes q)) 0 0).call → reach_of ((after schedule (suc n)).servers c) ≡ reach
    → every (keeps_many c reach) (drop (suc n) rows_seen) ≡ true → SurvivesAt schedule n (marked_by v q.command)
unfolding trace_seen
survives_by v n c p size reach q a b s r h = survives-seen simulator_plan schedule 5 trace_seen trace_is n c p size reach v lent_all q a b s r h

survives : (n c p size reach : ℕ) (q : Request) → At schedule n (asks c p) → Parses q → call_seen (after schedule n) (asks c p) ≡ (answering size (request_bytes q) 0 0).call
    → reach_of ((after schedule (suc n)).servers c) ≡ reach → every (keeps_many c reach) (drop (suc n) rows_seen) ≡ true → SurvivesAt schedule n (marked_by today q.command)
survives = survives_by today

set-survives : SurvivesAt schedule 7 (marked_by today setting)
unfolding At schedule rows_seen call_seen call_with done every keeps_many
set-survives =
    survives 7 0 2 8 40 setting_asked refl parsed.0 (row 7 (asks 0 2) _ refl refl) (ap (λ (x : Call). x.size) (row 8 (call 0 (sync 40) lent_all) _ refl refl)) refl

step-survives : SurvivesAt schedule 15 (marked_by today stepping)
unfolding At schedule rows_seen call_seen call_with done every keeps_many
step-survives =
    survives 15 0 4 40 72 (step_asked 1) refl parsed.1 (row 15 (asks 0 4) _ refl refl) (ap (λ (x : Call). x.size) (row 16 (call 0 (give 5 1) lent_all) _ refl refl)) refl

-- the crash that follows keeps 8 bytes, and the checkpoint
before-survives : SurvivesAt schedule 30 (marked_by today (step_command 2))
unfolding At schedule rows_seen call_seen call_with done every keeps_many
before-survives =
    survives 30 1 10 140 172 (step_asked 2) refl parsed.2 (row 30 (asks 1 10) _ refl refl) (ap (λ (x : Call). x.size) (row 31 (call 1 (sync 172) lent_all) _ refl refl)) refl

tail-survives : SurvivesAt schedule 39 (marked_by today (step_command 3))
unfolding At schedule rows_seen call_seen call_with done every keeps_many
tail-survives =
    survives 39 1 12 172 204 (step_asked 3) refl parsed.3 (row 39 (asks 1 12) _ refl refl) (ap (λ (x : Call). x.size) (row 40 (call 1 (sync 40) lent_all) _ refl refl)) refl

stayed_survives : SurvivesAt schedule 47 (marked_by before (far_command 4))
unfolding At schedule rows_seen call_seen call_with done every keeps_many
stayed_survives =
    survives_by before 47 1 14 204 232 (far_asked 4) refl parsed.4 (row 47 (asks_of before 1 14) _ refl refl)
    (ap (λ (x : Call). x.size) (row 48 (call 1 (sync 68) lent_all) _ refl refl)) refl

stopped-survives : SurvivesAt schedule 52 (marked_by today (far_command 5))
unfolding At schedule rows_seen call_seen call_with done every keeps_many
stopped-survives =
    survives 52 1 16 232 264 (far_asked 5) refl parsed.5 (row 52 (asks 1 16) _ refl refl) (ap (λ (x : Call). x.size) (row 53 (call 1 (sync 100) lent_all) _ refl refl)) refl

-- event 13 keeps 50 bytes, counted from the founding
first-cut : Crashes schedule 13 0 50
unfolding At schedule rows_seen call_seen call_with done
first-cut =
    let own : Option Cut → ℕ = λ o. elim o [ none ↦ 0 | some x ↦ x.reach ] in
    record { kept = 50; event = refl; reaches = sym (ap (λ (x : Call). own x.cut) (row 13 (crash 0 50) _ refl refl)) }

-- its first execution is cut off by the crash
step_cut : Executes schedule 12 0 (marked_by today stepping) × (SurvivesAt schedule 12 (marked_by today stepping) → ⊥)
unfolding At schedule rows_seen call_seen call_with done
step_cut = (executes-seen simulator_plan schedule 12 0 4 40 today lent_all (step_asked 1) refl parsed.1 (row 12 (asks 0 4) _ refl refl), cut)
  where
    cut : SurvivesAt schedule 12 (marked_by today stepping) → ⊥
    cut s =
        let q : some (asks 0 4) ≡ some (call s.server (request s.executes.versions s.executes.number) s.executes.lent) = s.executes.event in
        let z : s.server ≡ 0 = cc in
        let cut-here : Crashes schedule 13 s.server 50 = rw z first-cut in
        let k : reach_of ((after schedule 13).servers 0) ≤ 50 = subst (λ (d : ℕ). reach_of ((after schedule 13).servers d) ≤ 50) z (s.kept 13 50 (lit< tt) cut-here) in
        let n : reach_of ((after schedule 13).servers 0) ≡ 72 = ap (λ (x : Call). x.size) (row 13 (crash 0 50) _ refl refl) in
        omega (arith, k, n)

-- server 1 refuses the late repeat of the first with 4
late_repeat : operation_answer lent_all ((after schedule 26).servers 1) (handed (packet (after schedule 26)) (request today 2)) ≡ some (answer_of 4 refusal_size)
unfolding schedule rows_seen call_seen call_with done
late_repeat =
    sym (done-answer 1 lent_all ((after schedule 26).servers 1) (handed (packet (after schedule 26)) (request today 2)) (after schedule 26))
    ∙ ap (λ (x : Call). x.answer) (row 26 (asks 1 2) _ refl refl)

set_completed : Completes schedule 10 (setting ∷ []) (one (result_meant setting_result))
unfolding At schedule rows_seen command_at call_at place_of
set_completed = completes_seen simulator_plan schedule 10 1 3 setter setting_answer refl received.0 (row 10 (outside (receive 1 3)) _ refl refl)

step_completed : Completes schedule 23 (stepping ∷ []) (one (result_meant stepping_result))
unfolding At schedule rows_seen command_at call_at place_of
step_completed = completes_seen simulator_plan schedule 23 2 6 (stepper 1) (step_answer 1) refl received.1 (row 23 (outside (receive 2 6)) _ refl refl)

before_completed : Completes schedule 37 (step_command 2 ∷ []) (one (result_meant (step_result 2)))
unfolding At schedule rows_seen command_at call_at place_of
before_completed = completes_seen simulator_plan schedule 37 2 11 (stepper 2) (step_answer 2) refl received.2 (row 37 (outside (receive 2 11)) _ refl refl)

tail_completed : Completes schedule 45 (step_command 3 ∷ []) (one (result_meant (step_result 3)))
unfolding At schedule rows_seen command_at call_at place_of
tail_completed = completes_seen simulator_plan schedule 45 2 13 (stepper 3) (step_answer 3) refl received.3 (row 45 (outside (receive 2 13)) _ refl refl)

stayed_completed : Completes schedule 50 (far_command 4 ∷ []) (one (result_meant stayed_result))
unfolding At schedule rows_seen command_at call_at place_of
stayed_completed =
    completes_seen simulator_plan schedule 50 2 15 (far_stepper 4) (far_answer 4 stayed_result) refl received.4 (row 50 (outside (receive 2 15)) _ refl refl)

stopped_completed : Completes schedule 55 (far_command 5 ∷ []) (one (result_meant stopped_result))
unfolding At schedule rows_seen command_at call_at place_of
stopped_completed =
    completes_seen simulator_plan schedule 55 2 17 (far_stepper 5) (far_answer 5 stopped_result) refl received.5 (row 55 (outside (receive 2 17)) _ refl refl)

step-issued : Issues schedule 11 (stepping ∷ [])
unfolding At schedule rows_seen call_seen call_with done
step-issued =
    record {
      client = 2;
      op = step_op;
      point = 5;
      argument = half + 1;
      event = refl;
      state = idle 2 1000 1;
      started = ap (λ (x : Call). x.client) (row 11 (outside (issue 2 2 5 (half + 1))) _ refl refl);
      asked = step_asked 1;
      answer = issued;
      its = refl;
    }

-- ---- the holder

giver : stands_at 5 ((run schedule).servers 0) ≡ up nothing_stored giver_point 0
unfolding end_seen trace_seen
giver = ap (λ (x : Ended). x.first) (end-at simulator_plan 5 schedule trace_seen trace_is)

taker : stands_at 5 ((run schedule).servers 1) ≡ up first_stored taker_point 20
unfolding end_seen trace_seen
taker = ap (λ (x : Ended). x.second) (end-at simulator_plan 5 schedule trace_seen trace_is)

-- the point of a server that counts
final-point : (c : ℕ) (k : Stored) (x : Point) (h : ℕ) → stands_at 5 ((run schedule).servers c) ≡ up k x h → (st : State) → final_state simulator_plan schedule c ≡ some st → point_at st 5 ≡ x
unfolding final_state state_given
final-point c k x h e st q =
    let s = up_of 5 ((run schedule).servers c) k x h e in
    let z : load s.0 ≡ st = some_same (sym (ap (state_given simulator_plan) s.2) ∙ q) in
    subst (λ (y : State). point_at y 5 ≡ x) z s.3

-- every other server is not founded
no_other : (d : ℕ) (st : State) → final_state simulator_plan schedule (suc (suc d)) ≡ some st → ⊥
unfolding final_state state_given schedule every below
no_other d st q =
    let n : (run schedule).servers (suc (suc d)) ≡ nothing = untouched (suc (suc d)) 2 (omega arith) schedule refl in
    let e : none ≡ some st = sym (ap (state_given simulator_plan) n) ∙ q in
    let z : ◌≡◌ {A = ℕ} 0 1 = cc in
    omega arith

-- both servers stand at move 1, and server 1 took the point there
move_of : (d : ℕ) (st : State) → final_state simulator_plan schedule d ≡ some st → ((point_at st 5).move_number ≡ 1) × ((point_at st 5).taken_move ≤ 1)
move_of zero st q = let z = final-point 0 nothing_stored giver_point 0 giver st q in (ap (λ (x : Point). x.move_number) z, rw z (lit≤ tt))
move_of (suc zero) st q = let z = final-point 1 first_stored taker_point 20 taker st q in (ap (λ (x : Point). x.move_number) z, rw z (lit≤ tt))
move_of (suc (suc d)) st q = absurd (no_other d st q)

holder : (st : State) × Holder simulator_plan schedule 5 1 st × (point_at st 5 ≡ taker_point) × (st.heard ≡ 20)
unfolding final_state state_given
holder =
    let s = up_of 5 ((run schedule).servers 1) first_stored taker_point 20 taker in
    let e : final_state simulator_plan schedule 1 ≡ some (load s.0) = ap (state_given simulator_plan) s.2 in (
      load s.0,
      record {
        founded = e;
        greatest = λ d other q. rw ((move_of d other q).0, s.3) (lit≤ tt);
        taker = λ d other q z. rw s.3 (move_of d other q).1;
        home = λ z. absurd (let k = ap (λ (x : Point). x.move_number) s.3 in omega (arith, k, z));
      },
      s.3,
      s.4,
    )

-- the checkpoint is in force at the end: that of event 41 was lost
in_force : stored_of ((run schedule).servers 1) ≡ first_stored
unfolding stored_of
in_force = ap stored_of (up_of 5 ((run schedule).servers 1) first_stored taker_point 20 taker).2

-- events 7 and 15 execute the two commands and survive, events 10 and 23 complete them, and event 11 issues the second; event 12 executes
-- it first, and is cut off; event 26 is the late repeat. Event 30 executes before the checkpoint that event 33 stores, event 39 on its tail; events 37 and 45
-- complete these. Events 47 and 52 step past the end by the first version and by today's, events 50 and 55 complete these
pub not_vacuous : Provisos simulator_plan schedule
    × SurvivesAt schedule 7 (marked_by today setting)
    × Completes schedule 10 (setting ∷ []) (one (result_meant setting_result))
    × Issues schedule 11 (stepping ∷ [])
    × SurvivesAt schedule 15 (marked_by today stepping)
    × Completes schedule 23 (stepping ∷ []) (one (result_meant stepping_result))
    × (Executes schedule 12 0 (marked_by today stepping) × (SurvivesAt schedule 12 (marked_by today stepping) → ⊥))
    × (operation_answer lent_all ((after schedule 26).servers 1) (handed (packet (after schedule 26)) (request today 2)) ≡ some (answer_of 4 refusal_size))
    × ((st : State) × Holder simulator_plan schedule 5 1 st × (point_at st 5 ≡ taker_point) × (st.heard ≡ 20))
    × SurvivesAt schedule 30 (marked_by today (step_command 2))
    × Completes schedule 37 (step_command 2 ∷ []) (one (result_meant (step_result 2)))
    × SurvivesAt schedule 39 (marked_by today (step_command 3))
    × Completes schedule 45 (step_command 3 ∷ []) (one (result_meant (step_result 3)))
    × (stored_of ((run schedule).servers 1) ≡ first_stored)
    × SurvivesAt schedule 47 (marked_by before (far_command 4))
    × Completes schedule 50 (far_command 4 ∷ []) (one (result_meant stayed_result))
    × SurvivesAt schedule 52 (marked_by today (far_command 5))
    × Completes schedule 55 (far_command 5 ∷ []) (one (result_meant stopped_result))
not_vacuous = (
  provisos,
  set-survives,
  set_completed,
  step-issued,
  step-survives,
  step_completed,
  step_cut,
  late_repeat,
  holder,
  before-survives,
  before_completed,
  tail-survives,
  tail_completed,
  in_force,
  stayed_survives,
  stayed_completed,
  stopped-survives,
  stopped_completed,
)

-- ---- marks

-- an id stands in one entry
apart : (a b : Marked) → a.command ≡ b.command → {o : OrderEntry} {os : List OrderEntry} → Once (o ∷ os) → single a ∈ os → single b ≡ o → ⊥
unfolding parts
apart a b e (one_more h k) i q =
    h (single a) a b i (Memᴰ.head refl) (subst (λ (x : OrderEntry). b ∈ parts x) q (Memᴰ.head refl)) (ap (λ (x : Command). x.client) e) (ap (λ (x : Command). x.call) e)

once-marked : (a b : Marked) → a.command ≡ b.command → {order : List OrderEntry} → Once order → single a ∈ order → single b ∈ order → a.version ≡ b.version
once-marked a b e h (Memᴰ.head p) (Memᴰ.head q) = let r : single a ≡ single b = p ∙ sym q in cc
once-marked a b e h (Memᴰ.head p) (Memᴰ.tail j) = absurd (apart b a (sym e) h j p)
once-marked a b e h (Memᴰ.tail i) (Memᴰ.head q) = absurd (apart a b e h i q)
once-marked a b e (one_more h k) (Memᴰ.tail i) (Memᴰ.tail j) = once-marked a b e k i j

-- in every order that explains a schedule, a command that survives has the mark of the program that executed it: with another mark it explains nothing
pub mark-kept : (es : List Event) (order : List OrderEntry) → Explains simulator_plan es order → (m : Marked) → single m ∈ order
    → (n : ℕ) (k : Marked) → SurvivesAt es n k → m.command ≡ k.command → m.version ≡ k.version
unfolding parts
mark-kept es order E m i n k s e = once-marked m k e E.once i ((E.survivors (single k)).0 (record { part = k; among = Memᴰ.head refl; at = n; survives = s }))

-- so have both steps past the end
pub marks-kept : (order : List OrderEntry) → Explains simulator_plan schedule order → (m : Marked) → single m ∈ order
    → (m.command ≡ far_command 4 → m.version ≡ first) × (m.command ≡ far_command 5 → m.version ≡ second)
marks-kept order E m i =
    let kept = mark-kept schedule order E m i in
    (kept 47 (marked_by before (far_command 4)) stayed_survives, kept 52 (marked_by today (far_command 5)) stopped-survives)
