-- A schedule with values entered by hand, in a server that is renewed and put back. Client 1 sets point 5 twice: a program of the version before executes
-- the first, today's the second, and a step. Then a part by each: the one of before is valid, today's by hand. All results are told, and received.
-- Assumes nothing.
use Rattle.std.specs.Prelude.{ℕ, suc, ◌+◌, ◌-◌, true, List, [], ◌∷◌, ◌++◌, replicate, take, drop, eqb}
use Rattle.std.proofs.Math.Option.{none, some}
use Rattle.model.specs.declared.Client.{Client}
use Rattle.model.specs.declared.OpenCall.{OpenCall}
use Rattle.model.specs.declared.Command.{Command}
use Rattle.model.specs.declared.Request.{Request}
use Rattle.model.specs.declared.ResultPacket.{ResultPacket}
use Rattle.model.specs.declared.Point.{Point}
use Rattle.model.specs.Choice.{pick}
use Rattle.model.specs.Versions.{Versions, first, second}
use Rattle.model.specs.Numbers.{half}
use Rattle.model.specs.Limits.{result_size, set_op, step_op, part_op, carried_out, valid, by_hand}
use Rattle.model.specs.Packets.{request_bytes, result_bytes, grant_bytes}
use Rattle.model.specs.States.{held}
use Rattle.model.specs.Calls.{request, sync}
use Rattle.model.specs.Clients.{no_call}
use Rattle.model.specs.Simulator.{simulator_plan}
use Rattle.claim.specs.World.{Event, found, call, outside, start, issue, receive, open·lease, nothing_stored}
use Rattle.proof_sanity.specs.Trace.{Seen, up, off, Trace}
use Rattle.proof_sanity.specs.Moved.{new_state, lent_all, asks_of, asks, open_call, at_server, called, answering, on_packet, at_client, at_manager}

-- a program of the version before this one: of set the first version, of step and part the second
abbrev pub previous : Versions
previous = record { rule = λ op. pick (eqb op set_op) first second; timed = true }

-- ---- the commands: call, op, argument

abbrev pub entry : ℕ → ℕ → ℕ → Command
entry c op a = record { client = 1; call = c; op = op; point = 5; argument = half + a }

abbrev pub first_set : Command
first_set = entry 1 set_op 40

abbrev pub second_set : Command
second_set = entry 2 set_op 50

abbrev pub hand_step : Command
hand_step = entry 3 step_op 1

abbrev pub first_part : Command
first_part = entry 4 part_op 500

abbrev pub second_part : Command
second_part = entry 5 part_op 501

-- none is received before all are issued
abbrev pub entry_asked : Command → Request
entry_asked k = record { command = k; done = 1; lease = 1000 }

abbrev pub entry_answer : Command → ℕ → ℕ → ResultPacket
entry_answer k v q = record { client = 1; call = k.call; point = 5; result = record { outcome = carried_out; value = half + v; quality = q; time = 0 }; timed = true }

abbrev pub first_set_answer : ResultPacket
first_set_answer = entry_answer first_set 40 valid

abbrev pub second_set_answer : ResultPacket
second_set_answer = entry_answer second_set 50 by_hand

abbrev pub hand_step_answer : ResultPacket
hand_step_answer = entry_answer hand_step 51 by_hand

abbrev pub first_part_answer : ResultPacket
first_part_answer = entry_answer first_part 450 valid

abbrev pub second_part_answer : ResultPacket
second_part_answer = entry_answer second_part 451 by_hand

-- ---- the schedule

unfoldable pub entering : List Event
entering =
    found 0 new_state (replicate 8 0) simulator_plan 0
    ∷ outside (open·lease 0 1000)
    ∷ outside (start 0)
    ∷ outside (issue 1 set_op 5 (half + 40))
    ∷ outside (issue 1 set_op 5 (half + 50))
    ∷ outside (issue 1 step_op 5 (half + 1))
    ∷ outside (issue 1 part_op 5 (half + 500))
    ∷ outside (issue 1 part_op 5 (half + 501))
    ∷ asks_of previous 0 1
    ∷ asks 0 2
    ∷ asks 0 3
    ∷ asks_of previous 0 4
    ∷ asks 0 5
    ∷ call 0 (sync 168) lent_all
    ∷ asks 0 1
    ∷ asks 0 2
    ∷ asks 0 3
    ∷ asks 0 4
    ∷ asks 0 5
    ∷ outside (receive 1 6)
    ∷ outside (receive 1 7)
    ∷ outside (receive 1 8)
    ∷ outside (receive 1 9)
    ∷ outside (receive 1 10)
    ∷ []

-- ---- what is seen of it

abbrev pub opened : List OpenCall
opened = open_call first_set ∷ open_call second_set ∷ open_call hand_step ∷ open_call first_part ∷ open_call second_part ∷ []

-- client 1 after n calls were issued, and after n of all were received
abbrev pub issuing : ℕ → Client
issuing n = record { client = 1; lease = 1000; next = suc n; calls = no_call ∷ (take n opened ++ replicate (15 - n) no_call) }

abbrev pub receiving : ℕ → Client
receiving n = record { client = 1; lease = 1000; next = 6; calls = replicate (suc n) no_call ++ (drop n opened ++ replicate 10 no_call) }

unfoldable pub entering_rows : List Seen
entering_rows =
    at_server 0
    ∷ at_manager
    ∷ on_packet (grant_bytes (record { client = 1; lease = 1000 }))
    ∷ at_client (issuing 0) none
    ∷ at_client (issuing 1) none
    ∷ at_client (issuing 2) none
    ∷ at_client (issuing 3) none
    ∷ at_client (issuing 4) none
    ∷ called 8 (request previous (request_bytes (entry_asked first_set))) 0 0
    ∷ answering 40 (request_bytes (entry_asked second_set)) 0 0
    ∷ answering 72 (request_bytes (entry_asked hand_step)) 0 0
    ∷ called 104 (request previous (request_bytes (entry_asked first_part))) 0 0
    ∷ answering 136 (request_bytes (entry_asked second_part)) 0 0
    ∷ called 168 (sync 168) 0 0
    ∷ answering 168 (request_bytes (entry_asked first_set)) 0 result_size
    ∷ answering 168 (request_bytes (entry_asked second_set)) 0 result_size
    ∷ answering 168 (request_bytes (entry_asked hand_step)) 0 result_size
    ∷ answering 168 (request_bytes (entry_asked first_part)) 0 result_size
    ∷ answering 168 (request_bytes (entry_asked second_part)) 0 result_size
    ∷ at_client (receiving 0) (some (result_bytes first_set_answer))
    ∷ at_client (receiving 1) (some (result_bytes second_set_answer))
    ∷ at_client (receiving 2) (some (result_bytes hand_step_answer))
    ∷ at_client (receiving 3) (some (result_bytes first_part_answer))
    ∷ at_client (receiving 4) (some (result_bytes second_part_answer))
    ∷ []

-- server 0 holds the point, by hand
abbrev pub entered_point : Point
entered_point = record { status = held; quality = by_hand; destination = 0; value = half + 451; move_number = 0; taken_move = 0; give_end = 0; take_end = 0 }

unfoldable pub entering_seen : Trace
entering_seen = record { rows = entering_rows; end = record { first = up nothing_stored entered_point 0; second = off } }
