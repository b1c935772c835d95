-- A schedule over bytes with everything that demand 3 speaks of. Client 1 sets point 5 to 40 and receives the result; then client 2 issues a
-- step by 1. Its first execution is cut off by a crash inside its record, the second survives. The point moves to server 1, which crashes and
-- recovers from the take; there client 2 receives its result. The lease of client 1 ends, server 1 gets the notice, and refuses the late
-- repeat of client 1's request. Server 0 releases the point. Client 2 steps again. Server 1 makes a checkpoint, which is stored, crashes with
-- nothing of the tail but its head, recovers from both, and answers out of the checkpoint. A third step is executed on the tail; the next
-- checkpoint is lost by a crash before it is stored, and the server recovers from the first one and its tail; there client 2 gets its result. Then client 2
-- steps past the range's end twice: a program of the first version executes the one and changes nothing, and notes no time; today's executes the other and stops at the end.
-- Assumes nothing.
use Rattle.std.specs.Prelude.{ℕ, suc, ◌+◌, ◌-◌, true, false, List, [], ◌∷◌, ◌++◌, replicate, take, eqb}
use Rattle.std.proofs.Math.Option.{Option, none, some}
use Rattle.model.specs.declared.Client.{Client}
use Rattle.model.specs.declared.OpenCall.{OpenCall}
use Rattle.model.specs.declared.Command.{Command}
use Rattle.model.specs.declared.CommandResult.{CommandResult}
use Rattle.model.specs.declared.Executed.{Executed}
use Rattle.model.specs.declared.Request.{Request}
use Rattle.model.specs.declared.ResultPacket.{ResultPacket}
use Rattle.model.specs.declared.Point.{Point}
use Rattle.model.specs.Choice.{pick}
use Rattle.model.specs.Versions.{Versions, first, today}
use Rattle.model.specs.Numbers.{half}
use Rattle.model.specs.Limits.{state_size, head_size, checkpoint_size, greatest_image, result_size, receipt_size, refusal_size, notice_kind, set_op, step_op, carried_out, out_of_range, stopped, by_hand}
use Rattle.model.specs.Packets.{request_bytes, result_bytes, receipt_bytes, notice_bytes, grant_bytes}
use Rattle.model.specs.Images.{Image, image_bytes}
use Rattle.model.specs.Tables.{written}
use Rattle.model.specs.Logs.{executed, gone, took, head_bytes, executed_bytes, take_bytes}
use Rattle.model.specs.States.{State, held, released_status}
use Rattle.model.specs.Apply.{founded, replay_from}
use Rattle.model.specs.Checkpoints.{checkpoint_bytes}
use Rattle.model.specs.Plan.{plan_of}
use Rattle.model.specs.declared.Notice.{Notice}
use Rattle.model.specs.Operations.{answer_of}
use Rattle.model.specs.Calls.{Operation, request, sync, notice, give, image, take_in, receipt, release}
use Rattle.model.specs.Clients.{no_call}
use Rattle.model.specs.Simulator.{simulator_plan}
use Rattle.claim.specs.World.{start, issue, receive, open·lease, query}
use Rattle.claim.specs.World.{Event, found, call, recover, checkpoint, store, recover·tail, crash, outside, Lent, Stored, nothing_stored}
use Rattle.proof_sanity.specs.Trace.{Seen, up, Trace}

-- ---- the commands

abbrev pub setting : Command
setting = record { client = 1; call = 1; op = set_op; point = 5; argument = half + 40 }

-- call c of client 2, the steps
abbrev pub step_command : ℕ → Command
step_command c = record { client = 2; call = c; op = step_op; point = 5; argument = half + 1 }

abbrev pub stepping : Command
stepping = step_command 1

abbrev pub setting_result : CommandResult
setting_result = record { outcome = carried_out; value = half + 40; quality = by_hand; time = 0 }

-- the first is executed before the notice of time 20, the others after it
abbrev pub step_time : ℕ → ℕ
step_time c = pick (eqb c 1) 0 20

abbrev pub step_result : ℕ → CommandResult
step_result c = record { outcome = carried_out; value = half + (40 + c); quality = by_hand; time = step_time c }

abbrev pub stepping_result : CommandResult
stepping_result = step_result 1

-- its steps past the range's end: by the first version the value stays, and no time is noted; by today's it is the end
abbrev pub far_command : ℕ → Command
far_command c = record { client = 2; call = c; op = step_op; point = 5; argument = half + 1000 }

abbrev pub stayed_result : CommandResult
stayed_result = record { outcome = out_of_range; value = half + 43; quality = by_hand; time = 0 }

abbrev pub stopped_result : CommandResult
stopped_result = record { outcome = stopped; value = half + 1000; quality = by_hand; time = 20 }

-- a program from before the second versions, and before times of execution
abbrev pub before : Versions
before = record { rule = λ op. first; timed = false }

-- as requests, with the lease ends 10 and 1000, and their result packets
abbrev pub setting_asked : Request
setting_asked = record { command = setting; done = 1; lease = 10 }

abbrev pub step_asked : ℕ → Request
step_asked c = record { command = step_command c; done = c; lease = 1000 }

abbrev pub far_asked : ℕ → Request
far_asked c = record { command = far_command c; done = c; lease = 1000 }

abbrev pub setting_answer : ResultPacket
setting_answer = record { client = 1; call = 1; point = 5; result = setting_result; timed = true }

abbrev pub step_answer : ℕ → ResultPacket
step_answer c = record { client = 2; call = c; point = 5; result = step_result c; timed = true }

abbrev pub far_answer : ℕ → CommandResult → ResultPacket
far_answer c r = record { client = 2; call = c; point = 5; result = r; timed = true }

-- in the log
abbrev pub setting_done : Executed
setting_done = record { command = setting; done = 1; result = setting_result; timed = true }

abbrev pub step_done : ℕ → Executed
step_done c = record { command = step_command c; done = c; result = step_result c; timed = true }

-- the image of point 5 on its way to server 1
abbrev pub moved_image : Image
moved_image =
    record {
      point = 5;
      destination = 1;
      source = 0;
      move_number = 1;
      heard = 0;
      value = half + 41;
      quality = by_hand;
      floors = record { client = 1; floor = 1 } ∷ record { client = 2; floor = 1 } ∷ [];
      entries =
          record { client = 1; call = 1; op = set_op; argument = half + 40; result = setting_result }
          ∷ record { client = 2; call = 1; op = step_op; argument = half + 1; result = stepping_result }
          ∷ [];
      timed = true;
    }

-- the notice of client 1's end
abbrev pub setter_gone : Notice
setter_gone = record { client = 1; time = 20 }

-- ---- the schedule

abbrev pub new_state : List ℕ
new_state = replicate state_size 0

-- the whole state buffer, a log of up to 200 bytes, an output of 20; for the longest image
abbrev pub lent_all : Lent
lent_all = record { state = state_size; log = 200; spare = replicate 200 0; out = replicate result_size 0 }

abbrev pub lent_image : Lent
lent_image = record { state = state_size; log = 200; spare = replicate 200 0; out = replicate greatest_image 0 }

-- for a checkpoint
abbrev pub lent_checkpoint : Lent
lent_checkpoint = record { state = state_size; log = 200; spare = replicate 200 0; out = replicate checkpoint_size 0 }

-- what the crashes keep: 50 of server 0's 72 bytes, all 128 of server 1's; of its tail the head, then all 40 bytes
abbrev pub kept_first : List ℕ
kept_first = take 50 (head_bytes 0 ++ (executed_bytes setting_done ++ executed_bytes (step_done 1)))

abbrev pub kept_second : List ℕ
kept_second = head_bytes 1 ++ take_bytes moved_image

abbrev pub kept_tail : List ℕ
kept_tail = head_bytes 1 ++ executed_bytes (step_done 3)

-- the checkpoint that is stored: server 1 has taken the point, got the notice, and executed the second step
unfoldable pub taken_state : State
taken_state =
    replay_from (founded (plan_of simulator_plan) 1)
    (record { item = took moved_image; end = 128 } ∷ record { item = gone setter_gone; end = 140 } ∷ record { item = executed (step_done 2); end = 172 } ∷ [])

abbrev pub stored_bytes : List ℕ
stored_bytes = checkpoint_bytes true taken_state

-- it replaces the log's 164 bytes of records
abbrev pub first_stored : Stored
first_stored = record { checkpoint = stored_bytes; replaced = 164 }

-- the number of a request's packet among those made
abbrev pub asks_of : Versions → ℕ → ℕ → Event
asks_of v c p = call c (request v p) lent_all

abbrev pub asks : ℕ → ℕ → Event
asks c p = asks_of today c p

unfoldable pub schedule : List Event
schedule =
    found 0 new_state (replicate 8 0) simulator_plan 0
    ∷ found 1 new_state (replicate 8 0) simulator_plan 1
    ∷ outside (open·lease 0 10)
    ∷ outside (open·lease 0 1000)
    ∷ outside (start 0)
    ∷ outside (start 1)
    ∷ outside (issue 1 1 5 (half + 40))
    ∷ asks 0 2
    ∷ call 0 (sync 40) lent_all
    ∷ asks 0 2
    ∷ outside (receive 1 3)
    ∷ outside (issue 2 2 5 (half + 1))
    ∷ asks 0 4
    ∷ crash 0 50
    ∷ recover 0 new_state kept_first simulator_plan
    ∷ asks 0 4
    ∷ call 0 (give 5 1) lent_all
    ∷ call 0 (sync 80) lent_all
    ∷ call 0 (image today 5) lent_image
    ∷ call 1 (take_in 5) lent_all
    ∷ crash 1 128
    ∷ recover 1 new_state kept_second simulator_plan
    ∷ asks 1 4
    ∷ outside (receive 2 6)
    ∷ outside (query 1 20)
    ∷ call 1 (notice 7) lent_all
    ∷ asks 1 2
    ∷ call 1 (receipt 5) lent_all
    ∷ call 0 (release 9) lent_all
    ∷ outside (issue 2 2 5 (half + 1))
    ∷ asks 1 10
    ∷ call 1 (sync 172) lent_all
    ∷ checkpoint 1 today (replicate head_size 0) lent_checkpoint
    ∷ store 1
    ∷ crash 1 8
    ∷ recover·tail 1 new_state stored_bytes (head_bytes 1)
    ∷ asks 1 10
    ∷ outside (receive 2 11)
    ∷ outside (issue 2 2 5 (half + 1))
    ∷ asks 1 12
    ∷ call 1 (sync 40) lent_all
    ∷ checkpoint 1 today (replicate head_size 0) lent_checkpoint
    ∷ crash 1 40
    ∷ recover·tail 1 new_state (written (replicate checkpoint_size 0) 0 stored_bytes) kept_tail
    ∷ asks 1 12
    ∷ outside (receive 2 13)
    ∷ outside (issue 2 2 5 (half + 1000))
    ∷ asks_of before 1 14
    ∷ call 1 (sync 68) lent_all
    ∷ asks 1 14
    ∷ outside (receive 2 15)
    ∷ outside (issue 2 2 5 (half + 1000))
    ∷ asks 1 16
    ∷ call 1 (sync 100) lent_all
    ∷ asks 1 16
    ∷ outside (receive 2 17)
    ∷ []

-- ---- what is seen of it

-- a client with no call open, the next one's number last; and with the call of a command
abbrev pub idle : ℕ → ℕ → ℕ → Client
idle x lease next = record { client = x; lease = lease; next = next; calls = replicate 16 no_call }

abbrev pub open_call : Command → OpenCall
open_call k = record { call = k.call; op = k.op; point = k.point; argument = k.argument }

abbrev pub waiting : ℕ → Command → Client
waiting lease k =
    record {
      client = k.client;
      lease = lease;
      next = suc k.call;
      calls = replicate k.call no_call ++ (open_call k ∷ replicate (15 - k.call) no_call);
    }

abbrev pub setter : Client
setter = waiting 10 setting

abbrev pub stepper : ℕ → Client
stepper c = waiting 1000 (step_command c)

abbrev pub far_stepper : ℕ → Client
far_stepper c = waiting 1000 (far_command c)

abbrev pub at_server : ℕ → Seen
at_server size = record { ok = true; call = record { client = none; packet = none; operation = none; size = size; answer = none; cut = none } }

-- an operation with what it names, and its answer; a request of today's program
abbrev pub called : ℕ → Operation → ℕ → ℕ → Seen
called size o n wrote = record { ok = true; call = record { client = none; packet = none; operation = some o; size = size; answer = some (answer_of n wrote); cut = none } }

abbrev pub answering : ℕ → List ℕ → ℕ → ℕ → Seen
answering size b n wrote = called size (request today b) n wrote

abbrev pub crashing : ℕ → ℕ → ℕ → Seen
crashing size c reach =
    record { ok = true; call = record { client = none; packet = none; operation = none; size = size; answer = none; cut = some (record { server = c; reach = reach }) } }

abbrev pub on_packet : List ℕ → Seen
on_packet b = record { ok = true; call = record { client = none; packet = some b; operation = none; size = 0; answer = none; cut = none } }

abbrev pub at_client : Client → Option (List ℕ) → Seen
at_client d b = record { ok = true; call = record { client = some d; packet = b; operation = none; size = 0; answer = none; cut = none } }

abbrev pub at_manager : Seen
at_manager = record { ok = true; call = record { client = none; packet = none; operation = none; size = 0; answer = none; cut = none } }

unfoldable pub rows_seen : List Seen
rows_seen =
    at_server 0
    ∷ at_server 0
    ∷ at_manager
    ∷ at_manager
    ∷ on_packet (grant_bytes (record { client = 1; lease = 10 }))
    ∷ on_packet (grant_bytes (record { client = 2; lease = 1000 }))
    ∷ at_client (idle 1 10 1) none
    ∷ answering 8 (request_bytes setting_asked) 0 0
    ∷ called 40 (sync 40) 0 0
    ∷ answering 40 (request_bytes setting_asked) 0 result_size
    ∷ at_client setter (some (result_bytes setting_answer))
    ∷ at_client (idle 2 1000 1) none
    ∷ answering 40 (request_bytes (step_asked 1)) 0 0
    ∷ crashing 72 0 50
    ∷ at_server 50
    ∷ answering 40 (request_bytes (step_asked 1)) 0 0
    ∷ called 72 (give 5 1) 0 0
    ∷ called 80 (sync 80) 0 0
    ∷ called 80 (image today 5) 0 112
    ∷ called 8 (take_in (image_bytes moved_image)) 0 0
    ∷ crashing 128 1 128
    ∷ at_server 128
    ∷ answering 128 (request_bytes (step_asked 1)) 0 result_size
    ∷ at_client (stepper 1) (some (result_bytes (step_answer 1)))
    ∷ at_manager
    ∷ called 128 (notice (notice_bytes notice_kind setter_gone)) 0 0
    ∷ answering 140 (request_bytes setting_asked) 4 refusal_size
    ∷ called 140 (receipt 5) 0 receipt_size
    ∷ called 80 (release (receipt_bytes (record { point = 5; server = 1; move_number = 1 }))) 0 0
    ∷ at_client (idle 2 1000 2) none
    ∷ answering 140 (request_bytes (step_asked 2)) 0 0
    ∷ called 172 (sync 172) 0 0
    ∷ at_server 172
    ∷ at_server 172
    ∷ crashing 172 1 172
    ∷ at_server 172
    ∷ answering 172 (request_bytes (step_asked 2)) 0 result_size
    ∷ at_client (stepper 2) (some (result_bytes (step_answer 2)))
    ∷ at_client (idle 2 1000 3) none
    ∷ answering 172 (request_bytes (step_asked 3)) 0 0
    ∷ called 204 (sync 40) 0 0
    ∷ at_server 204
    ∷ crashing 204 1 204
    ∷ at_server 204
    ∷ answering 204 (request_bytes (step_asked 3)) 0 result_size
    ∷ at_client (stepper 3) (some (result_bytes (step_answer 3)))
    ∷ at_client (idle 2 1000 4) none
    ∷ called 204 (request before (request_bytes (far_asked 4))) 0 0
    ∷ called 232 (sync 68) 0 0
    ∷ answering 232 (request_bytes (far_asked 4)) 0 result_size
    ∷ at_client (far_stepper 4) (some (result_bytes (far_answer 4 stayed_result)))
    ∷ at_client (idle 2 1000 5) none
    ∷ answering 232 (request_bytes (far_asked 5)) 0 0
    ∷ called 264 (sync 100) 0 0
    ∷ answering 264 (request_bytes (far_asked 5)) 0 result_size
    ∷ at_client (far_stepper 5) (some (result_bytes (far_answer 5 stopped_result)))
    ∷ []

-- server 0 has released the point, server 1 holds it, taken before its checkpoint; both with move number 1
abbrev pub giver_point : Point
giver_point =
    record { status = released_status; quality = by_hand; destination = 1; value = half + 41; move_number = 1; taken_move = 0; give_end = 80; take_end = 0 }

abbrev pub taker_point : Point
taker_point = record { status = held; quality = by_hand; destination = 0; value = half + 1000; move_number = 1; taken_move = 1; give_end = 0; take_end = head_size }

unfoldable pub trace_seen : Trace
trace_seen =
    record {
      rows = rows_seen;
      end = record { first = up nothing_stored giver_point 0; second = up first_stored taker_point 20 };
    }
