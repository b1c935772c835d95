-- A schedule with times of execution. Client 1 sets point 5, its lease ends, and server 0 hears of time 20. Client 2 steps twice: a program from before
-- times of execution executes the first, today's the second, which notes 20. The second is told at server 0. The point moves to server 1, in an image that
-- a program from before makes: it has a time to write, and writes it. There client 3 reads the point, its lease ends, and server 1 hears of time 40. Both results
-- of client 2 are told there, one by a program from before, with the times that their executions noted; client 2 receives both, and the one from server 0 too late.
-- Assumes nothing.
use Rattle.std.specs.Prelude.{ℕ, ◌+◌, true, List, [], ◌∷◌, replicate}
use Rattle.std.proofs.Math.Option.{none, some}
use Rattle.model.specs.declared.Client.{Client}
use Rattle.model.specs.declared.Notice.{Notice}
use Rattle.model.specs.declared.Request.{Request}
use Rattle.model.specs.declared.Point.{Point}
use Rattle.model.specs.Numbers.{half}
use Rattle.model.specs.Limits.{result_size, notice_kind, read_op, step_op, by_hand}
use Rattle.model.specs.Packets.{request_bytes, result_bytes, notice_bytes, grant_bytes}
use Rattle.model.specs.Images.{Image, image_bytes}
use Rattle.model.specs.States.{load, held, given}
use Rattle.model.specs.Calls.{request, sync, notice, give, image, take_in}
use Rattle.model.specs.Clients.{no_call}
use Rattle.model.specs.Simulator.{simulator_plan}
use Rattle.claim.specs.World.{Event, found, call, outside, start, issue, receive, open·lease, query, nothing_stored, Server, nothing, running, storing, crashed}
use Rattle.proof_sanity.specs.Trace.{Seen, up, Trace}
use Rattle.proof_sanity.specs.Moved.{before, step_command, step_result, setting_asked, step_asked, step_answer, setter_gone, new_state, lent_all, lent_image, asks_of, asks, open_call, idle, stepper, at_server, called, answering, on_packet, at_client, at_manager}

-- client 2's second step, asked while the first is open
abbrev pub second_asked : Request
second_asked = record { command = step_command 2; done = 1; lease = 1000 }

abbrev pub read_asked : Request
read_asked = record { command = record { client = 3; call = 1; op = read_op; point = 5; argument = half }; done = 1; lease = 30 }

-- the notice of client 3's end
abbrev pub reader_gone : Notice
reader_gone = record { client = 3; time = 40 }

-- the image: with time 0 of the first step, 20 of the second
abbrev pub timed_image : Image
timed_image =
    record {
      point = 5;
      destination = 1;
      source = 0;
      move_number = 1;
      heard = 20;
      value = half + 42;
      quality = by_hand;
      floors = record { client = 2; floor = 1 } ∷ [];
      entries =
          record { client = 2; call = 1; op = step_op; argument = half + 1; result = step_result 1 }
          ∷ record { client = 2; call = 2; op = step_op; argument = half + 1; result = step_result 2 }
          ∷ [];
      timed = true;
    }

-- client 2 with both calls open
abbrev pub both_open : Client
both_open =
    record {
      client = 2;
      lease = 1000;
      next = 3;
      calls = no_call ∷ open_call (step_command 1) ∷ open_call (step_command 2) ∷ replicate 13 no_call;
    }

-- with the first open
abbrev pub one_open : Client
one_open = record { client = 2; lease = 1000; next = 3; calls = no_call ∷ open_call (step_command 1) ∷ replicate 14 no_call }

unfoldable pub timed : List Event
timed =
    found 0 new_state (replicate 8 0) simulator_plan 0
    ∷ found 1 new_state (replicate 8 0) simulator_plan 1
    ∷ outside (open·lease 0 10)
    ∷ outside (open·lease 0 1000)
    ∷ outside (open·lease 0 30)
    ∷ outside (start 0)
    ∷ outside (start 1)
    ∷ outside (start 2)
    ∷ outside (issue 1 1 5 (half + 40))
    ∷ asks 0 3
    ∷ outside (query 1 20)
    ∷ call 0 (notice 4) lent_all
    ∷ outside (issue 2 2 5 (half + 1))
    ∷ outside (issue 2 2 5 (half + 1))
    ∷ asks_of before 0 5
    ∷ asks 0 6
    ∷ call 0 (sync 112) lent_all
    ∷ asks 0 6
    ∷ call 0 (give 5 1) lent_all
    ∷ call 0 (sync 120) lent_all
    ∷ call 0 (image before 5) lent_image
    ∷ call 1 (take_in 8) lent_all
    ∷ outside (issue 3 0 5 half)
    ∷ asks 1 9
    ∷ outside (query 3 40)
    ∷ call 1 (notice 10) lent_all
    ∷ call 1 (sync 164) lent_all
    ∷ asks 1 5
    ∷ asks_of before 1 6
    ∷ outside (receive 2 12)
    ∷ outside (receive 2 11)
    ∷ outside (receive 2 7)
    ∷ []

-- ---- what is seen of it

unfoldable pub timed_rows : List Seen
timed_rows =
    at_server 0
    ∷ at_server 0
    ∷ at_manager
    ∷ at_manager
    ∷ at_manager
    ∷ on_packet (grant_bytes (record { client = 1; lease = 10 }))
    ∷ on_packet (grant_bytes (record { client = 2; lease = 1000 }))
    ∷ on_packet (grant_bytes (record { client = 3; lease = 30 }))
    ∷ at_client (idle 1 10 1) none
    ∷ answering 8 (request_bytes setting_asked) 0 0
    ∷ at_manager
    ∷ called 40 (notice (notice_bytes notice_kind setter_gone)) 0 0
    ∷ at_client (idle 2 1000 1) none
    ∷ at_client (stepper 1) none
    ∷ called 52 (request before (request_bytes (step_asked 1))) 0 0
    ∷ answering 80 (request_bytes second_asked) 0 0
    ∷ called 112 (sync 112) 0 0
    ∷ answering 112 (request_bytes second_asked) 0 result_size
    ∷ called 112 (give 5 1) 0 0
    ∷ called 120 (sync 120) 0 0
    ∷ called 120 (image before 5) 0 104
    ∷ called 8 (take_in (image_bytes timed_image)) 0 0
    ∷ at_client (idle 3 30 1) none
    ∷ answering 120 (request_bytes read_asked) 0 0
    ∷ at_manager
    ∷ called 152 (notice (notice_bytes notice_kind reader_gone)) 0 0
    ∷ called 164 (sync 164) 0 0
    ∷ answering 164 (request_bytes (step_asked 1)) 0 result_size
    ∷ called 164 (request before (request_bytes second_asked)) 0 result_size
    ∷ at_client both_open (some (result_bytes (step_answer 2)))
    ∷ at_client one_open (some (result_bytes (step_answer 1)))
    ∷ at_client (idle 2 1000 3) (some (result_bytes (step_answer 2)))
    ∷ []

-- server 0 has given the point, server 1 holds it, and has heard of a later time than the steps noted
abbrev pub timed_given : Point
timed_given = record { status = given; quality = by_hand; destination = 1; value = half + 42; move_number = 1; taken_move = 0; give_end = 120; take_end = 0 }

abbrev pub timed_held : Point
timed_held = record { status = held; quality = by_hand; destination = 0; value = half + 42; move_number = 1; taken_move = 1; give_end = 0; take_end = 120 }

unfoldable pub timed_seen : Trace
timed_seen = record { rows = timed_rows; end = record { first = up nothing_stored timed_given 20; second = up nothing_stored timed_held 40 } }

-- a running server's heard time
unfoldable pub heard_by : Server → ℕ
heard_by nothing = 0
heard_by (running k state log) = (load state).heard
heard_by (storing k log next state tail) = (load state).heard
heard_by (crashed k kept mark) = 0
