-- A schedule with a dispatcher at server 0. The request of client 1 waits, comes again and is refused; that of client 2 waits behind it. The first is served and executed, and synced; then the power
-- fails. A serving while the server is down is none, and the waiting request is lost. After recovery nobody waits; the request of client 2 comes again, is served and executed; that of client 1 comes
-- again, and its result is told and received.
-- Assumes nothing.
use Rattle.std.specs.Prelude.{ℕ, ◌+◌, List, [], ◌∷◌, ◌++◌, replicate}
use Rattle.std.proofs.Math.Option.{none, some}
use Rattle.model.specs.declared.Point.{Point}
use Rattle.model.specs.Numbers.{half}
use Rattle.model.specs.Limits.{set_op, step_op, result_size, by_hand}
use Rattle.model.specs.Versions.{today}
use Rattle.model.specs.Packets.{request_bytes, result_bytes, grant_bytes}
use Rattle.model.specs.Logs.{head_bytes, executed_bytes}
use Rattle.model.specs.States.{held}
use Rattle.model.specs.Calls.{sync}
use Rattle.model.specs.Simulator.{simulator_plan}
use Rattle.claim.specs.World.{Event, found, call, recover, crash, outside, start, issue, receive, open·lease, nothing_stored}
use Rattle.claim.specs.Above.{quiet}
use Rattle.proof_sanity.specs.Trace.{Seen, up, off, Trace}
use Rattle.proof_sanity.specs.Moved.{setting_asked, step_asked, setting_answer, setting_done, setter, new_state, lent_all, asks, idle, at_server, called, answering, crashing, on_packet, at_client, at_manager}
use Rattle.dispatch_claim.specs.Queues.{QueueEvent, kernel, enqueue, serve, lose}

-- what the crash keeps: the record of the set
abbrev pub kept_set : List ℕ
kept_set = head_bytes 0 ++ executed_bytes setting_done

-- both desks have issued: packets 2 and 3
unfoldable pub issued : List QueueEvent
issued =
    kernel (found 0 new_state (replicate 8 0) simulator_plan 0)
    ∷ kernel (outside (open·lease 0 10))
    ∷ kernel (outside (open·lease 0 1000))
    ∷ kernel (outside (start 0))
    ∷ kernel (outside (start 1))
    ∷ kernel (outside (issue 1 set_op 5 (half + 40)))
    ∷ kernel (outside (issue 2 step_op 5 (half + 1)))
    ∷ []

unfoldable pub queued : List QueueEvent
queued =
    issued
    ++ (enqueue 0 2
    ∷ enqueue 0 2
    ∷ enqueue 0 3
    ∷ serve 0 today lent_all
    ∷ kernel (call 0 (sync 40) lent_all)
    ∷ kernel (crash 0 40)
    ∷ serve 0 today lent_all
    ∷ lose 0
    ∷ kernel (recover 0 new_state kept_set simulator_plan)
    ∷ serve 0 today lent_all
    ∷ enqueue 0 3
    ∷ serve 0 today lent_all
    ∷ kernel (call 0 (sync 72) lent_all)
    ∷ enqueue 0 2
    ∷ serve 0 today lent_all
    ∷ kernel (outside (receive 1 4))
    ∷ [])

-- the kernel's events
unfoldable pub queued_events : List Event
queued_events =
    found 0 new_state (replicate 8 0) simulator_plan 0
    ∷ outside (open·lease 0 10)
    ∷ outside (open·lease 0 1000)
    ∷ outside (start 0)
    ∷ outside (start 1)
    ∷ outside (issue 1 set_op 5 (half + 40))
    ∷ outside (issue 2 step_op 5 (half + 1))
    ∷ outside quiet
    ∷ outside quiet
    ∷ outside quiet
    ∷ asks 0 2
    ∷ call 0 (sync 40) lent_all
    ∷ crash 0 40
    ∷ outside quiet
    ∷ outside quiet
    ∷ recover 0 new_state kept_set simulator_plan
    ∷ outside quiet
    ∷ outside quiet
    ∷ asks 0 3
    ∷ call 0 (sync 72) lent_all
    ∷ outside quiet
    ∷ asks 0 2
    ∷ outside (receive 1 4)
    ∷ []

-- ---- what is seen of them

unfoldable pub queued_rows : List Seen
queued_rows =
    at_server 0
    ∷ at_manager
    ∷ at_manager
    ∷ on_packet (grant_bytes (record { client = 1; lease = 10 }))
    ∷ on_packet (grant_bytes (record { client = 2; lease = 1000 }))
    ∷ at_client (idle 1 10 1) none
    ∷ at_client (idle 2 1000 1) none
    ∷ at_manager
    ∷ at_manager
    ∷ at_manager
    ∷ answering 8 (request_bytes setting_asked) 0 0
    ∷ called 40 (sync 40) 0 0
    ∷ crashing 40 0 40
    ∷ at_manager
    ∷ at_manager
    ∷ at_server 40
    ∷ at_manager
    ∷ at_manager
    ∷ answering 40 (request_bytes (step_asked 1)) 0 0
    ∷ called 72 (sync 72) 0 0
    ∷ at_manager
    ∷ answering 72 (request_bytes setting_asked) 0 result_size
    ∷ at_client setter (some (result_bytes setting_answer))
    ∷ []

abbrev pub queued_point : Point
queued_point = record { status = held; quality = by_hand; destination = 0; value = half + 41; move_number = 0; taken_move = 0; give_end = 0; take_end = 0 }

unfoldable pub queued_seen : Trace
queued_seen = record { rows = queued_rows; end = record { first = up nothing_stored queued_point 0; second = off } }

-- ---- 32 servings behind a request that waits

unfoldable pub waiting_long : List QueueEvent
waiting_long = replicate 32 (serve 0 today lent_all)
