-- A lock handed from a lost controller to its successor. Client 2 reports the three levels. Controller 1 sets the lower gate to 0, reads it and the levels, and
-- opens the upper gate; its result never comes. The lease of client 1 ends, the server gets the notice and syncs it, and controller 3 starts. The
-- lost one sends its command again and is refused. Controller 3 closes the upper gate, reads it and the levels, and opens the lower one.
-- Assumes nothing.
use Rattle.std.specs.Prelude.{ℕ, ◌+◌, List, [], ◌∷◌, replicate}
use Rattle.model.specs.declared.Command.{Command}
use Rattle.model.specs.Numbers.{half}
use Rattle.model.specs.Limits.{state_size, result_size, head_size, read_op, set_op, report_op}
use Rattle.model.specs.Versions.{today}
use Rattle.model.specs.Calls.{request, sync, notice}
use Rattle.model.specs.Simulator.{simulator_plan}
use Rattle.claim.specs.World.{Lent, found, call, outside, start, issue, open·lease, query}
use Rattle.chamber_claim.specs.declared.LockPoints.{LockPoints}
use Rattle.chamber_claim.specs.Lock.{LockEvent, kernel, begin, command, again, hear}
use Rattle.chamber_safety.specs.Kept.{Look, nothing, starting, executing}

-- gates 10 and 11, levels 20 to 22
abbrev pub lock_points : LockPoints
lock_points = record { upper = 10; lower = 11; level1 = 20; level2 = 21; level3 = 22 }

-- the two openings
abbrev pub upper_opened : Command
upper_opened = record { client = 1; call = 5; op = set_op; point = 10; argument = half + 40 }

abbrev pub lower_opened : Command
lower_opened = record { client = 3; call = 5; op = set_op; point = 11; argument = half + 30 }

-- the whole state buffer, a log of up to 500 bytes, an output of 20
abbrev pub lent_all : Lent
lent_all = record { state = state_size; log = 500; spare = replicate 500 0; out = replicate result_size 0 }

-- packet p is delivered to server 0; server 0 syncs
abbrev pub asks : ℕ → LockEvent
asks p = kernel (call 0 (request today p) lent_all)

abbrev pub syncs : ℕ → LockEvent
syncs m = kernel (call 0 (sync m) lent_all)

-- the packet number of the notice
abbrev pub notice_number : ℕ
notice_number = 14

unfoldable pub handed : List LockEvent
handed =
    kernel (found 0 (replicate state_size 0) (replicate head_size 0) simulator_plan 0)
    ∷ kernel (outside (open·lease 0 100))
    ∷ kernel (outside (open·lease 0 1000))
    ∷ begin 0
    ∷ kernel (outside (start 1))
    ∷ kernel (outside (issue 2 report_op 20 half))
    ∷ kernel (outside (issue 2 report_op 21 half))
    ∷ kernel (outside (issue 2 report_op 22 half))
    ∷ asks 2
    ∷ asks 3
    ∷ asks 4
    ∷ command 1 set_op 11 half
    ∷ asks 5
    ∷ syncs 136
    ∷ asks 5
    ∷ hear 1 6
    ∷ command 1 read_op 11 half
    ∷ asks 7
    ∷ syncs 168
    ∷ asks 7
    ∷ hear 1 8
    ∷ command 1 read_op 20 half
    ∷ asks 9
    ∷ syncs 200
    ∷ asks 9
    ∷ hear 1 10
    ∷ command 1 read_op 21 half
    ∷ asks 11
    ∷ syncs 232
    ∷ asks 11
    ∷ hear 1 12
    ∷ command 1 set_op 10 (half + 40)
    ∷ asks 13
    ∷ syncs 264
    ∷ kernel (outside (query 1 200))
    ∷ kernel (call 0 (notice 14) lent_all)
    ∷ syncs 276
    ∷ kernel (outside (open·lease 200 800))
    ∷ begin 15
    ∷ again 1 5
    ∷ asks 16
    ∷ command 3 set_op 10 half
    ∷ asks 18
    ∷ syncs 308
    ∷ asks 18
    ∷ hear 3 19
    ∷ command 3 read_op 10 half
    ∷ asks 20
    ∷ syncs 340
    ∷ asks 20
    ∷ hear 3 21
    ∷ command 3 read_op 21 half
    ∷ asks 22
    ∷ syncs 372
    ∷ asks 22
    ∷ hear 3 23
    ∷ command 3 read_op 22 half
    ∷ asks 24
    ∷ syncs 404
    ∷ asks 24
    ∷ hear 3 25
    ∷ command 3 set_op 11 (half + 30)
    ∷ asks 26
    ∷ []

unfoldable pub looks : List Look
looks =
    nothing
    ∷ nothing
    ∷ nothing
    ∷ starting 1
    ∷ nothing
    ∷ nothing
    ∷ nothing
    ∷ nothing
    ∷ nothing
    ∷ nothing
    ∷ nothing
    ∷ nothing
    ∷ nothing
    ∷ nothing
    ∷ nothing
    ∷ nothing
    ∷ nothing
    ∷ nothing
    ∷ nothing
    ∷ nothing
    ∷ nothing
    ∷ nothing
    ∷ nothing
    ∷ nothing
    ∷ nothing
    ∷ nothing
    ∷ nothing
    ∷ nothing
    ∷ nothing
    ∷ nothing
    ∷ nothing
    ∷ nothing
    ∷ executing upper_opened
    ∷ nothing
    ∷ nothing
    ∷ nothing
    ∷ nothing
    ∷ nothing
    ∷ starting 3
    ∷ nothing
    ∷ nothing
    ∷ nothing
    ∷ nothing
    ∷ nothing
    ∷ nothing
    ∷ nothing
    ∷ nothing
    ∷ nothing
    ∷ nothing
    ∷ nothing
    ∷ nothing
    ∷ nothing
    ∷ nothing
    ∷ nothing
    ∷ nothing
    ∷ nothing
    ∷ nothing
    ∷ nothing
    ∷ nothing
    ∷ nothing
    ∷ nothing
    ∷ nothing
    ∷ executing lower_opened
    ∷ []
