-- Schedules over states and log records, and what is seen of a server along a schedule.
-- Assumes nothing.
use Rattle.std.specs.Prelude.{ℕ, List, [], ◌∷◌, length}
use Rattle.std.proofs.Math.Option.{Option, none, some}
use Rattle.model.specs.Versions.{today}
use Rattle.model.specs.Calls.{request, sync, give, image, take_in, receipt, release}
use Rattle.model.specs.Simulator.{simulator_plan}
use Rattle.claim.specs.World.{open·lease, start, issue, receive}
use Rattle.claim.specs.RecordWorld.{Event, found, call, recover, crash, outside, Log, World, kept_by, step, empty_world}
use Rattle.claim.specs.RecordProvisos.{length_of, mark_of}

-- a client sets point 5 to 40: executed, refused with 7, cut off by a crash inside its record, executed again, recovered whole, told, completed;
-- call 2 finds a log slice shorter than the log (19), one without space (9), and one with space
unfoldable pub lost : List Event
lost =
    found 0 simulator_plan 0
    ∷ outside (open·lease 0 1000)
    ∷ outside (start 0)
    ∷ outside (issue 1 1 5 2147483688)
    ∷ call 0 (request today 1) 100
    ∷ call 0 (request today 1) 100
    ∷ crash 0 39
    ∷ recover 0 simulator_plan
    ∷ call 0 (request today 1) 100
    ∷ crash 0 40
    ∷ recover 0 simulator_plan
    ∷ call 0 (request today 1) 100
    ∷ outside (receive 1 3)
    ∷ outside (issue 1 2 5 2147483649)
    ∷ call 0 (request today 4) 39
    ∷ call 0 (request today 4) 71
    ∷ call 0 (request today 4) 72
    ∷ []

-- point 5 moves from server 0 to server 1 with its record: a repeat there is told once the take is synced, and server 0 releases the point
unfoldable pub moved : List Event
moved =
    found 0 simulator_plan 0
    ∷ found 1 simulator_plan 1
    ∷ outside (open·lease 0 1000)
    ∷ outside (start 0)
    ∷ outside (issue 1 1 5 2147483688)
    ∷ call 0 (request today 1) 100
    ∷ call 0 (give 5 1) 100
    ∷ call 0 (sync 48) 100
    ∷ call 0 (image today 5) 100
    ∷ call 1 (take_in 2) 200
    ∷ call 1 (take_in 2) 200
    ∷ call 1 (request today 1) 200
    ∷ call 1 (sync 96) 200
    ∷ call 1 (request today 1) 200
    ∷ call 1 (receipt 5) 200
    ∷ call 0 (release 5) 100
    ∷ []

unfoldable pub records_of : Option Log → ℕ
records_of none = 0
records_of (some log) = length log.entries

-- of server c after each event: the log's length, its sync mark, its records; and the packets and images made
unfoldable pub seen_from : ℕ → World → List Event → List (List ℕ)
seen_from c w [] = []
seen_from c w (e ∷ es) =
    let v : World = step w e in
    (length_of (v.servers c) ∷ mark_of (v.servers c) ∷ records_of (kept_by (v.servers c)) ∷ length v.made ∷ []) ∷ seen_from c v es

unfoldable pub seen : ℕ → List Event → List (List ℕ)
seen c es = seen_from c empty_world es
