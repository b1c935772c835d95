-- Schedules in which a late repeat, a crash or an old image comes; and what is counted at their end.
-- Assumes nothing.
use Rattle.std.specs.Prelude.{ℕ, ◌+◌, Bool, true, false, not, ◌&&◌, List, [], ◌∷◌, ◌++◌, eqb, length, Option, Some, None}
use Rattle.std.proofs.Math.Option.{Option as Maybe, none, some}
use Rattle.model.specs.declared.Client.{Client}
use Rattle.model.specs.declared.Packet.{Packet}
use Rattle.model.specs.declared.Packet.TheVariants.{Requested, Resulted, Refused, Receipted, Noticed, Granted}
use Rattle.model.specs.Choice.{pick}
use Rattle.model.specs.Numbers.{half}
use Rattle.model.specs.Tables.{keep}
use Rattle.model.specs.Versions.{today}
use Rattle.model.specs.Packets.{parse_packet}
use Rattle.model.specs.Logs.{LogRecord, executed, gone, gave, took, released}
use Rattle.model.specs.Calls.{request, fetch, sync, notice, give, image, take_in, receipt, release}
use Rattle.model.specs.Simulator.{simulator_plan}
use Rattle.claim.specs.World.{open·lease, start, issue, receive, query}
use Rattle.claim.specs.RecordWorld.{Event, found, call, recover, crash, outside, Log, kept_by}
use Rattle.proof_mutations.specs.World.{run}

-- servers 0 and 1; client 1 has a lease of this span, and sets point 5 to 40: call 1
unfoldable pub begun : ℕ → List Event
begun span =
    found 0 simulator_plan 0
    ∷ found 1 simulator_plan 1
    ∷ outside (open·lease 0 span)
    ∷ outside (start 0)
    ∷ outside (issue 1 1 5 (half + 40))
    ∷ []

-- the lease of client 1 ends, and server 0 hears of it; a late repeat is refused with 4
unfoldable pub ended : List Event
ended =
    begun 10
    ++ (call 0 (request today 1) 999
    ∷ outside (query 1 20)
    ∷ call 0 (notice 2) 999
    ∷ call 0 (request today 1) 999
    ∷ [])

-- two leases end, and server 0 hears of the later end first; a late repeat is refused with 4
unfoldable pub ended_twice : List Event
ended_twice =
    found 0 simulator_plan 0
    ∷ outside (open·lease 0 18)
    ∷ outside (open·lease 0 10)
    ∷ outside (start 0)
    ∷ outside (start 1)
    ∷ outside (issue 1 1 5 (half + 40))
    ∷ outside (issue 2 1 6 (half + 40))
    ∷ call 0 (request today 2) 999
    ∷ call 0 (request today 3) 999
    ∷ outside (query 2 15)
    ∷ outside (query 1 20)
    ∷ call 0 (notice 5) 999
    ∷ call 0 (notice 4) 999
    ∷ call 0 (request today 2) 999
    ∷ []

-- the lease ends, server 0 hears of it, and the point moves to server 1; a late repeat there is refused with 4
unfoldable pub ended_moved : List Event
ended_moved =
    begun 10
    ++ (call 0 (request today 1) 999
    ∷ outside (query 1 20)
    ∷ call 0 (notice 2) 999
    ∷ call 0 (give 5 1) 999
    ∷ call 0 (sync 60) 999
    ∷ call 0 (image today 5) 999
    ∷ call 1 (take_in 3) 999
    ∷ call 1 (request today 1) 999
    ∷ [])

-- call 1 is finished at the client, call 2 on another point says so, and the point moves to server 1; a late repeat of call 1 there is
-- refused with 5
unfoldable pub finished : List Event
finished =
    begun 1000
    ++ (call 0 (request today 1) 999
    ∷ call 0 (sync 40) 999
    ∷ call 0 (request today 1) 999
    ∷ outside (receive 1 2)
    ∷ outside (issue 1 1 6 (half + 41))
    ∷ call 0 (request today 3) 999
    ∷ call 0 (give 5 1) 999
    ∷ call 0 (sync 80) 999
    ∷ call 0 (image today 5) 999
    ∷ call 1 (take_in 4) 999
    ∷ call 1 (request today 1) 999
    ∷ [])

-- call 1 is finished, and call 2 says so to server 1 alone; then point 6 comes from server 0, which has not heard of it; a late repeat of
-- call 1 at server 1 is refused with 5
unfoldable pub finished_there : List Event
finished_there =
    begun 1000
    ++ (call 0 (request today 1) 999
    ∷ call 0 (sync 40) 999
    ∷ call 0 (request today 1) 999
    ∷ outside (receive 1 2)
    ∷ call 0 (give 5 1) 999
    ∷ call 0 (sync 48) 999
    ∷ call 0 (image today 5) 999
    ∷ call 1 (take_in 3) 999
    ∷ outside (issue 1 1 5 (half + 41))
    ∷ call 1 (request today 4) 999
    ∷ call 0 (give 6 1) 999
    ∷ call 0 (sync 56) 999
    ∷ call 0 (image today 6) 999
    ∷ call 1 (take_in 5) 999
    ∷ call 1 (request today 1) 999
    ∷ [])

-- the point moves to server 1 after the execution; a repeat there runs nothing again, and is told once the take is synced
unfoldable pub moved : List Event
moved =
    begun 1000
    ++ (call 0 (request today 1) 999
    ∷ call 0 (give 5 1) 999
    ∷ call 0 (sync 48) 999
    ∷ call 0 (image today 5) 999
    ∷ call 1 (take_in 2) 999
    ∷ call 1 (request today 1) 999
    ∷ call 1 (sync 96) 999
    ∷ call 1 (request today 1) 999
    ∷ outside (receive 1 4)
    ∷ [])

-- a result is asked for, by request and by fetch, before it is synced, and a crash removes the execution
unfoldable pub unsynced : List Event
unsynced =
    begun 1000
    ++ (call 0 (request today 1) 999
    ∷ call 0 (request today 1) 999
    ∷ call 0 (fetch today 1 1) 999
    ∷ outside (receive 1 2)
    ∷ outside (receive 1 3)
    ∷ crash 0 8
    ∷ [])

-- an image is asked for before its give is synced, and a crash removes the give: server 0 holds the point again, server 1 does not
unfoldable pub unsynced_give : List Event
unsynced_give =
    begun 1000
    ++ (call 0 (give 5 1) 999
    ∷ call 0 (image today 5) 999
    ∷ call 1 (take_in 2) 999
    ∷ crash 0 8
    ∷ recover 0 simulator_plan
    ∷ call 0 (request today 1) 999
    ∷ call 1 (request today 1) 999
    ∷ [])

-- the point goes to server 1 and back, and the command runs at server 0; the image of the first move comes to server 1 again
unfoldable pub returned : List Event
returned =
    begun 1000
    ++ (call 0 (give 5 1) 999
    ∷ call 0 (sync 16) 999
    ∷ call 0 (image today 5) 999
    ∷ call 1 (take_in 2) 999
    ∷ call 1 (give 5 0) 999
    ∷ call 1 (sync 72) 999
    ∷ call 1 (image today 5) 999
    ∷ call 0 (take_in 3) 999
    ∷ call 0 (request today 1) 999
    ∷ call 1 (take_in 2) 999
    ∷ call 1 (request today 1) 999
    ∷ [])

-- the point goes to server 1 and back and is given to it again; the receipt of the first move does not let it go before it has an image
unfoldable pub given_again : List Event
given_again =
    found 0 simulator_plan 0
    ∷ found 1 simulator_plan 1
    ∷ call 0 (give 5 1) 999
    ∷ call 0 (sync 16) 999
    ∷ call 0 (image today 5) 999
    ∷ call 1 (take_in 0) 999
    ∷ call 1 (sync 64) 999
    ∷ call 1 (receipt 5) 999
    ∷ call 0 (release 1) 999
    ∷ call 1 (give 5 0) 999
    ∷ call 1 (sync 72) 999
    ∷ call 1 (image today 5) 999
    ∷ call 0 (take_in 2) 999
    ∷ call 0 (give 5 1) 999
    ∷ call 0 (release 1) 999
    ∷ call 0 (sync 88) 999
    ∷ call 0 (image today 5) 999
    ∷ call 1 (take_in 3) 999
    ∷ []

-- the execution is synced, and the server crashes and recovers; a repeat is told the result
unfoldable pub regained : List Event
regained =
    begun 1000
    ++ (call 0 (request today 1) 999
    ∷ call 0 (sync 40) 999
    ∷ crash 0 40
    ∷ recover 0 simulator_plan
    ∷ call 0 (request today 1) 999
    ∷ [])

-- the lease of client 2 ends, and server 0 hears of time 20; then call 1 of client 1 is executed and told. The point moves to server 1, which hears of time
-- 40 as the lease of client 3 ends; a repeat there is told the time of the execution
unfoldable pub timed : List Event
timed =
    found 0 simulator_plan 0
    ∷ found 1 simulator_plan 1
    ∷ outside (open·lease 0 1000)
    ∷ outside (open·lease 0 10)
    ∷ outside (open·lease 0 30)
    ∷ outside (start 0)
    ∷ outside (start 1)
    ∷ outside (start 2)
    ∷ outside (issue 2 1 6 (half + 40))
    ∷ call 0 (request today 3) 999
    ∷ outside (query 2 20)
    ∷ call 0 (notice 4) 999
    ∷ outside (issue 1 1 5 (half + 40))
    ∷ call 0 (request today 5) 999
    ∷ call 0 (sync 84) 999
    ∷ call 0 (request today 5) 999
    ∷ call 0 (give 5 1) 999
    ∷ call 0 (sync 92) 999
    ∷ call 0 (image today 5) 999
    ∷ call 1 (take_in 7) 999
    ∷ outside (issue 3 0 5 half)
    ∷ call 1 (request today 8) 999
    ∷ outside (query 3 40)
    ∷ call 1 (notice 9) 999
    ∷ call 1 (sync 140) 999
    ∷ call 1 (request today 5) 999
    ∷ []

-- ---- what is counted

-- an execution of call 1 of client 1
unfoldable pub is_run : LogRecord → Bool
is_run (executed x) = eqb x.command.client 1 && eqb x.command.call 1
is_run (gone n) = false
is_run (gave g) = false
is_run (took i) = false
is_run (released r) = false

unfoldable pub is_take : LogRecord → Bool
is_take (executed x) = false
is_take (gone n) = false
is_take (gave g) = false
is_take (took i) = true
is_take (released r) = false

unfoldable pub count : (LogRecord → Bool) → Maybe Log → ℕ
count t none = 0
count t (some log) = length (keep (λ e. t e.item) log.entries)

-- in the logs of servers 0 and 1 at the end: the surviving executions of call 1 of client 1
unfoldable pub runs : List Event → ℕ
runs es = count is_run (kept_by ((run es).servers 0)) + count is_run (kept_by ((run es).servers 1))

-- the takes of server 1
unfoldable pub takes_of : List Event → ℕ
takes_of es = count is_take (kept_by ((run es).servers 1))

-- the open calls of client 1: those that are not completed
unfoldable pub open_in : Maybe Client → ℕ
open_in none = 0
open_in (some d) = length (keep (λ k. not (eqb k.call 0)) d.calls)

unfoldable pub open·calls : List Event → ℕ
open·calls es = open_in ((run es).clients 1)

-- the times that results of call 1 of client 1 were told with
unfoldable pub time_in : Option Packet → List ℕ
time_in None = []
time_in (Some (Requested q)) = []
time_in (Some (Resulted r)) = pick (eqb r.client 1 && eqb r.call 1) (r.result.time ∷ []) []
time_in (Some (Refused r)) = []
time_in (Some (Receipted r)) = []
time_in (Some (Noticed n)) = []
time_in (Some (Granted g)) = []

unfoldable pub times_in : List (List ℕ) → List ℕ
times_in [] = []
times_in (b ∷ bs) = time_in (parse_packet b) ++ times_in bs

unfoldable pub times_told : List Event → List ℕ
times_told es = times_in (run es).made
