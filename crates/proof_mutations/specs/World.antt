-- The world of states and log records (`claim`: RecordWorld) over the calls of Reads; found, sync, notice, give, receipt, crash, clients and lease manager
-- are that world's own.
-- Assumes nothing.
use Rattle.std.specs.Prelude.{ℕ, ◌+◌, ◌-◌, List, [], ◌∷◌, ltb}
use Rattle.std.proofs.Math.Option.{Option, none, some}
use Rattle.model.specs.Choice.{pick, refuse, deny, reply, append, marks}
use Rattle.model.specs.Refusals.{unsound}
use Rattle.model.specs.Packets.{parse_packet}
use Rattle.model.specs.Images.{parse_image}
use Rattle.model.specs.Logs.{Entry, record_size}
use Rattle.model.specs.States.{State}
use Rattle.model.specs.Decisions.{Decided}
use Rattle.model.specs.Calls.{Operation, request, fetch, sync, notice, give, image, take_in, receipt, release, handed, decision}
use Rattle.claim.specs.World.{with_server, making, packet, outside_step}
use Rattle.claim.specs.RecordWorld.{Event, found, call, recover, crash, outside}
use Rattle.claim.specs.RecordWorld.{Log, Server, nothing, running, crashed, World, Left, longer, kept_by, recovers_to, empty_world}
use Rattle.claim.specs.RecordWorld as Records
use Rattle.proof_mutations.specs.Reads.{requests, fetches, images, takes, releases, applies, regains}

-- a decision carried out: a record is applied as Reads has it
unfoldable pub settle : State → Log → Decided → Left
settle st log (refuse n) = Records.settle st log (refuse n)
settle st log (deny n b) = Records.settle st log (deny n b)
settle st log (reply b) = Records.settle st log (reply b)
settle st log (append r) =
    let e : Entry = record { item = r; end = st.size + record_size r } in
    record { number = 0; made = []; state = applies st e; log = longer log e }
settle st log (marks m) = Records.settle st log (marks m)

unfoldable pub call_of : State → Log → ℕ → (State → ℕ → Decided) → Left
call_of st log room d = settle st log (pick (ltb room st.size) (refuse unsound) (d st (room - st.size)))

unfoldable pub calls : ℕ → ℕ → (State → ℕ → Decided) → Server → World → World
calls c room d nothing w = w
calls c room d (running st log) w =
    let a = call_of st log room d in
    making a.made (with_server c (running a.state a.log) w)
calls c room d (crashed log k mark) w = w

-- what an operation decides, by the calls of Reads
unfoldable pub decides : Operation → State → ℕ → Decided
decides (request v b) st free = requests v st free (parse_packet b)
decides (fetch v x c) st free = fetches v st x c
decides (sync m) st free = decision (sync m) st free
decides (notice b) st free = decision (notice b) st free
decides (give p d) st free = decision (give p d) st free
decides (image v p) st free = images v st p
decides (take_in b) st free = takes st free (parse_image b)
decides (receipt p) st free = decision (receipt p) st free
decides (release b) st free = releases st free (parse_packet b)

unfoldable pub calls_on : ℕ → ℕ → Option Operation → World → World
calls_on c room none w = w
calls_on c room (some o) w = calls c room (decides o) (w.servers c) w

unfoldable pub recovers_from : ℕ → List ℕ → Option Log → World → World
recovers_from c plan none w = w
recovers_from c plan (some log) w = recovers_to c log (regains plan log) w

unfoldable pub step : World → Event → World
step w (found c plan n) = Records.step w (found c plan n)
step w (call c o room) = calls_on c room (handed (packet w) o) w
step w (recover c plan) = recovers_from c plan (kept_by (w.servers c)) w
step w (crash c k) = Records.step w (crash c k)
step w (outside e) = outside_step w e

unfoldable pub run_from : World → List Event → World
run_from w [] = w
run_from w (e ∷ es) = run_from (step w e) es

unfoldable pub run : List Event → World
run es = run_from empty_world es
