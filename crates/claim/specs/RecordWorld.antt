-- All parties, run over a schedule. A server (paper: cabinet) is its state and the records of its log: what it decides, how a record changes
-- its state and what recovery makes of records are the definitions that `model` uses on bytes. Clients, lease manager and packets are those of
-- World; packets are bytes, parsed by the server. Lent buffers and the layouts of state and log are all that is left out.
-- Assumes nothing.
use Rattle.std.specs.Prelude.{ℕ, ◌+◌, ◌-◌, ◌||◌, not, List, [], ◌∷◌, ◌++◌, take, leb, ltb}
use Rattle.std.proofs.Math.Option.{Option, none, some}
use Rattle.model.specs.Choice.{pick, refuse, deny, reply, append, marks}
use Rattle.model.specs.Refusals.{unsound}
use Rattle.model.specs.Limits.{last_server}
use Rattle.model.specs.Tables.{keep}
use Rattle.model.specs.Plan.{plan_ok, plan_of}
use Rattle.model.specs.Logs.{Entry, record_size}
use Rattle.model.specs.States.{State}
use Rattle.model.specs.Apply.{apply, founded, with_mark}
use Rattle.model.specs.Decisions.{Decided}
use Rattle.model.specs.Operations.{recovered}
use Rattle.model.specs.Calls.{OperationOf, Operation, handed, decision}
use Rattle.model.specs.Leases.{new_manager}
use Rattle.claim.specs.World.{WorldOf, OutsideCall, with_server, making, packet, outside_step}

-- ---- parties

-- a log: the server number in its head, and its records with their ends, the oldest first
pub record Log : Type 0 where
  pub number : ℕ
  pub entries : List Entry

-- `running st log`: the state, and all records of the log. `crashed log k mark`: no state, the whole records among the k bytes that a crash
-- kept, and the sync mark of the time before it
pub data Server : Type 0 where
  nothing : Server
  running : State → Log → Server
  crashed : Log → ℕ → ℕ → Server

abbrev pub World : Type 0
World = WorldOf Server

-- ---- events

-- as in World, with `room`, the number of bytes of the lent log slice, for what a call is lent
pub data Event : Type 0 where
  found : ℕ → List ℕ → ℕ → Event  -- server, plan, server number
  call : ℕ → OperationOf ℕ → ℕ → Event  -- server, operation, room
  recover : ℕ → List ℕ → Event  -- server, plan
  crash : ℕ → ℕ → Event  -- server, bytes kept
  outside : OutsideCall → Event  -- a call of a client or of the lease manager

-- ---- calls of a running server

-- what a call leaves: 0 or the refusal's number, the packet or image made (none is no bytes), state and log
pub record Left : Type 0 where
  pub number : ℕ
  pub made : List ℕ
  pub state : State
  pub log : Log

unfoldable pub longer : Log → Entry → Log
longer log e = record { number = log.number; entries = log.entries ++ (e ∷ []) }

-- a decision carried out
unfoldable pub settle : State → Log → Decided → Left
settle st log (refuse n) = record { number = n; made = []; state = st; log = log }
settle st log (deny n b) = record { number = n; made = b; state = st; log = log }
settle st log (reply b) = record { number = 0; made = b; state = st; log = log }
settle st log (append r) =
    let e : Entry = record { item = r; end = st.size + record_size r } in
    record { number = 0; made = []; state = apply st e; log = longer log e }
settle st log (marks m) = record { number = 0; made = []; state = with_mark m st; log = log }

-- 19 the log slice is shorter than its recorded length; else what the operation decides, by the state and the space left in the log
unfoldable pub call_of : State → Log → ℕ → (State → ℕ → Decided) → Left
call_of st log room d = settle st log (pick (ltb room st.size) (refuse unsound) (d st (room - st.size)))

-- a call; a server that is not running takes no call but found and recover
unfoldable pub calls : ℕ → ℕ → (State → ℕ → Decided) → Server → World → World
calls c room d nothing w = w
calls c room d (running st log) w =
    let a = call_of st log room d in
    making a.made (with_server c (running a.state a.log) w)
calls c room d (crashed log k mark) w = w

-- an operation with the packet or image that it names; none where that was not made
unfoldable pub calls_on : ℕ → ℕ → Option Operation → World → World
calls_on c room none w = w
calls_on c room (some o) w = calls c room (decision o) (w.servers c) w

-- ---- found, recover and crash

-- Found: none is 1, bad plan or server number
unfoldable pub found_of : List ℕ → ℕ → Option State
found_of plan n = pick (not (plan_ok plan) || ltb last_server n) none (some (founded (plan_of plan) n))

-- the state that a log gives, none for 14: a record cannot follow
unfoldable pub recovered_from : List ℕ → Log → Option State
recovered_from plan log = recovered (founded (plan_of plan) log.number) log.entries

-- Recover: none is 1, bad plan, or 14
unfoldable pub recover_of : List ℕ → Log → Option State
recover_of plan log = pick (not (plan_ok plan)) none (recovered_from plan log)

-- the log that a running server has, or that a crash kept
unfoldable pub kept_by : Server → Option Log
kept_by nothing = none
kept_by (running st log) = some log
kept_by (crashed log k mark) = some log

unfoldable pub founds : ℕ → ℕ → Option State → World → World
founds c n none w = w
founds c n (some st) w = with_server c (running st (record { number = n; entries = [] })) w

-- the mark is the end of the records
unfoldable pub recovers_to : ℕ → Log → Option State → World → World
recovers_to c log none w = w
recovers_to c log (some st) w = with_server c (running (with_mark st.size st) log) w

unfoldable pub recovers_from : ℕ → List ℕ → Option Log → World → World
recovers_from c plan none w = w
recovers_from c plan (some log) w = recovers_to c log (recover_of plan log) w

-- the records that end among the first k bytes
unfoldable pub cut_at : ℕ → Log → Log
cut_at k log = record { number = log.number; entries = keep (λ e. leb e.end k) log.entries }

unfoldable pub crash_at : ℕ → ℕ → Server → World → World
crash_at c k nothing w = w
crash_at c k (running st log) w = with_server c (crashed (cut_at k log) k st.mark) w
crash_at c k (crashed log n mark) w = with_server c (crashed (cut_at k log) k mark) w

-- ---- a run

unfoldable pub step : World → Event → World
step w (found c plan n) = founds c n (found_of plan n) w
step w (call c o room) = calls_on c room (handed (packet w) o) w
step w (recover c plan) = recovers_from c plan (kept_by (w.servers c)) w
step w (crash c k) = crash_at c k (w.servers c) w
step w (outside e) = outside_step w e

-- nothing founded or started, the lease manager at time 0 without leases
unfoldable pub empty_world : World
empty_world = record { servers = λ c. nothing; clients = λ x. none; manager = new_manager; made = [] }

unfoldable pub run_from : World → List Event → World
run_from w [] = w
run_from w (e ∷ es) = run_from (step w e) es

unfoldable pub run : List Event → World
run es = run_from empty_world es

-- the world after the first n events
unfoldable pub after : List Event → ℕ → World
after es n = run (take n es)
