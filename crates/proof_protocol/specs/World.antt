-- The abstract world: servers by number, clients by client number, the lease manager, the packets and images made; the kinds of change; a run.
-- Clients and the lease manager are `model`'s own.
-- Assumes nothing.
use Rattle.std.specs.Prelude.{ℕ, suc, Bool, true, false, List, [], ◌∷◌, ◌++◌, eqb, drop, replicate}
use Rattle.std.proofs.Math.Option.{Option, none, some}
use Rattle.model.specs.declared.Command.{Command}
use Rattle.model.specs.declared.Request.{Request}
use Rattle.model.specs.declared.Client.{Client}
use Rattle.model.specs.declared.LeaseManager.{LeaseManager}
use Rattle.model.specs.Choice.{pick}
use Rattle.model.specs.Limits.{call_window}
use Rattle.model.specs.Clients.{no_call, call_at, closed, with_lease, request_for, new_call, with_call}
use Rattle.model.specs.Leases.{new_manager}
use Rattle.proof_protocol.specs.Servers.{Plan, Id, Result, LogRecord, Entry, State, replay, Packet, Asked}
use Rattle.proof_protocol.specs.Servers as S

-- ---- parties

-- a server is its log and how many of its records are synced; its state is the log's replay
pub record Server : Type 0 where
  pub founded : Bool
  pub log : List Entry
  pub mark : ℕ

-- what clients saw
pub data Seen : Type 0 where
  issued : Command → Seen
  received : Command → Result → Seen

pub record World : Type 0 where
  pub servers : ℕ → Server
  pub clients : ℕ → Option Client
  pub manager : LeaseManager
  pub made : List Packet  -- packets and images, the newest first
  pub seen : List Seen
  pub clock : ℕ  -- events so far

unfoldable pub state_of : Plan → World → ℕ → State
state_of plan w c = replay plan c (w.servers c).log

-- ---- kinds of change

pub data ServerChange : Type 0 where
  founds : ServerChange
  writes : LogRecord → ℕ → ServerChange  -- a record is logged, of so many bytes
  syncs : ℕ → ServerChange  -- the new mark, in records
  crashes : ℕ → ServerChange  -- records lost

-- with the client's state before
pub data ClientChange : Type 0 where
  starts : ℕ → ClientChange  -- lease end
  issues : Client → ℕ → ℕ → ℕ → ClientChange  -- op, point, argument
  resends : Client → ℕ → ClientChange  -- call
  receives : Client → Id → ℕ → Result → ClientChange  -- a result: id, point
  relets : Client → ℕ → ClientChange  -- a new lease end

-- one for each event; `same` where nothing of this world changes
pub data Change : Type 0 where
  same : Change
  server : ℕ → ServerChange → Change
  tells : ℕ → Packet → Change  -- server c makes a packet or image
  client : ℕ → ClientChange → Change
  leases : LeaseManager → Packet → Change  -- the lease manager after it, and what it makes

-- ---- what a change leaves

-- event t
unfoldable pub server_after : ℕ → Server → ServerChange → Server
server_after t x founds = record { founded = true; log = []; mark = 0 }
server_after t x (writes r n) = record { founded = x.founded; log = record { item = r; at = t; bytes = n } ∷ x.log; mark = x.mark }
server_after t x (syncs m) = record { founded = x.founded; log = x.log; mark = m }
server_after t x (crashes j) = record { founded = x.founded; log = drop j x.log; mark = x.mark }

-- the command of an open call
unfoldable pub command_at : Client → ℕ → Command
command_at d c =
    let k = call_at d c in
    record { client = d.client; call = k.call; op = k.op; point = k.point; argument = k.argument }

-- what a request packet asks
unfoldable pub asked_in : Request → Asked
asked_in q = record { cmd = q.command; done = q.done; lease = q.lease }

abbrev pub new_client : ℕ → ℕ → Client
new_client x t = record { client = x; lease = t; next = 1; calls = replicate call_window no_call }

-- the request of an issued call
abbrev pub issued_by : Client → ℕ → ℕ → ℕ → Request
issued_by d o p a = request_for (with_call d (new_call d o p a)) (new_call d o p a)

unfoldable pub client_after : ℕ → ClientChange → Client
client_after x (starts t) = new_client x t
client_after x (issues d o p a) = with_call d (new_call d o p a)
client_after x (resends d k) = d
client_after x (receives d i p r) = closed d i.call
client_after x (relets d t) = with_lease d t

unfoldable pub made_by : ClientChange → List Packet
made_by (starts t) = []
made_by (issues d o p a) = S.request (asked_in (issued_by d o p a)) ∷ []
made_by (resends d k) = S.request (asked_in (request_for d (call_at d k))) ∷ []
made_by (receives d i p r) = []
made_by (relets d t) = []

unfoldable pub seen_by : ClientChange → List Seen
seen_by (starts t) = []
seen_by (issues d o p a) = issued (issued_by d o p a).command ∷ []
seen_by (resends d k) = []
seen_by (receives d i p r) = received (command_at d i.call) r ∷ []
seen_by (relets d t) = []

unfoldable pub step : World → Change → World
step w same =
    record { servers = w.servers; clients = w.clients; manager = w.manager; made = w.made; seen = w.seen; clock = suc w.clock }
step w (server c s) =
    record {
      servers = λ d. pick (eqb d c) (server_after w.clock (w.servers c) s) (w.servers d);
      clients = w.clients;
      manager = w.manager;
      made = w.made;
      seen = w.seen;
      clock = suc w.clock;
    }
step w (tells c p) =
    record { servers = w.servers; clients = w.clients; manager = w.manager; made = p ∷ w.made; seen = w.seen; clock = suc w.clock }
step w (client x k) =
    record {
      servers = w.servers;
      clients = λ y. pick (eqb y x) (some (client_after x k)) (w.clients y);
      manager = w.manager;
      made = made_by k ++ w.made;
      seen = seen_by k ++ w.seen;
      clock = suc w.clock;
    }
step w (leases m p) =
    record { servers = w.servers; clients = w.clients; manager = m; made = p ∷ w.made; seen = w.seen; clock = suc w.clock }

-- nothing founded or started, the lease manager at time 0 without leases
unfoldable pub empty_world : World
empty_world =
    record {
      servers = λ c. record { founded = false; log = []; mark = 0 };
      clients = λ x. none;
      manager = new_manager;
      made = [];
      seen = [];
      clock = 0;
    }

unfoldable pub run_from : World → List Change → World
run_from w [] = w
run_from w (c ∷ cs) = run_from (step w c) cs

unfoldable pub run : List Change → World
run cs = run_from empty_world cs
