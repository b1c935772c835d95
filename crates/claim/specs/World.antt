-- All parties, run over a schedule: servers (paper: cabinets) with their bytes, clients (desks), the lease manager (lease office),
-- and every packet and image made. Each event runs the definition that the call's contract cites, at a party that is there; a call at one that is not is none.
-- Assumes nothing.
use Rattle.std.specs.Prelude.{ℕ, ◌+◌, ◌-◌, List, [], ◌∷◌, ◌++◌, length, take, drop, eqb, Ok, Err}
use Rattle.std.proofs.Math.Option.{Option, none, some}
use Rattle.std.proofs.Math.ListN.{get_elem?}
use Rattle.model.specs.declared.Client.{Client}
use Rattle.model.specs.declared.LeaseManager.{LeaseManager}
use Rattle.model.specs.declared.StartAnswer.{StartAnswer}
use Rattle.model.specs.declared.SendAnswer.{SendAnswer}
use Rattle.model.specs.declared.LeaseAnswer.{LeaseAnswer}
use Rattle.model.specs.Choice.{pick}
use Rattle.model.specs.Versions.{Versions}
use Rattle.model.specs.States.{load}
use Rattle.model.specs.Operations.{After, answer_of, found_of, recover_of}
use Rattle.model.specs.Checkpoints.{checkpoint_of, recover_tail_of}
use Rattle.model.specs.Calls.{OperationOf, Operation, handed, operated, Inquiry, inquired}
use Rattle.model.specs.Limits.{head_size}
use Rattle.model.specs.Clients.{start_of, issue_of, resend_of, receive_of, sent_bytes}
use Rattle.model.specs.Leases.{new_manager, open_of, renew_of, query_of, told_bytes}
use Rattle.model.specs.Refusals.{no_refusal}

-- ---- parties

-- beside its log a server has in force: the latest checkpoint that the host stored, empty as long as there was none; and the number of bytes of log
-- records that stored checkpoints took the place of
pub record Stored : Type 0 where
  pub checkpoint : List ℕ
  pub replaced : ℕ

abbrev pub nothing_stored : Stored
nothing_stored = record { checkpoint = []; replaced = 0 }

-- `running k state log`: the whole state buffer, and the log up to its recorded length; it is the tail of k's checkpoint, if there is one.
-- `storing k log next state tail`: a checkpoint was made and is not yet stored. In force are k and the log; with the store come next, and the
-- state and the tail that the call left. `crashed k kept mark`: no state, the bytes that a crash kept, and the sync mark of the time before it
pub data Server : Type 0 where
  nothing : Server
  running : Stored → List ℕ → List ℕ → Server
  storing : Stored → List ℕ → Stored → List ℕ → List ℕ → Server
  crashed : Stored → List ℕ → ℕ → Server

-- a world whose servers are of type S: here bytes, in RecordWorld states and log records
pub record WorldOf (S : Type 0) : Type 0 where
  pub servers : ℕ → S
  pub clients : ℕ → Option Client  -- by client number
  pub manager : LeaseManager
  pub made : List (List ℕ)  -- packets and images, in the order made

abbrev pub World : Type 0
World = WorldOf Server

-- ---- events. A packet or image is named by its number among those made, from 0

-- a call outside the servers, of a client (paper: desk) or of the lease manager (paper: lease office): the same in both worlds
pub data OutsideCall : Type 0 where
  start : ℕ → OutsideCall  -- packet
  issue : ℕ → ℕ → ℕ → ℕ → OutsideCall  -- client, op, point, argument
  resend : ℕ → ℕ → OutsideCall  -- client, call
  receive : ℕ → ℕ → OutsideCall  -- client, packet
  open·lease : ℕ → ℕ → OutsideCall  -- time, span
  renew : ℕ → ℕ → ℕ → OutsideCall  -- client, time, span
  query : ℕ → ℕ → OutsideCall  -- client, time

-- what a call of a server is lent: the first `state` bytes of the state buffer; the first `log` bytes of the log followed by
-- `spare` (bytes past the recorded length are free); an output of any length and content. Fewer bytes than are due give 2 or 19
pub record Lent : Type 0 where
  pub state : ℕ
  pub log : ℕ
  pub spare : List ℕ
  pub out : List ℕ

-- the twenty-one calls, with their arguments, the storing of a checkpoint, and crashes
pub data Event : Type 0 where
  found : ℕ → List ℕ → List ℕ → List ℕ → ℕ → Event  -- server, state and log buffers, plan, server number
  call : ℕ → OperationOf ℕ → Lent → Event  -- server, one of nine operations; request, fetch and image carry the versions of the program, any at any event and server
  inquire : ℕ → Inquiry → Lent → Event  -- server, inspect
  recover : ℕ → List ℕ → List ℕ → List ℕ → Event  -- server, state buffer, kept log, plan
  checkpoint : ℕ → Versions → List ℕ → Lent → Event  -- server, the versions that its program writes by, buffer of the tail's head; the output is the checkpoint's buffer
  store : ℕ → Event  -- server: the host has stored its checkpoint with the tail's head
  recover·tail : ℕ → List ℕ → List ℕ → List ℕ → Event  -- server, state buffer, checkpoint, kept tail
  crash : ℕ → ℕ → Event  -- server, bytes kept
  outside : OutsideCall → Event  -- a call of a client or of the lease manager

-- ---- changes of one part

unfoldable pub with_server : {S : Type 0} → ℕ → S → WorldOf S → WorldOf S
with_server c s w = record { servers = λ d. pick (eqb d c) s (w.servers d); clients = w.clients; manager = w.manager; made = w.made }

unfoldable pub with_client : {S : Type 0} → ℕ → Client → WorldOf S → WorldOf S
with_client x d w = record { servers = w.servers; clients = λ y. pick (eqb y x) (some d) (w.clients y); manager = w.manager; made = w.made }

unfoldable pub with_manager : {S : Type 0} → LeaseManager → WorldOf S → WorldOf S
with_manager m w = record { servers = w.servers; clients = w.clients; manager = m; made = w.made }

-- a packet or image is made; no bytes are none
unfoldable pub making : {S : Type 0} → List ℕ → WorldOf S → WorldOf S
making [] w = w
making (b ∷ bs) w = record { servers = w.servers; clients = w.clients; manager = w.manager; made = w.made ++ ((b ∷ bs) ∷ []) }

-- ---- servers

-- the slices that a call is lent
unfoldable pub lent_state : Lent → List ℕ → List ℕ
lent_state l state = take l.state state

unfoldable pub lent_log : Lent → List ℕ → List ℕ
lent_log l log = take l.log (log ++ l.spare)

-- the whole buffers once the lent parts have come back; the log up to its recorded length
unfoldable pub state_back : Lent → List ℕ → After → List ℕ
state_back l state a = a.state ++ drop l.state state

unfoldable pub log_back : Lent → List ℕ → List ℕ → After → List ℕ
log_back l state log a = take (load (state_back l state a)).size (a.log ++ drop l.log (log ++ l.spare))

-- a call of a running server: its buffers, and what it made. A server that is not running takes no call but found and the two recoveries: "until the
-- checkpoint is stored .. the host calls nothing else"
unfoldable pub calls : ℕ → Lent → (List ℕ → List ℕ → After) → Server → World → World
calls c l f nothing w = w
calls c l f (running k state log) w =
    let a = f (lent_state l state) (lent_log l log) in
    making (take a.answer.wrote a.out) (with_server c (running k (state_back l state a) (log_back l state log a)) w)
calls c l f (storing k log next state tail) w = w
calls c l f (crashed k kept mark) w = w

-- an operation with the packet or image that it names; none where that was not made
unfoldable pub calls_on : ℕ → Lent → Option Operation → World → World
calls_on c l none w = w
calls_on c l (some o) w = calls c l (λ s g. operated o s g l.out) (w.servers c) w

-- what an inquiry leaves, with its answer's number: what it was lent, and it makes nothing
unfoldable pub looked : ℕ → List ℕ → List ℕ → List ℕ → After
looked n state log out = record { answer = answer_of n 0; state = state; log = log; out = out }

-- what is in force
unfoldable pub stored_of : Server → Stored
stored_of nothing = nothing_stored
stored_of (running k state log) = k
stored_of (storing k log next state tail) = k
stored_of (crashed k kept mark) = k

-- found and the two recoveries: on success the server runs with what they wrote and what is in force; a refusal leaves it as it was
unfoldable pub found_as : ℕ → Stored → After → World → World
found_as c k a w = pick (eqb a.answer.refusal no_refusal) (with_server c (running k a.state (take (load a.state).size a.log)) w) w

-- a checkpoint made: it replaces the log's records, once it is stored. A refusal leaves the server as it was
unfoldable pub checkpoints : ℕ → Versions → List ℕ → Lent → Server → World → World
checkpoints c v tail l nothing w = w
checkpoints c v tail l (running k state log) w =
    let a = checkpoint_of v (lent_state l state) (lent_log l log) l.out tail in
    let next : Stored = record { checkpoint = take a.answer.wrote a.checkpoint; replaced = k.replaced + (length log - head_size) } in
    pick (eqb a.answer.refusal no_refusal) (with_server c (storing k log next (a.state ++ drop l.state state) (take head_size a.tail)) w) w
checkpoints c v tail l (storing k log next state t) w = w
checkpoints c v tail l (crashed k kept mark) w = w

unfoldable pub stores : ℕ → Server → World → World
stores c nothing w = w
stores c (running k state log) w = w
stores c (storing k log next state tail) w = with_server c (running next state tail) w
stores c (crashed k kept mark) w = w

-- a crash leaves no state, what is in force, and the log's first n bytes; a checkpoint that is not stored yet is lost, and its log was synced whole
unfoldable pub crash_at : ℕ → ℕ → Server → World → World
crash_at c n nothing w = w
crash_at c n (running k state log) w = with_server c (crashed k (take n log) (load state).mark) w
crash_at c n (storing k log next state tail) w = with_server c (crashed k (take n log) (length log)) w
crash_at c n (crashed k kept mark) w = with_server c (crashed k (take n kept) mark) w

-- ---- clients

unfoldable pub starts_as : {S : Type 0} → StartAnswer → WorldOf S → WorldOf S
starts_as a w = elim a.answer [ Err e ↦ w | Ok tt ↦ with_client a.client.client a.client w ]

unfoldable pub starts_on : {S : Type 0} → Option (List ℕ) → WorldOf S → WorldOf S
starts_on none w = w
starts_on (some b) w = starts_as (start_of b) w

unfoldable pub sends : {S : Type 0} → ℕ → (Client → SendAnswer) → Option Client → WorldOf S → WorldOf S
sends x f none w = w
sends x f (some d) w = making (sent_bytes (f d).answer) (with_client x (f d).client w)

unfoldable pub receives : {S : Type 0} → ℕ → Option Client → Option (List ℕ) → WorldOf S → WorldOf S
receives x none p w = w
receives x (some d) none w = w
receives x (some d) (some b) w = with_client x (receive_of d b).client w

-- ---- the lease manager

unfoldable pub told : {S : Type 0} → LeaseAnswer → WorldOf S → WorldOf S
told a w = making (told_bytes a.answer) (with_manager a.manager w)

-- ---- a run

-- a packet or image made
unfoldable pub packet : {S : Type 0} → WorldOf S → ℕ → Option (List ℕ)
packet w n = get_elem? w.made n

-- a call of a client or of the lease manager, in any world
unfoldable pub outside_step : {S : Type 0} → WorldOf S → OutsideCall → WorldOf S
outside_step w (start p) = starts_on (packet w p) w
outside_step w (issue x op p a) = sends x (λ d. issue_of d op p a) (w.clients x) w
outside_step w (resend x c) = sends x (λ d. resend_of d c) (w.clients x) w
outside_step w (receive x p) = receives x (w.clients x) (packet w p) w
outside_step w (open·lease t span) = told (open_of w.manager t span) w
outside_step w (renew x t span) = told (renew_of w.manager x t span) w
outside_step w (query x t) = told (query_of w.manager x t) w

unfoldable pub step : World → Event → World
step w (found c state log plan n) = found_as c nothing_stored (found_of state log plan n) w
step w (call c o l) = calls_on c l (handed (packet w) o) w
step w (inquire c i l) = calls c l (λ s g. looked (inquired i s g l.out) s g l.out) (w.servers c) w
step w (recover c state log plan) = found_as c (stored_of (w.servers c)) (recover_of state log plan) w
step w (checkpoint c v tail l) = checkpoints c v tail l (w.servers c) w
step w (store c) = stores c (w.servers c) w
step w (recover·tail c state k tail) = found_as c (stored_of (w.servers c)) (recover_tail_of state k tail) w
step w (crash c k) = crash_at c k (w.servers c) w
step w (outside e) = outside_step w e

-- nothing founded or started, the lease manager at time 0 without leases
unfoldable pub empty_world : World
empty_world = record { servers = λ c. nothing; clients = λ x. none; manager = new_manager; made = [] }

unfoldable pub run_from : World → List Event → World
run_from w [] = w
run_from w (e ∷ es) = run_from (step w e) es

unfoldable pub run : List Event → World
run es = run_from empty_world es

-- the world after the first n events
unfoldable pub after : List Event → ℕ → World
after es n = run (take n es)
