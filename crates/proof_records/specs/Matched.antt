-- The provisos at one event; what an event over records and the change that follows it have to do with each other, as demand 3 reads them; a
-- schedule over records, followed event by event by a run of the protocol.
-- Assumes nothing.
use Rattle.std.specs.Prelude.{ℕ, ◌≤◌, ◌+◌, suc, ◌≡◌, List, [], ◌∷◌, take, Ok, Some}
use Rattle.std.proofs.Math.Option.{none, some}
use Rattle.model.specs.States.{State}
use Rattle.model.specs.Clients.{issue_of, receive_of}
use Rattle.claim.specs.World.{start, issue, resend, receive, open·lease, renew, query, packet}
use Rattle.claim.specs.RecordWorld.{World, Event, Log, kept_by, call_of, step, run_from}
use Rattle.claim.specs.RecordWorld as R
use Rattle.std.proofs.Math.ListN.{get_elem?}
use Rattle.model.specs.Versions.{Versions}
use Rattle.model.specs.declared.PlanEntry.{PlanEntry}
use Rattle.model.specs.declared.Client.{Client}
use Rattle.model.specs.declared.Request.{Request}
use Rattle.model.specs.declared.ResultPacket.{ResultPacket}
use Rattle.model.specs.declared.Packet.TheVariants.{Requested}
use Rattle.model.specs.declared.Received.TheVariants.{Completed}
use Rattle.model.specs.Limits.{head_size}
use Rattle.model.specs.Packets.{parse_packet}
use Rattle.model.specs.Decisions.{time_for}
use Rattle.model.specs.Calls.{Operation, request, decision}
use Rattle.proof_protocol.specs.Servers as S
use Rattle.proof_protocol.specs.World as W
use Rattle.proof_protocol.specs.Allowed.{Allowed}
use Rattle.proof_protocol.proofs.Logs.{Tail}
use Rattle.proof_records.specs.Likeness.{result_of}
use Rattle.proof_records.specs.Worlds.{Running, WorldLike}

-- ---- the bytes of the protocol's log

unfoldable pub bytes_in : List S.Entry → ℕ
bytes_in [] = head_size
bytes_in (e ∷ es) = bytes_in es + e.bytes

-- of the log before, what ends within the b bytes kept stays, and no more
pub record Cut (v v' : W.World) (c b : ℕ) : Type 0 where
  pub stays : (t : List S.Entry) → Tail t (v.servers c).log → bytes_in t ≤ b → Tail t (v'.servers c).log
  pub most : bytes_in (v'.servers c).log ≤ b

-- ---- what a call writes

abbrev pub NoExecution : S.LogRecord → Type 0
NoExecution (S.executed v k d r) = ⊥
NoExecution (S.gone x t) = Unit {0}
NoExecution (S.gave p d m) = Unit {0}
NoExecution (S.took a) = Unit {0}
NoExecution (S.freed p m) = Unit {0}

-- on the state st a request writes the execution of its command by its program's version, with the time of execution, and no other call writes
-- an execution
pub data Source (st : State) (o : Operation) (a : S.LogRecord) : Type 0 where
  execution : (v : Versions) (b : List ℕ) (q : Request) (r : S.Result) → o ≡ request v b → parse_packet b ≡ Some (Requested q) → r.time ≡ time_for v st
      → a ≡ S.executed (v.rule q.command.op) q.command q.done r → Source st o a
  no_execution : ((v : Versions) (b : List ℕ) → o ≡ request v b → ⊥) → NoExecution a → Source st o a

-- ---- events

-- neither number nor packet
pub record Executed (w : World) (c p : ℕ) (v : Versions) (room : ℕ) (q : Request) : Type 0 where
  pub state : State
  pub log : Log
  pub up : Running (w.servers c) state log
  pub bytes : List ℕ
  pub delivered : packet w p ≡ some bytes
  pub no_number : (call_of state log room (decision (request v bytes))).number ≡ 0
  pub no_packet : (call_of state log room (decision (request v bytes))).made ≡ []
  pub parsed : parse_packet bytes ≡ Some (Requested q)

-- a client's change that issues nothing
abbrev pub NoIssue : W.ClientChange → Type 0
NoIssue (W.starts t) = Unit {0}
NoIssue (W.issues d op p a) = ⊥
NoIssue (W.resends d c) = Unit {0}
NoIssue (W.receives d i p r) = Unit {0}
NoIssue (W.relets d t) = Unit {0}

-- a change that demand 3 does not read
abbrev pub Plain : W.Change → Type 0
Plain W.same = Unit {0}
Plain (W.server c W.founds) = Unit {0}
Plain (W.server c (W.writes a n)) = NoExecution a
Plain (W.server c (W.syncs m)) = Unit {0}
Plain (W.server c (W.crashes j)) = ⊥
Plain (W.tells c p) = Unit {0}
Plain (W.client x k) = NoIssue k
Plain (W.leases m p) = Unit {0}

-- an event that demand 3 does not read: a request that executes nothing, an issue or a receive refused, a crash of nothing
unfoldable pub Quiet : World → Event → Type 0
Quiet w (R.found c p k) = Unit
Quiet w (R.call c o room) = (p : ℕ) (v : Versions) (q : Request) → o ≡ request v p → Executed w c p v room q → ⊥
Quiet w (R.recover c p) = Unit
Quiet w (R.crash c k) = kept_by (w.servers c) ≡ none
Quiet w (R.outside (start p)) = Unit
Quiet w (R.outside (issue x op p a)) = (d : Client) (q : Request) → w.clients x ≡ some d → (issue_of d op p a).answer ≡ Ok q → ⊥
Quiet w (R.outside (resend x c)) = Unit
Quiet w (R.outside (receive x p)) = (d : Client) (b : List ℕ) (r : ResultPacket) → w.clients x ≡ some d → packet w p ≡ some b → (receive_of d b).answer ≡ Ok (Completed r) → ⊥
Quiet w (R.outside (open·lease t span)) = Unit
Quiet w (R.outside (renew x t span)) = Unit
Quiet w (R.outside (query x t)) = Unit

pub data Matched (w : World) (v v' : W.World) : Event → W.Change → Type 0 where
  executed : (c p : ℕ) (vs : Versions) (room : ℕ) (q : Request) (r : S.Result) (n : ℕ) (x : Executed w c p vs room q) → r.time ≡ time_for vs x.state
      → Matched w v v' (R.call c (request vs p) room) (W.server c (W.writes (S.executed (vs.rule q.command.op) q.command q.done r) n))
  cut : (c b j : ℕ) → Cut v v' c b → Matched w v v' (R.crash c b) (W.server c (W.crashes j))
  issued : (x op p a : ℕ) (d : Client) (q : Request) → w.clients x ≡ some d → (issue_of d op p a).answer ≡ Ok q
      → Matched w v v' (R.outside (issue x op p a)) (W.client x (W.issues d op p a))
  received : (x p : ℕ) (d : Client) (b : List ℕ) (r : ResultPacket) → w.clients x ≡ some d → packet w p ≡ some b → (receive_of d b).answer ≡ Ok (Completed r)
      → Matched w v v' (R.outside (receive x p)) (W.client x (W.receives d (record { client = r.client; call = r.call }) r.point (result_of r.result)))
  other : (e : Event) (a : W.Change) → Quiet w e → Plain a → Matched w v v' e a

-- the event e, followed by a change that may happen
pub record Stepped (plan : List PlanEntry) (w : World) (v : W.World) (e : Event) : Type 0 where
  pub change : W.Change
  pub allowed : Allowed plan v change
  pub like : WorldLike plan (step w e) (W.step v change)
  pub matched : Matched w v (W.step v change) e change

-- the worlds before, the events left
pub data Follows (plan : List PlanEntry) : World → W.World → List Event → List W.Change → Type 0 where
  done : {w : World} {v : W.World} → WorldLike plan w v → Follows plan w v [] []
  more : {w : World} {v : W.World} {e : Event} {a : W.Change} {es : List Event} {cs : List W.Change} → WorldLike plan w v → Allowed plan v a → Matched w v (W.step v a) e a
      → Follows plan (step w e) (W.step v a) es cs → Follows plan w v (e ∷ es) (a ∷ cs)

-- event n and change n
pub record Pairing (w : World) (v : W.World) (es : List Event) (cs : List W.Change) (n : ℕ) (e : Event) (a : W.Change) : Type 0 where
  pub here : get_elem? es n ≡ some e
  pub there : get_elem? cs n ≡ some a
  pub matched : Matched (run_from w (take n es)) (W.run_from v (take n cs)) (W.run_from v (take (suc n) cs)) e a
