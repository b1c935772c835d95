-- When a world of states and log records is the byte world. Over records a server has its whole log since the founding and no checkpoint; over bytes it
-- has the tail of its last stored checkpoint, and places of the log are counted from there.
-- Assumes nothing.
use Rattle.std.specs.Prelude.{ℕ, ◌+◌, ◌≤◌, ◌≡◌, Bool, true, List, [], ◌++◌, ◌↔◌, length, take}
use Rattle.std.proofs.Math.Option.{Option, none, some}
use Rattle.model.specs.Choice.{refuse, deny, reply, append, marks}
use Rattle.model.specs.Limits.{head_size}
use Rattle.model.specs.Plan.{plan_ok, plan_of}
use Rattle.model.specs.Logs.{Entry}
use Rattle.model.specs.States.{State, load}
use Rattle.model.specs.Decisions.{Decided}
use Rattle.model.specs.Apply.{founded}
use Rattle.model.specs.Operations.{After, answer_of, recovered}
use Rattle.model.specs.Checkpoints.{rebased, checkpoint_bytes}
use Rattle.model.specs.Refusals.{no_refusal}
use Rattle.model_laws.specs.Bytes.{Bytes, All}
use Rattle.model_laws.proofs.Checkpoints.{Timely}
use Rattle.model_invariants.specs.Sound.{Sound}
use Rattle.model.specs.Calls.{OperationOf, request, fetch, sync, notice, give, image, take_in, receipt, release}
use Rattle.model_invariants.specs.Placed.{seen_from, later}
use Rattle.safety.specs.Holds.{Holds, Kept}
use Rattle.claim.specs.World as B
use Rattle.claim.specs.RecordWorld as R
use Rattle.safety.specs.Parties.{Parties}

-- ---- a server by its own log

-- the buffers hold the state st and the records of log, which starts from `start`
pub record LocalAlike (start st : State) (log : R.Log) (state bytes : List ℕ) : Type 0 where
  pub holds : Holds start log.entries state bytes
  pub loads : load state ≡ st

-- ---- a server by its whole log

-- what is in force gives the state that the log starts from: the founding, or the checkpoint of a state in a form that holds its times
pub data InForce (plan : List ℕ) (c : ℕ) (start : State) : List ℕ → Type 0 where
  first : start ≡ founded (plan_of plan) c → InForce plan c start []
  stored : (timed : Bool) {made : State} → Sound made → Timely timed made → start ≡ rebased made → InForce plan c start (checkpoint_bytes timed made)

-- the whole log is what checkpoints replaced and the records es of its tail, which starts from `start`
pub record Continues (plan : List ℕ) (c : ℕ) (k : B.Stored) (log : R.Log) (start : State) (es : List Entry) : Type 0 where
  pub planned : plan_ok plan ≡ true
  pub number : log.number ≡ c
  pub before : List Entry
  pub entries : log.entries ≡ before ++ later k.replaced es
  pub early : All (λ (e : Entry). e.end ≤ k.replaced + head_size) before
  pub base : State
  pub replays : recovered (founded (plan_of plan) c) before ≡ some base
  pub size : base.size ≡ k.replaced + head_size
  pub begins : start ≡ seen_from k.replaced base
  pub gives : InForce plan c start k.checkpoint

-- a running server: the buffers hold its state, and the records of its tail
pub record RunningAlike (plan : List ℕ) (c : ℕ) (st : State) (log : R.Log) (k : B.Stored) (state bytes : List ℕ) : Type 0 where
  pub start : State
  pub tail : List Entry
  pub continues : Continues plan c k log start tail
  pub holds : Holds start tail state bytes
  pub loads : load state ≡ seen_from k.replaced st
  pub past : k.replaced + head_size ≤ st.mark
  pub mark : st.mark ≤ st.size

-- a crashed one: the bytes kept are records of its tail and a part of one more, `size` in all since the founding
pub record CrashedAlike (plan : List ℕ) (c : ℕ) (log : R.Log) (size mark : ℕ) (k : B.Stored) (kept : List ℕ) (keptMark : ℕ) : Type 0 where
  pub start : State
  pub tail : List Entry
  pub continues : Continues plan c k log start tail
  pub keeps : Kept start tail kept keptMark
  pub reaches : k.replaced + length kept ≡ size
  pub marked : k.replaced + keptMark ≡ mark

-- one that stores a checkpoint runs on over records: by what is in force and, all synced, by what is to come
pub data ServerAlike (plan : List ℕ) (c : ℕ) : R.Server → B.Server → Type 0 where
  nothing : ServerAlike plan c R.nothing B.nothing
  running : {st : State} {log : R.Log} {k : B.Stored} {state bytes : List ℕ} → RunningAlike plan c st log k state bytes → ServerAlike plan c (R.running st log) (B.running k state bytes)
  storing : {st : State} {log : R.Log} {k next : B.Stored} {old bytes state tail : List ℕ} → RunningAlike plan c st log k old bytes → st.mark ≡ st.size
      → RunningAlike plan c st log next state tail → ServerAlike plan c (R.running st log) (B.storing k bytes next state tail)
  crashed : {log : R.Log} {size mark : ℕ} {k : B.Stored} {kept : List ℕ} {keptMark : ℕ} → CrashedAlike plan c log size mark k kept keptMark
      → ServerAlike plan c (R.crashed log size mark) (B.crashed k kept keptMark)

pub record WorldAlike (plan : List ℕ) (r : R.World) (b : B.World) : Type 0 where
  pub servers : (c : ℕ) → ServerAlike plan c (r.servers c) (b.servers c)
  pub clients : r.clients ≡ b.clients
  pub manager : r.manager ≡ b.manager
  pub made : r.made ≡ b.made

-- alike, with clients, lease manager and packets in order
pub record Both (plan : List ℕ) (r : R.World) (b : B.World) : Type 0 where
  pub alike : WorldAlike plan r b
  pub parties : Parties r

-- ---- calls of a running server

-- what a call leaves over bytes, and over records by the server's own log; where it lacks memory the numbers differ (2 over bytes, 19 over records)
pub record LeftAlike (start : State) (t : B.Lent) (state bytes : List ℕ) (a : After) (x : R.Left) : Type 0 where
  pub answer : (a.answer ≡ answer_of no_refusal 0) ↔ ((x.number ≡ 0) × (x.made ≡ []))
  pub made : take a.answer.wrote a.out ≡ x.made
  pub server : LocalAlike start x.state x.log (B.state_back t state a) (B.log_back t state bytes a)

-- an operation as the whole log has it: a mark is counted from the founding
unfoldable pub whole : {P : Type 0} → ℕ → OperationOf P → OperationOf P
whole b (request v packet) = request v packet
whole b (fetch v client call) = fetch v client call
whole b (sync mark) = sync (b + mark)
whole b (notice packet) = notice packet
whole b (give point destination) = give point destination
whole b (image v point) = image v point
whole b (take_in img) = take_in img
whole b (receipt point) = receipt point
whole b (release packet) = release packet

-- what a call leaves by the server's own log (x) and by the whole log (y) of server n
pub record LeftSeen (b : ℕ) (before : List Entry) (n : ℕ) (x y : R.Left) : Type 0 where
  pub number : x.number ≡ y.number
  pub made : x.made ≡ y.made
  pub state : x.state ≡ seen_from b y.state
  pub log : y.log.number ≡ n
  pub entries : y.log.entries ≡ before ++ later b x.log.entries
  pub past : b + head_size ≤ y.state.mark
  pub mark : y.state.mark ≤ y.state.size

-- what is made is bytes, and no more than are asked of the output
abbrev pub Made : ℕ → Decided → Type 0
Made need (refuse n) = Unit
Made need (deny n b) = Bytes b × (length b ≤ need)
Made need (reply b) = Bytes b × (length b ≤ need)
Made need (append r) = Unit
Made need (marks m) = Unit

-- ---- what is read of a server

-- the same state, or none, but for places of the log
pub data Shown : Option State → Option State → Type 0 where
  neither : Shown none none
  both : (b : ℕ) (st : State) → Shown (some (seen_from b st)) (some st)
