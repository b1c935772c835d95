-- Demand 3: after every schedule there is one order of all surviving commands, each once, that explains every result and every
-- final value, in real-time order.
-- Assumes nothing.
use Rattle.std.specs.Prelude.{ℕ, suc, ◌+◌, ◌≤◌, ◌<◌, ◌≡◌, ◌↔◌, Ok, Some}
use mathlib.Core.List.{List, [], ◌∷◌, Memᴰ}
use Rattle.std.proofs.Math.Option.{Option, none, some}
use Rattle.model.specs.declared.Reading.{Reading}
use Rattle.model.specs.declared.Command.{Command}
use Rattle.model.specs.declared.Request.{Request}
use Rattle.model.specs.declared.ResultPacket.{ResultPacket}
use Rattle.model.specs.declared.Point.{Point}
use Rattle.model.specs.declared.Client.{Client}
use Rattle.model.specs.declared.Packet.TheVariants.{Requested, Resulted}
use Rattle.model.specs.declared.Received.TheVariants.{Completed}
use Rattle.model.specs.Limits.{point_count}
use Rattle.model.specs.Plan.{plan_of, entry_at}
use Rattle.model.specs.Versions.{Versions}
use Rattle.model.specs.Sequential.{Marked, marked_by, OrderEntry, parts, commands, EntryResult, one, reading_meant, result_meant, opened, values_after, Answers}
use Rattle.model.specs.Packets.{parse_packet}
use Rattle.model.specs.States.{State, load, point_at}
use Rattle.model.specs.Decisions.{time_for}
use Rattle.model.specs.Operations.{answer_of, request_of, recovered_state}
use Rattle.model.specs.Calls.{request}
use Rattle.model.specs.Checkpoints.{recovered_tail}
use Rattle.model.specs.Clients.{call_at, issue_of, receive_of}
use Rattle.model.specs.Refusals.{no_refusal}
use Rattle.claim.specs.World.{OutsideCall, issue, receive, Event, call, crash, outside}
use Rattle.claim.specs.World.{Lent, WorldOf, Stored, Server, nothing, running, storing, crashed, stored_of, run, after, packet, lent_state, lent_log}
use Rattle.claim.specs.Provisos.{Provisos, At, reach_of}

abbrev pub ◌∈◌ {ℓ} : {A : Type ℓ} → A → List A → Type ℓ
◌∈◌ a l = Memᴰ a l

infix 20 ◌∈◌
-- no id stands in two entries
pub data Once : List OrderEntry → Type 0 where
  none_left : Once []
  one_more : {e : OrderEntry} {es : List OrderEntry}
      → ((o : OrderEntry) (k m : Marked) → o ∈ es → k ∈ parts o → m ∈ parts e → k.command.client ≡ m.command.client → k.command.call ≡ m.command.call → ⊥)
      → Once es → Once (e ∷ es)

-- a stands before b
pub data Before {A : Type 0} (a b : A) : List A → Type 0 where
  first : {es : List A} → b ∈ es → Before a b (a ∷ es)
  later : {e : A} {es : List A} → Before a b es → Before a b (e ∷ es)

-- the command of an open call
unfoldable pub command_at : Client → ℕ → Command
command_at d c =
    let k = call_at d c in
    record { client = d.client; call = k.call; op = k.op; point = k.point; argument = k.argument }

unfoldable pub reading_at : Point → Reading
reading_at x = record { value = x.value; quality = x.quality }

-- ---- demand 3 of any run: servers of type S, `world n` is the world after n events, and `Is n e`: event n is the call e

module _ {S : Type 0} (world : ℕ → WorldOf S) (Is : ℕ → OutsideCall → Type 0) where
  -- "An Issue not refused issues a command": event n issues ks, one command
  pub record IssuesBy (n : ℕ) (ks : List Command) : Type 0 where
    pub client : ℕ
    pub op : ℕ
    pub point : ℕ
    pub argument : ℕ
    pub event : Is n (issue client op point argument)
    pub state : Client
    pub started : (world n).clients client ≡ some state
    pub asked : Request
    pub answer : (issue_of state op point argument).answer ≡ Ok asked
    pub its : asked.command ∷ [] ≡ ks

  -- "A Receive of its result, not refused, completes it": event n completes ks, one command, with the result r
  pub record CompletesBy (n : ℕ) (ks : List Command) (r : EntryResult) : Type 0 where
    pub client : ℕ
    pub number : ℕ
    pub event : Is n (receive client number)
    pub state : Client
    pub started : (world n).clients client ≡ some state
    pub bytes : List ℕ
    pub delivered : packet (world n) number ≡ some bytes
    pub received : ResultPacket
    pub answer : (receive_of state bytes).answer ≡ Ok (Completed received)
    pub its : command_at state received.call ∷ [] ≡ ks
    pub result : one (result_meant received.result) ≡ r

-- an execution survives where every later crash of its server kept the log as long as it was then: event n executes m. `Cuts j c b`: event
-- j is a crash of server c that keeps b bytes; `size n c`: the bytes of its log after n events
pub record SurvivesAtBy (Executes : ℕ → ℕ → Marked → Type 0) (Cuts : ℕ → ℕ → ℕ → Type 0) (size : ℕ → ℕ → ℕ) (n : ℕ) (m : Marked) : Type 0 where
  pub server : ℕ
  pub executes : Executes n server m
  pub kept : (j b : ℕ) → n < j → Cuts j server b → size (suc n) server ≤ b

-- a packet made is this result: whoever asked for it, and whether or not it was received
pub record TellsBy {S : Type 0} (w : WorldOf S) (r : ResultPacket) : Type 0 where
  pub number : ℕ
  pub bytes : List ℕ
  pub made : packet w number ≡ some bytes
  pub parsed : parse_packet bytes ≡ Some (Resulted r)

-- what demand 3 reads of a run: the event that issues commands, that completes them with a result, that executes a command by a version so
-- that it survives, and the time that it notes; the results told; the state that each server counts with at the end; that Recover accepts what
-- a crash kept
pub record Account : Type 1 where
  pub Issues : ℕ → List Command → Type 0
  pub Completes : ℕ → List Command → EntryResult → Type 0
  pub SurvivesAt : ℕ → Marked → Type 0
  pub Notes : ℕ → Marked → ℕ → Type 0
  pub Tells : ResultPacket → Type 0
  pub final : ℕ → Option State
  pub Recovers : Type 0

module _ (plan : List ℕ) (seen : Account) where
  -- an entry with a surviving part
  pub record SurvivesBy (e : OrderEntry) : Type 0 where
    pub part : Marked
    pub among : part ∈ parts e
    pub at : ℕ
    pub survives : seen.SurvivesAt at part

  -- the holder: the server where the point's move number is greatest, the taker before the giver, its home at move number 0.
  -- "A holder not founded is left out": there is none then
  pub record HolderBy (p c : ℕ) (st : State) : Type 0 where
    pub founded : seen.final c ≡ some st
    pub greatest : (d : ℕ) (other : State) → seen.final d ≡ some other → (point_at other p).move_number ≤ (point_at st p).move_number
    pub taker : (d : ℕ) (other : State) → seen.final d ≡ some other → (point_at other p).move_number ≡ (point_at st p).move_number
        → (point_at other p).taken_move ≤ (point_at st p).taken_move
    pub home : (point_at st p).move_number ≡ 0 → (entry_at (plan_of plan) p).home ≡ c

  -- the order explains the run
  pub record ExplainedBy (order : List OrderEntry) : Type 0 where
    -- "each once"
    pub once : Once order
    -- "one order of all surviving commands"
    pub survivors : (e : OrderEntry) → SurvivesBy e ↔ (e ∈ order)
    -- "the book of document 01, run over it, gives every result that a desk received"
    pub results : (n : ℕ) (ks : List Command) (r : EntryResult) → seen.Completes n ks r → Answers (plan_of plan) (opened (plan_of plan)) order ks r
    -- "and, at its end, each point's value and quality at its holder"
    pub values : (p c : ℕ) (st : State) → p < point_count → HolderBy p c st
        → reading_meant (reading_at (point_at st p)) ≡ values_after (plan_of plan) (opened (plan_of plan)) order p
    -- "a command completed before another was issued stands first"
    pub real_time : (m n : ℕ) (a b : OrderEntry) (r : EntryResult) → seen.Completes m (commands a) r → seen.Issues n (commands b) → m < n
        → a ∈ order → b ∈ order → Before a b order
    -- the order keeps each point's sequence of surviving executions. With `once` this leaves a command one surviving execution at the
    -- most: two by one version would put its entry before itself, two by different versions its id into two entries
    pub sequence : (m n : ℕ) (j k : Marked) (a b : OrderEntry) → seen.SurvivesAt m j → seen.SurvivesAt n k → m < n
        → j.command.point ≡ k.command.point → j ∈ parts a → k ∈ parts b → a ∈ order → b ∈ order → Before a b order
    -- the book has no clock: every result told, at whatever server and however often, has the time that a surviving execution of its id noted. Of
    -- such executions there is one, so a repeat tells the same time
    pub times : (r : ResultPacket) → seen.Tells r → (n : ℕ) × (m : Marked) × (m.command.client ≡ r.client) × (m.command.call ≡ r.call) × seen.Notes n m r.result.time
    -- Recover accepts what a crash kept
    pub recovers : seen.Recovers

-- ---- over bytes

module _ (plan : List ℕ) where
  -- what recovery gives by what is in force: the log, or checkpoint and tail
  unfoldable pub recovered_by : List ℕ → List ℕ → Option State
  recovered_by [] log = recovered_state (plan_of plan) log
  recovered_by (b ∷ bs) log = recovered_tail (b ∷ bs) log

  -- as long as it is down, a crashed server counts with the state that recovery would give
  unfoldable pub state_given : Server → Option State
  state_given nothing = none
  state_given (running k state log) = some (load state)
  state_given (storing k log next state tail) = some (load state)
  state_given (crashed k kept mark) = recovered_by k.checkpoint kept

module _ (es : List Event) where
  -- event n issues ks
  abbrev pub Issues : ℕ → List Command → Type 0
  Issues = IssuesBy (after es) (λ n e. At es n (outside e))

  -- event n completes ks, with the result r
  abbrev pub Completes : ℕ → List Command → EntryResult → Type 0
  Completes = CompletesBy (after es) (λ n e. At es n (outside e))

  -- a request that is answered 0 and makes no packet executes its command: event n executes m at server c
  pub record Executes (n c : ℕ) (m : Marked) : Type 0 where
    pub number : ℕ
    pub versions : Versions
    pub lent : Lent
    pub event : At es n (call c (request versions number) lent)
    pub stored : Stored
    pub state : List ℕ
    pub log : List ℕ
    pub up : (after es n).servers c ≡ running stored state log
    pub bytes : List ℕ
    pub delivered : packet (after es n) number ≡ some bytes
    pub answer : (request_of versions (lent_state lent state) (lent_log lent log) bytes lent.out).answer ≡ answer_of no_refusal 0
    pub asked : Request
    pub parsed : parse_packet bytes ≡ Some (Requested asked)
    pub its : marked_by versions asked.command ≡ m

  -- event n is a crash of server c that keeps b bytes, counted from the founding: what a checkpoint replaced is kept in it
  pub record Crashes (n c b : ℕ) : Type 0 where
    pub kept : ℕ
    pub event : At es n (crash c kept)
    pub reaches : b ≡ (stored_of ((after es n).servers c)).replaced + kept

  -- event n executes m, and that execution survives
  abbrev pub SurvivesAt : ℕ → Marked → Type 0
  SurvivesAt = SurvivesAtBy Executes Crashes (λ n c. reach_of ((after es n).servers c))

  -- and notes this time: its server's heard time then, 0 where its program writes no times
  abbrev pub Notes : ℕ → Marked → ℕ → Type 0
  Notes n m t = (s : SurvivesAt n m) × (time_for s.executes.versions (load s.executes.state) ≡ t)

  abbrev pub Tells : ResultPacket → Type 0
  Tells = TellsBy (run es)

module _ (plan : List ℕ) (es : List Event) where
  -- the state that a server counts with at the end
  unfoldable pub final_state : ℕ → Option State
  final_state c = state_given plan ((run es).servers c)

  -- every server that a crash left recovers from what the crash kept
  abbrev pub Recovers : Type 0
  Recovers = (c : ℕ) (k : Stored) (kept : List ℕ) (mark : ℕ) → (run es).servers c ≡ crashed k kept mark → (st : State) × (recovered_by plan k.checkpoint kept ≡ some st)

  -- what demand 3 reads of the schedule
  abbrev pub account : Account
  account =
      record {
        Issues = Issues es;
        Completes = Completes es;
        SurvivesAt = SurvivesAt es;
        Notes = Notes es;
        Tells = Tells es;
        final = final_state;
        Recovers = Recovers;
      }

  abbrev pub Holder : ℕ → ℕ → State → Type 0
  Holder = HolderBy plan account

  -- the order explains the schedule
  abbrev pub Explains : List OrderEntry → Type 0
  Explains = ExplainedBy plan account

-- the claim
unfoldable pub Demand3 : Type 0
Demand3 = (plan : List ℕ) (es : List Event) → Provisos plan es → (order : List OrderEntry) × Explains plan es order
