-- Demand 3 over states and log records: after every schedule there is one order of all surviving commands, each once, that explains every
-- result and every final value, in real-time order. The clauses are those of Claim.
-- Assumes nothing.
use Rattle.std.specs.Prelude.{ℕ, ◌≡◌, List, [], Some}
use Rattle.std.proofs.Math.Option.{Option, none, some}
use Rattle.model.specs.declared.Command.{Command}
use Rattle.model.specs.declared.Request.{Request}
use Rattle.model.specs.declared.ResultPacket.{ResultPacket}
use Rattle.model.specs.declared.Packet.TheVariants.{Requested}
use Rattle.model.specs.Versions.{Versions}
use Rattle.model.specs.Sequential.{Marked, marked_by, OrderEntry, EntryResult}
use Rattle.model.specs.Packets.{parse_packet}
use Rattle.model.specs.States.{State}
use Rattle.model.specs.Decisions.{on_request, time_for}
use Rattle.model.specs.Calls.{request}
use Rattle.claim.specs.World.{packet}
use Rattle.claim.specs.Claim.{IssuesBy, CompletesBy, SurvivesAtBy, TellsBy, Account, ExplainedBy}
use Rattle.claim.specs.RecordWorld.{Event, call, crash, outside, Log, Server, nothing, running, crashed, call_of, recovered_from, run, after}
use Rattle.claim.specs.RecordProvisos.{Provisos, At, length_of}

module _ (plan : List ℕ) where
  -- as long as it is down, a crashed server counts with the state that its kept records give
  unfoldable pub state_given : Server → Option State
  state_given nothing = none
  state_given (running st log) = some st
  state_given (crashed log k mark) = recovered_from plan log

module _ (es : List Event) where
  -- event n issues ks
  abbrev pub Issues : ℕ → List Command → Type 0
  Issues = IssuesBy (after es) (λ n e. At es n (outside e))

  -- event n completes ks, with the result r
  abbrev pub Completes : ℕ → List Command → EntryResult → Type 0
  Completes = CompletesBy (after es) (λ n e. At es n (outside e))

  -- a request that is answered 0 and makes no packet executes its command: event n executes m at server c
  pub record Executes (n c : ℕ) (m : Marked) : Type 0 where
    pub number : ℕ
    pub versions : Versions
    pub room : ℕ
    pub event : At es n (call c (request versions number) room)
    pub state : State
    pub log : Log
    pub up : (after es n).servers c ≡ running state log
    pub bytes : List ℕ
    pub delivered : packet (after es n) number ≡ some bytes
    pub no_number : (call_of state log room (λ st free. on_request versions st free (parse_packet bytes))).number ≡ 0
    pub no_packet : (call_of state log room (λ st free. on_request versions st free (parse_packet bytes))).made ≡ []
    pub asked : Request
    pub parsed : parse_packet bytes ≡ Some (Requested asked)
    pub its : marked_by versions asked.command ≡ m

  -- event n executes m, and that execution survives
  abbrev pub SurvivesAt : ℕ → Marked → Type 0
  SurvivesAt = SurvivesAtBy Executes (λ n c b. At es n (crash c b)) (λ n c. length_of ((after es n).servers c))

  -- and notes this time
  abbrev pub Notes : ℕ → Marked → ℕ → Type 0
  Notes n m t = (s : SurvivesAt n m) × (time_for s.executes.versions s.executes.state ≡ t)

  abbrev pub Tells : ResultPacket → Type 0
  Tells = TellsBy (run es)

module _ (plan : List ℕ) (es : List Event) where
  -- the state that a server counts with at the end
  unfoldable pub final_state : ℕ → Option State
  final_state c = state_given plan ((run es).servers c)

  -- every server that a crash left recovers from what the crash kept
  abbrev pub Recovers : Type 0
  Recovers = (c : ℕ) (log : Log) (k mark : ℕ) → (run es).servers c ≡ crashed log k mark → (st : State) × (recovered_from plan log ≡ some st)

  -- what demand 3 reads of the schedule
  abbrev pub account : Account
  account =
      record {
        Issues = Issues es;
        Completes = Completes es;
        SurvivesAt = SurvivesAt es;
        Notes = Notes es;
        Tells = Tells es;
        final = final_state;
        Recovers = Recovers;
      }

  -- the order explains the schedule
  abbrev pub Explains : List OrderEntry → Type 0
  Explains = ExplainedBy plan account

-- the claim
unfoldable pub Demand3 : Type 0
Demand3 = (plan : List ℕ) (es : List Event) → Provisos plan es → (order : List OrderEntry) × Explains plan es order
