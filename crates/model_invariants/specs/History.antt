-- A log as operations made it: each record decided on the replay of those before it.
-- Assumes nothing.
use Rattle.std.specs.Prelude.{ℕ, ◌+◌, ◌≤◌, ◌≡◌, List, [], ◌∷◌, ◌++◌, length}
use Rattle.std.proofs.Math.Option.{some}
use Rattle.model.specs.Versions.{Versions}
use Rattle.model.specs.declared.PlanEntry.{PlanEntry}
use Rattle.model.specs.declared.Request.{Request}
use Rattle.model.specs.declared.Notice.{Notice}
use Rattle.model.specs.Choice.{append}
use Rattle.model.specs.Limits.{last_point, point_count, head_size}
use Rattle.model.specs.Images.{Image}
use Rattle.model.specs.Logs.{LogRecord, Entry, record_size}
use Rattle.model.specs.States.{State}
use Rattle.model.specs.Apply.{replay_from, with_mark}
use Rattle.model.specs.Operations.{recovered}
use Rattle.model.specs.Decisions.{decide_request, decide_notice, on_give, decide_take, decide_release}
use Rattle.model_laws.specs.Bytes.{All}
use Rattle.model_invariants.specs.Sound.{GoodEntry, SoundBy, In64, Sound, GoodRequest, GoodNotice, GoodImage, GoodRecord}

-- a plan of 64 good entries
pub record GoodPlan (plan : List PlanEntry) : Type 0 where
  pub length : length plan ≡ point_count
  pub entries : All GoodEntry plan

-- an operation decided on the state st, with free bytes left in the log, to append the record r
pub data Decides (st : State) (free : ℕ) (r : LogRecord) : Type 0 where
  by_request : (v : Versions) (q : Request) → GoodRequest q → decide_request v st free q ≡ append r → Decides st free r
  by_notice : (n : Notice) → GoodNotice n → decide_notice st free n ≡ append r → Decides st free r
  by_give : (p d : ℕ) → on_give st free p d ≡ append r → Decides st free r
  by_take : (i : Image) → GoodImage i → decide_take st free i ≡ append r → Decides st free r
  by_release : (p m : ℕ) → p ≤ last_point → decide_release st free p m ≡ append r → Decides st free r

-- a record appended at the end of a log of that state
abbrev pub entry_for : State → LogRecord → Entry
entry_for st r = record { item = r; end = st.size + record_size r }

-- a state that a log starts from: sound, with no record in the log
pub record StartBy (P : ℕ → Type 0) (st : State) : Type 0 where
  pub sound : SoundBy P st
  pub empty : st.size ≡ head_size

abbrev pub Start : State → Type 0
Start st = StartBy In64 st

-- from the state st on every entry was decided on the replay of those before it, with P of its end
pub data DecidedBy (P : ℕ → Type 0) (st : State) : List Entry → Type 0 where
  none : DecidedBy P st []
  next : (es : List Entry) (free : ℕ) (r : LogRecord) → DecidedBy P st es → Decides (replay_from st es) free r
      → P ((replay_from st es).size + record_size r) → DecidedBy P st (es ++ (entry_for (replay_from st es) r ∷ []))

-- as a server's log holds it; DecidedFrom (founded plan n) since the founding
abbrev pub DecidedFrom : State → List Entry → Type 0
DecidedFrom st es = DecidedBy In64 st es

-- what recovery makes of a log's records
pub record Recovers (P : ℕ → Type 0) (st : State) (es : List Entry) : Type 0 where
  pub sound : SoundBy P (replay_from st es)
  pub same : recovered st es ≡ some (replay_from st es)

-- well-formed records with their ends, one after the other from place k, with P of each end
abbrev pub Chained : (ℕ → Type 0) → ℕ → List Entry → Type 0
Chained P k [] = Unit
Chained P k (e ∷ es) = GoodRecord e.item × (e.end ≡ k + record_size e.item) × P e.end × Chained P e.end es

-- what recovery gives is sound, lies in the log, and is sound with the mark at its end
pub record RecoveredSound (log : List ℕ) (st : State) : Type 0 where
  pub sound : Sound st
  pub within : st.size ≤ length log
  pub marked : Sound (with_mark st.size st)
