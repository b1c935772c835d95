-- What is left of a recovery: the records from a place of the log to the last end, replayed on a state; none where one breaks its layout
-- or cannot follow.
-- Assumes nothing.
use Rattle.std.specs.Prelude.{ℕ, ◌-◌, ◌≡◌, Bool, true, false, List}
use Rattle.std.proofs.Math.Option.{Option, none, some}
use Rattle.model.specs.Images.{Image, image_at, image_head_of}
use Rattle.model.specs.Logs.{LogRecord, entries_to}
use Rattle.model.specs.States.{State, load}
use Rattle.model.specs.Decisions.{follows}
use Rattle.model.specs.Operations.{recovered_all}
use Rattle.model_laws.specs.Bytes.{part}
use Rattle.format_log_ends.specs.Walked.{ends_from}
use Rattle.server_replay.specs.Standing.{Standing, replayed}

-- by the ends behind the place
unfoldable pub remaining_to : List ℕ → ℕ → State → Option (List ℕ) → Option State
remaining_to log at st none = none
remaining_to log at st (some es) = recovered_all st (entries_to log at es)

unfoldable pub remaining : List ℕ → ℕ → State → Option State
remaining log at st = remaining_to log at st (ends_from log at)

-- the image between two places of the log
abbrev pub image_between : List ℕ → ℕ → ℕ → Image
image_between log from to = image_at (image_head_of (part from (to - from) log)) (part from (to - from) log)

-- ---- one record, none where it breaks its layout

unfoldable pub record_follows : State → Option LogRecord → Bool
record_follows st none = false
record_follows st (some r) = follows st r

unfoldable pub record_replayed : Option LogRecord → ℕ → List ℕ → List ℕ
record_replayed none end s = s
record_replayed (some r) end s = replayed r end s

abbrev pub RecordReplayedBy : Option LogRecord → ℕ → List ℕ → List ℕ → Bool → Type 0
RecordReplayedBy r end s s' b = (b ≡ record_follows (load s) r) × (s' ≡ record_replayed r end s)

-- ---- all records, from a place of the log on a state

-- a buffer at a place of the log: its state is sound, and the place is the recorded length
pub record StandsAt (s : List ℕ) (at : ℕ) : Type 0 where
  pub standing : Standing s
  pub place : (load s).size ≡ at

-- s' is the buffer after them
abbrev pub EndFound : List ℕ → ℕ → State → List ℕ → Bool → Type 0
EndFound log at st s' true = Standing s' × (remaining log at st ≡ some (load s'))
EndFound log at st s' false = remaining log at st ≡ none

pub record Ended (log : List ℕ) (at : ℕ) (st : State) (s' : List ℕ) (r : Bool) : Type 0 where
  pub found : EndFound log at st s' r
