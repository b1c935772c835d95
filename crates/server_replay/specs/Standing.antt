-- A buffer that holds a sound state, a record that may follow it, and the same buffer after a log record, if that follows the state.
-- Assumes nothing.
use Rattle.std.specs.Prelude.{ℕ, ◌+◌, ◌≡◌, Bool, List}
use Rattle.model.specs.Choice.{pick}
use Rattle.model.specs.Logs.{LogRecord, record_size}
use Rattle.model.specs.States.{load}
use Rattle.model.specs.Apply.{apply_record}
use Rattle.model.specs.Decisions.{follows}
use Rattle.model.specs.Operations.{stored}
use Rattle.model_invariants.specs.Sound.{Sound, GoodRecord}
use Rattle.state_rows.specs.Canonical.{Canonical}

pub record Standing (s : List ℕ) : Type 0 where
  pub canonical : Canonical s
  pub sound : Sound (load s)

-- and a well-formed record that stands behind the log's recorded length; `end` is the log's length after it
pub record Ready (s : List ℕ) (r : LogRecord) (end : ℕ) : Type 0 where
  pub standing : Standing s
  pub good : GoodRecord r
  pub behind : end ≡ (load s).size + record_size r

unfoldable pub replayed : LogRecord → ℕ → List ℕ → List ℕ
replayed r end s = pick (follows (load s) r) (stored s (apply_record r end (load s))) s

-- what a replay answers: whether the record follows, and the buffer t that it leaves
abbrev pub ReplayedBy : LogRecord → ℕ → List ℕ → List ℕ → Bool → Type 0
ReplayedBy r end s t b = (b ≡ follows (load s) r) × (t ≡ replayed r end s)
