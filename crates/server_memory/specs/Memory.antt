-- What holds of lent memory where a call refuses it with neither 2 nor 19, and what a decision leaves of it.
-- Assumes nothing.
use Rattle.std.specs.Prelude.{ℕ, ◌≤◌, ◌≡◌, true, List, length}
use Rattle.model.specs.declared.Answer.{Answer}
use Rattle.model.specs.Limits.{state_size}
use Rattle.model.specs.States.{State, load, sound}
use Rattle.model.specs.Decisions.{Decided}
use Rattle.model.specs.Operations.{After, after, settle, free_in}

-- a state and its log, and an output of n bytes, of which `need` are asked
pub record Fit (state log : List ℕ) (n need : ℕ) : Type 0 where
  pub long : state_size ≤ length state
  pub room : need ≤ n
  pub sound : sound state ≡ true
  pub logged : (load state).size ≤ length log

-- what a call leaves of its slices, by a decision on the state and the log's free space
abbrev pub settled_by : (State → ℕ → Decided) → List ℕ → List ℕ → List ℕ → After
settled_by decided s log out = settle s log out (decided (load s) (free_in s log))

-- a call that neither reads nor writes its log, beside whatever log: by a decision, the state s and the output become t and o
abbrev pub SettledBeside : Decided → List ℕ → List ℕ → Answer → List ℕ → List ℕ → Type 0
SettledBeside d s out r t o = (log : List ℕ) → after r t log o ≡ settle s log out d
