-- A buffer in the course of an operation: it was s, and holds the state st now.
-- Assumes nothing.
use Rattle.std.specs.Prelude.{ℕ, ◌≤◌, ◌≡◌, List, length}
use Rattle.model.specs.States.{State, state_end}
use Rattle.model.specs.Operations.{stored}
use Rattle.model_laws.specs.Fits.{StateFits}

pub record Stage (s now : List ℕ) (st : State) : Type 0 where
  pub long : state_end ≤ length s
  pub is : now ≡ stored s st
  pub fits : StateFits st
