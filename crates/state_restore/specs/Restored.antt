-- What restoring a checkpoint answers and leaves.
-- Assumes nothing.
use Rattle.std.specs.Prelude.{ℕ, ◌≡◌, Bool, true, false, List}
use Rattle.std.proofs.Math.Option.{Option, none, some}
use Rattle.model.specs.States.{State, load, sound}
use Rattle.model.specs.Checkpoints.{checkpoint_state}

-- the state in a buffer, where the answer is yes
unfoldable pub state_in : Bool → List ℕ → Option State
state_in true s = some (load s)
state_in false s = none

-- yes exactly where the checkpoint gives a state; the buffer then holds it, sound
pub record RestoredBy (checkpoint s : List ℕ) (r : Bool) : Type 0 where
  pub state : state_in r s ≡ checkpoint_state checkpoint
  pub sound : r ≡ true → sound s ≡ true
