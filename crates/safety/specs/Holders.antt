-- The greatest of several servers, by a point's move number, then its latest taken move.
-- Assumes nothing.
use Rattle.std.specs.Prelude.{ℕ, ◌≤◌, ◌<◌, ◌≡◌, List}
use Rattle.std.proofs.Math.Option.{some}
use Rattle.model.specs.Limits.{last_server}
use Rattle.model.specs.Plan.{plan_of, entry_at}
use Rattle.model.specs.States.{State, point_at}
use Rattle.claim.specs.World.{Event}
use Rattle.claim.specs.Claim.{final_state}
use Rattle.model_invariants.specs.Sound.{Sound}

-- a server that counts at the end
pub record Counted (c : ℕ) (st : State) : Type 0 where
  pub number : c ≤ last_server
  pub sound : Sound st

pub record AtMost (p : ℕ) (a b : State) : Type 0 where
  pub number : (point_at a p).move_number ≤ (point_at b p).move_number
  pub taken : (point_at a p).move_number ≡ (point_at b p).move_number → (point_at a p).taken_move ≤ (point_at b p).taken_move

-- server c, with the state st, is the greatest of the servers below n; the home where the move number is 0
pub record Best (plan : List ℕ) (es : List Event) (p n c : ℕ) (st : State) : Type 0 where
  pub founded : final_state plan es c ≡ some st
  pub most : (d : ℕ) (other : State) → d < n → final_state plan es d ≡ some other → AtMost p other st
  pub home : (point_at st p).move_number ≡ 0 → (entry_at (plan_of plan) p).home ≡ c
