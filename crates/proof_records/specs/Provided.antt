-- The provisos of demand 3 over records at one event, in the world before it.
-- Assumes nothing.
use Rattle.std.specs.Prelude.{ℕ, ◌≤◌, ◌≡◌, List}
use Rattle.std.proofs.Math.Option.{some}
use Rattle.model.specs.States.{State}
use Rattle.claim.specs.World.{start}
use Rattle.claim.specs.Provisos.{StartedOnce}
use Rattle.claim.specs.RecordWorld.{World, Event, Log, nothing, found_of, recover_of, kept_by}
use Rattle.claim.specs.RecordWorld as R
use Rattle.claim.specs.RecordProvisos.{Typed, mark_of, length_of}

-- a found that succeeds, at a server s of either world: the one plan, the server's own number, and nothing founded there before
pub record FoundOk {S : Type 0} (plan : List ℕ) (nothing s : S) (c : ℕ) (p : List ℕ) (k : ℕ) : Type 0 where
  pub one-plan : p ≡ plan
  pub own-number : k ≡ c
  pub once : s ≡ nothing

pub record Provided (plan : List ℕ) (w : World) (e : Event) : Type 0 where
  pub typed : Typed e
  pub founds : (c : ℕ) (p : List ℕ) (k : ℕ) (st : State) → e ≡ R.found c p k → found_of p k ≡ some st → FoundOk plan nothing (w.servers c) c p k
  pub recovers : (c : ℕ) (p : List ℕ) (log : Log) (st : State) → e ≡ R.recover c p → kept_by (w.servers c) ≡ some log → recover_of p log ≡ some st → p ≡ plan
  pub crashes : (c k : ℕ) → e ≡ R.crash c k → (mark_of (w.servers c) ≤ k) × (k ≤ length_of (w.servers c))
  pub starts : (p : ℕ) → e ≡ R.outside (start p) → StartedOnce w p
