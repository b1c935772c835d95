-- The fence over states and log records. The clauses are those of Fence.
-- Assumes nothing.
use Rattle.std.specs.Prelude.{ℕ, List}
use Rattle.std.proofs.Math.Option.{Option, none}
use Rattle.model.specs.States.{State}
use Rattle.claim.specs.Fence.{FencedIn, FencesBy}
use Rattle.claim.specs.RecordWorld.{Event, Server, nothing, running, crashed, cut_at, recovered_from, after}
use Rattle.claim.specs.RecordProvisos.{Provisos}
use Rattle.claim.specs.RecordClaim.{Issues, Executes, state_given}

module _ (plan : List ℕ) where
  -- the state that recovery gives from the synced records
  unfoldable pub synced_state : Server → Option State
  synced_state nothing = none
  synced_state (running st log) = recovered_from plan (cut_at st.mark log)
  synced_state (crashed log k mark) = recovered_from plan (cut_at mark log)

module _ (plan : List ℕ) (es : List Event) where
  abbrev pub Fenced : ℕ → ℕ → ℕ → Type 0
  Fenced n x p = FencedIn (state_given plan) (synced_state plan) (after es n) x p

  abbrev pub Fences : Type 0
  Fences = FencesBy (Issues es) (Executes es) Fenced

-- the claim
unfoldable pub Fence : Type 0
Fence = (plan : List ℕ) (es : List Event) → Provisos plan es → Fences plan es
