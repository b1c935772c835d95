-- The provisos of demand 3 at one event, in the world before it: over bytes (Allowed), and what they are of its event over records (Decodes).
-- Assumes nothing.
use Rattle.std.specs.Prelude.{ℕ, ◌+◌, ◌≤◌, ◌≡◌, List, []}
use Rattle.std.proofs.Math.Option.{some}
use Rattle.model.specs.Versions.{Versions}
use Rattle.model.specs.Operations.{found_of, recover_of}
use Rattle.model.specs.Checkpoints.{recover_tail_of}
use Rattle.model.specs.Calls.{request}
use Rattle.model.specs.Refusals.{no_refusal}
use Rattle.claim.specs.World.{Lent, OutsideCall, start}
use Rattle.claim.specs.World as B
use Rattle.claim.specs.Provisos as BP
use Rattle.claim.specs.RecordWorld as R
use Rattle.proof_records.specs.Provided.{FoundOk, Provided}
use Rattle.safety.specs.Decoded.{room_of, told_size}

pub record RecoverOk (plan : List ℕ) (s : B.Server) (log p : List ℕ) : Type 0 where
  pub one-plan : p ≡ plan
  pub uses : BP.kept_by s ≡ some log
  pub first : (B.stored_of s).checkpoint ≡ []

pub record RecoverTailOk (s : B.Server) (k tail : List ℕ) : Type 0 where
  pub uses : BP.kept_by s ≡ some tail
  pub begins : BP.Begins (B.stored_of s).checkpoint k

-- an event over bytes
pub record Allowed (plan : List ℕ) (w : B.World) (y : B.Event) : Type 0 where
  pub typed : BP.Typed y
  pub founds : (c : ℕ) (state log p : List ℕ) (k : ℕ) → y ≡ B.found c state log p k → (found_of state log p k).answer.refusal ≡ no_refusal → FoundOk plan B.nothing (w.servers c) c p k
  pub recovers : (c : ℕ) (state log p : List ℕ) → y ≡ B.recover c state log p → (recover_of state log p).answer.refusal ≡ no_refusal → RecoverOk plan (w.servers c) log p
  pub recovers·tail : (c : ℕ) (state k tail : List ℕ) → y ≡ B.recover·tail c state k tail → (recover_tail_of state k tail).answer.refusal ≡ no_refusal → RecoverTailOk (w.servers c) k tail
  pub crashes : (c k : ℕ) → y ≡ B.crash c k → (BP.mark_of (w.servers c) ≤ k) × (k ≤ BP.length_of (w.servers c))
  pub starts : (p : ℕ) → y ≡ B.outside (start p) → BP.StartedOnce w p

-- the event e over records of the event y over bytes: its provisos; a crash is that crash, counted from the founding, a request that request, a call outside
-- the servers that call
pub record Decodes (plan : List ℕ) (r : R.World) (b : B.World) (y : B.Event) (e : R.Event) : Type 0 where
  pub provided : Provided plan r e
  pub crashes : (c n : ℕ) → e ≡ R.crash c n → (k : ℕ) × (y ≡ B.crash c k) × (n ≡ (B.stored_of (b.servers c)).replaced + k)
  pub requests : (c p : ℕ) (vs : Versions) (room : ℕ) → e ≡ R.call c (request vs p) room
      → (t : Lent) × (y ≡ B.call c (request vs p) t) × (room ≡ room_of (b.servers c) t t.out (told_size vs))
  pub outsides : (o : OutsideCall) → e ≡ R.outside o → y ≡ B.outside o
