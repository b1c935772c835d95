-- Every product above the kernel, alone or side by side with others: demand 3 and the fence hold of its schedules as they stand.
--     demand3_above, fence_above
--     made_above                  whatever was made is bytes
-- Assumes nothing.
use Prim.Native.Nat.{ℕ}
use mathlib.Core.Path.{◌≡◌}
use mathlib.Core.List.{List}
use mathlib.Core.Option.{some}
use Rattle.model.specs.Sequential.{OrderEntry}
use Rattle.model_laws.specs.Bytes.{Bytes}
use Rattle.claim.specs.World.{packet, after}
use Rattle.claim.specs.Provisos.{Provisos}
use Rattle.claim.specs.Claim.{Explains, Demand3}
use Rattle.claim.specs.Fence.{Fences, Fence}
use Rattle.claim.specs.Above.{Product, events}
use Rattle.safety.proofs.FromRecords.{made_bytes}
use Rattle.safety.proofs.Demand3.{demand3, fence}

module _ (made : Product) (plan : List ℕ) (os : List made.Outer) (P : Provisos plan (events made os)) where
  pub demand3_above : (order : List OrderEntry) × Explains plan (events made os) order
  unfolding Demand3
  demand3_above = demand3 plan (events made os) P

  pub fence_above : Fences plan (events made os)
  unfolding Fence
  fence_above = fence plan (events made os) P

  pub made_above : (n p : ℕ) (b : List ℕ) → packet (after (events made os) n) p ≡ some b → Bytes b
  made_above = made_bytes plan (events made os) P
