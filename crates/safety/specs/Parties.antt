-- What holds of the clients, of the lease manager and of all that was made, whatever servers are: packets and images are bytes.
-- Assumes nothing.
use Rattle.std.specs.Prelude.{ℕ, ◌≡◌}
use Rattle.std.proofs.Math.Option.{some}
use Rattle.model.specs.declared.Client.{Client}
use Rattle.model_laws.specs.Bytes.{Bytes, All}
use Rattle.model_laws.specs.ClientForm.{WellFormed}
use Rattle.model_laws.specs.LeaseForm as Leases
use Rattle.claim.specs.World.{WorldOf}

pub record Parties {S : Type 0} (w : WorldOf S) : Type 0 where
  pub clients : (x : ℕ) (d : Client) → w.clients x ≡ some d → WellFormed d
  pub manager : Leases.WellFormed w.manager
  pub made : All Bytes w.made
