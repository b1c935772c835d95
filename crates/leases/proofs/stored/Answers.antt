-- What is left to show of `leases::stored`.
use mathlib.Core.Path.{refl}
use Rattle.model.specs.Leases.{manager}
use Rattle.leases.specs.Changes.{stored}
use Rattle.leases.proofs.stored.Goals as goal

pub returns : goal.returns
returns c = unfold stored manager in rw (c.kept_at-leases.ensures) refl
