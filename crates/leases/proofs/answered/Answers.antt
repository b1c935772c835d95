-- What is left to show of `leases::answered`.
use mathlib.Core.Path.{refl}
use Rattle.leases.specs.Changes.{answered}
use Rattle.leases.proofs.answered.Goals as goal

pub returns : goal.returns
returns c = unfold answered in rw c.stored.ensures refl
