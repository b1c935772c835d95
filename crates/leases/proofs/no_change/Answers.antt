-- What is left to show of `leases::no_change`.
use mathlib.Core.Path.{refl}
use Rattle.leases.specs.Changes.{no_change}
use Rattle.leases.proofs.no_change.Goals as goal

pub returns : goal.returns
returns c = unfold no_change in refl
