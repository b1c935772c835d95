-- What is left to show of `client_c::store_change`.
use mathlib.Core.Path.{refl}
use Rattle.model.specs.Leases.{manager}
use Rattle.leases.specs.Changes.{kept_at, stored, answered}
use Rattle.client_c.proofs.store_change.Goals as goal

pub returns-then-change : goal.returns-then-change
unfolding answered
returns-then-change c = c.stored.ensures

pub returns : goal.returns
unfolding answered stored kept_at manager
returns c = rw c.if-change.false refl
