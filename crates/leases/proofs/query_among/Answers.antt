-- What is left to show of `leases::query_among`.
use mathlib.Core.Path.{refl}
use Rattle.leases.specs.Changes.{query_among}
use Rattle.leases.proofs.query_among.Goals as goal

pub returns : goal.returns
unfolding query_among
returns c = rw (c.told_end.ensures, c.lease_at.ensures) refl
