-- What is left to show of `leases::ended_at`.
use mathlib.Core.Path.{refl}
use Rattle.model.specs.Leases.{ended_at}
use Rattle.leases.proofs.ended_at.Goals as goal

pub returns-then-has_ended : goal.returns-then-has_ended
unfolding ended_at
returns-then-has_ended c = rw (← c.has_ended.ensures, c.if-has_ended.true) refl

pub returns : goal.returns
unfolding ended_at
returns c = rw (← c.has_ended.ensures, c.if-has_ended.false) refl
