-- What is left to show of `leases::kept_at`.
use mathlib.Core.Path.{refl}
use Rattle.leases.specs.Changes.{kept_at}
use Rattle.leases.proofs.kept_at.Goals as goal

pub returns-then-ended : goal.returns-then-ended
returns-then-ended c = unfold kept_at in rw (c.if-ended.true, c.clear_ended.ensures) refl

pub returns-else-ended : goal.returns-else-ended
returns-else-ended c = unfold kept_at in rw c.if-ended.false refl
