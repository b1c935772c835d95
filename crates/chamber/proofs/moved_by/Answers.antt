-- What is left to show of `chamber::moved_by`.
use mathlib.Core.Path.{refl}
use borrow.Author.Tests.{ne_eqb}
use Rattle.chamber_claim.specs.Chamber.{moved_by}
use Rattle.chamber.proofs.moved_by.Goals as goal

pub returns-in_default : goal.returns-in_default
unfolding moved_by
returns-in_default c = rw c.in_default.is refl

pub returns-then-op-eq-READ_OP : goal.returns-then-op-eq-READ_OP
unfolding moved_by
returns-then-op-eq-READ_OP c = rw (c.in-Ok.is, c.if-op-eq-READ_OP.true) refl

pub returns : goal.returns
unfolding moved_by
returns c = rw (c.in-Ok.is, ne_eqb _ _ c.if-op-eq-READ_OP.false) refl
