-- What is left to show of `chamber::start`.
use mathlib.Core.Path.{refl}
use Rattle.chamber_claim.specs.Chamber.{start_in}
use Rattle.chamber.proofs.start.Goals as goal

pub returns-then-points_ok : goal.returns-then-points_ok
unfolding start_in
returns-then-points_ok c = rw (← c.points_ok.ensures, c.if-points_ok.true, ← c.start.ensures) c.started_in.ensures

pub returns : goal.returns
unfolding start_in
returns c = rw (← c.points_ok.ensures, c.if-points_ok.false, c.not_started.ensures) refl
