-- What is left to show of `chamber::started_in`.
use mathlib.Core.Path.{refl}
use Rattle.chamber_claim.specs.Chamber.{started_in}
use Rattle.chamber.proofs.started_in.Goals as goal

pub returns-in-Err : goal.returns-in-Err
unfolding started_in
returns-in-Err c = rw c.in-Err.is c.not_started.ensures

pub returns-in-Ok : goal.returns-in-Ok
unfolding started_in
returns-in-Ok c = rw (c.in-Ok.is, c.new_chamber.ensures) refl
