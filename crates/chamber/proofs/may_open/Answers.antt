-- What is left to show of `chamber::may_open`.
use Rattle.format_numbers.proofs.Picks.{picks}
use Rattle.chamber_claim.specs.Chamber.{may_open}
use Rattle.chamber.proofs.may_open.Goals as goal

pub returns-then-i-eq-UPPER_GATE : goal.returns-then-i-eq-UPPER_GATE
unfolding may_open
returns-then-i-eq-UPPER_GATE c = search picks depth 24

pub returns : goal.returns
unfolding may_open
returns c = search picks depth 24
