-- What is left to show of `state_records::stays`.
use Rattle.model.specs.Apply.{stays_over, is_of_other, is_on_other}
use Rattle.state_records.specs.Rules.{stays_by}
use Rattle.state_records.proofs.stays.Goals as goal

pub returns-in-OverFloor : goal.returns-in-OverFloor
unfolding stays_by stays_over
returns-in-OverFloor c = rw c.in-OverFloor.is

pub returns-in-OfOther : goal.returns-in-OfOther
unfolding stays_by is_of_other
returns-in-OfOther c = rw c.in-OfOther.is

pub returns-in-OnOther : goal.returns-in-OnOther
unfolding stays_by is_on_other
returns-in-OnOther c = rw c.in-OnOther.is

pub returns-in-Beside : goal.returns-in-Beside
unfolding stays_by is_on_other
returns-in-Beside c = rw (c.in-Beside.is, c.over_floors-over.ensures)
