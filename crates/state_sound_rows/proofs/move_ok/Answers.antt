-- What is left to show of `state_sound_rows::move_ok`.
use Rattle.format_numbers.proofs.Picks.{picks}
use Rattle.state_sound_rows.proofs.move_ok.Goals as goal

pub returns-then-x-eq-HELD : goal.returns-then-x-eq-HELD
returns-then-x-eq-HELD c = search picks depth 24

pub returns : goal.returns
returns c = search picks depth 24
