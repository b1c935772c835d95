-- What is left to show of `state_sound_rows::origin_ok`.
use Rattle.format_numbers.proofs.Picks.{picks}
use Rattle.state_sound_rows.specs.Parts.{origin}
use Rattle.state_sound_rows.proofs.origin_ok.Goals as goal

pub returns-then-x-eq0 : goal.returns-then-x-eq0
unfolding origin
returns-then-x-eq0 c = search picks depth 24

pub returns-else-x-eq0 : goal.returns-else-x-eq0
unfolding origin
returns-else-x-eq0 c = search picks depth 24
