-- What is left to show of `state_sound_rows::status_ok`.
use Rattle.format_numbers.proofs.Picks.{picks}
use Rattle.state_sound_rows.proofs.Chains.{chain}
use Rattle.state_sound_rows.specs.Parts.{status_and_ends}
use Rattle.state_sound_rows.proofs.status_ok.Goals as goal

pub returns-then-x-eq-ABSENT : goal.returns-then-x-eq-ABSENT
unfolding status_and_ends
returns-then-x-eq-ABSENT c = search picks depth 24

pub returns-then-not-move_ok : goal.returns-then-not-move_ok
unfolding status_and_ends
returns-then-not-move_ok c = search (picks, chain) depth 24

pub returns : goal.returns
unfolding status_and_ends
returns c = search (picks, chain) depth 24
