-- What is left to show of `state_sound_rows::held_ok`.
use Rattle.state_sound_rows.specs.Parts.{held_move}
use Rattle.state_sound_rows.proofs.held_ok.Goals as goal

pub returns : goal.returns
unfolding held_move
returns c = cc
