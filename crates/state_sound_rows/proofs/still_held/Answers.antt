-- What is left to show of `state_sound_rows::still_held`.
use Rattle.state_sound_rows.specs.Parts.{still_held}
use Rattle.state_sound_rows.proofs.still_held.Goals as goal

pub returns : goal.returns
unfolding still_held
returns c = cc
