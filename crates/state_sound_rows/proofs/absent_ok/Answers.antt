-- What is left to show of `state_sound_rows::absent_ok`.
use Rattle.model.specs.States.{absent_ok}
use Rattle.state_sound_rows.proofs.absent_ok.Goals as goal

pub returns : goal.returns
unfolding absent_ok
returns c = cc
