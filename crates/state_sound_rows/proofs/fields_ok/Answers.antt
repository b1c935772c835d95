-- What is left to show of `state_sound_rows::fields_ok`.
use Rattle.state_sound_rows.specs.Parts.{fields_in}
use Rattle.state_sound_rows.proofs.fields_ok.Goals as goal

pub returns : goal.returns
unfolding fields_in
returns c = cc
