-- What is left to show of `state_sound_rows::given_ok`.
use Rattle.state_sound_rows.specs.Parts.{given_move}
use Rattle.state_sound_rows.proofs.given_ok.Goals as goal

pub returns : goal.returns
unfolding given_move
returns c = cc
