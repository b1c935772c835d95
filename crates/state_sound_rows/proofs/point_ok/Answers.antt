-- What is left to show of `state_sound_rows::point_ok`.
use Rattle.state_sound_rows.proofs.Chains.{chain}
use Rattle.state_sound_rows.proofs.Points.{point-parts}
use Rattle.state_sound_rows.proofs.point_ok.Goals as goal

pub returns-then-not-fields_ok : goal.returns-then-not-fields_ok
returns-then-not-fields_ok c = rw point-parts (search chain depth 24)

pub returns : goal.returns
returns c = rw point-parts (search chain depth 24)
