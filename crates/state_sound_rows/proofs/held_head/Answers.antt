-- What is left to show of `state_sound_rows::held_head`.
use Rattle.state_sound_rows.proofs.Heads.{head-is}
use Rattle.state_sound_rows.proofs.held_head.Goals as goal

pub returns : goal.returns
returns c = head-is _ _ c.read_u32-head.ensures
