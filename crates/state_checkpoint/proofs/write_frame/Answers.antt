-- What is left to show of `state_checkpoint::write_frame`.
use Rattle.state_checkpoint.proofs.Parts.{frame_runs}
use Rattle.state_checkpoint.proofs.write_frame.Goals as goal

pub returns : goal.returns
returns c =
    let start = c.args in
    rw (c.write_u32.ensures, c.write_4.ensures, c.write_magic.ensures) (frame_runs start.checkpoint.now start.server start.heard)
