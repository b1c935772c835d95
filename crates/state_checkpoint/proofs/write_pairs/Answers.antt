-- What is left to show of `state_checkpoint::write_pairs`.
use Rattle.state_checkpoint.proofs.Parts.{pairs-runs}
use Rattle.state_checkpoint.proofs.write_pairs.Goals as goal

pub returns : goal.returns
returns c =
    let start = c.args in
    rw (c.write_pair-4.ensures, c.write_pair-3.ensures, c.write_pair-2.ensures, c.write_pair.ensures)
    (pairs-runs start.checkpoint.now start.n start.k)
