-- What is left to show of `state_checkpoint::write_points`.
use Rattle.state_checkpoint.proofs.Parts.{points-written}
use Rattle.state_checkpoint.proofs.write_points.Goals as goal

pub returns : goal.returns
returns c =
    rw c.copy_fronts.ensures (points-written c.args.s.now (λ i. (c.type_inv.s i).fits) c.requires.0 c.args.checkpoint.now)
