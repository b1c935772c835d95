-- What is left to show of `state_checkpoint::copy_fronts`.
use Rattle.state_checkpoint.proofs.Fronts.{fronted_start, fronted_next}
use Rattle.state_checkpoint.proofs.copy_fronts.Goals as goal

pub loop-i-init : goal.loop-i-init
loop-i-init c = fronted_start _ _ _ _ _

pub loop-i-preserved : goal.loop-i-preserved
loop-i-preserved c =
    fronted_next c.requires.0 c.requires.2 c.loop-i.invariant c.loop-i-test.true c.copy_part.ensures
