-- What is left to show of `state_soundness::hints_of`.
use Rattle.state_soundness.proofs.Hints.{hints_start, hints_next, hints_end}
use Rattle.state_soundness.proofs.hints_of.Goals as goal

pub loop-i-init : goal.loop-i-init
loop-i-init c = hints_start _ _

pub loop-i-preserved : goal.loop-i-preserved
loop-i-preserved c = hints_next c.loop-i.invariant c.loop-i-test.true c.floor_from-f.ensures

pub returns : goal.returns
returns c = hints_end c.loop-i.invariant c.loop-i-test.false
