-- What is left to show of `state_sound_rows::points_ok`.
use mathlib.Core.Bool.{not}
use mathlib.Core.Path.{ap}
use Rattle.state_sound_rows.proofs.Points.{points-start, points-next, points-false, points-true}
use Rattle.state_sound_rows.proofs.points_ok.Goals as goal

pub loop-i-init : goal.loop-i-init
loop-i-init c = points-start _ _ _ _ _

pub returns-then-not-row_ok : goal.returns-then-not-row_ok
returns-then-not-row_ok c = points-false c.loop-i.invariant c.loop-i-test.true c.row_ok.ensures (ap not c.if-not-row_ok.true)

pub loop-i-preserved : goal.loop-i-preserved
loop-i-preserved c = points-next c.loop-i.invariant c.loop-i-test.true c.row_ok.ensures (ap not c.if-not-row_ok.false)

pub returns : goal.returns
returns c = points-true c.loop-i.invariant c.loop-i-test.false
