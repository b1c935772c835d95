-- What is left to show of `state_sound_rows::floors_ok`.
use mathlib.Core.Bool.{not}
use mathlib.Core.Path.{ap}
use Rattle.model_laws.proofs.Loops.{every_open, open_next, open_false, open_true}
use Rattle.model.specs.Images.{floor_of_bytes, floor_ok}
use Rattle.model.specs.Limits.{floor_row}
use Rattle.state_sound_rows.proofs.floors_ok.Goals as goal

pub loop-i-init : goal.loop-i-init
loop-i-init c = every_open floor_of_bytes floor_row _ floor_ok _ _

pub returns-then-not-floor_ok : goal.returns-then-not-floor_ok
returns-then-not-floor_ok c = open_false c.loop-i.invariant c.loop-i-test.true c.floor_ok.ensures (ap not c.if-not-floor_ok.true)

pub loop-i-preserved : goal.loop-i-preserved
loop-i-preserved c = open_next c.loop-i.invariant c.loop-i-test.true c.floor_ok.ensures (ap not c.if-not-floor_ok.false)

pub returns : goal.returns
returns c = open_true c.loop-i.invariant c.loop-i-test.false
