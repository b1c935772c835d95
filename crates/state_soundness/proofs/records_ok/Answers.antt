-- What is left to show of `state_soundness::records_ok`.
use Prim.Native.Nat.{◌<◌}
use native.Mathlib.Omega.{arith}
use lib.ListN.{length}
use Rattle.state_soundness.proofs.Pass.{pass_start, pass_next, pass_fell, pass_bad, pass_slot, pass_seen, pass_end}
use Rattle.state_soundness.proofs.records_ok.Goals as goal
use Rattle.state_soundness.proofs.records_ok.Goals.{In-Some}

-- a slot that was found is one of the marks
slot-few : (c : In-Some) → c.in-Some.slot < length c.loop-i.marks
slot-few c = pass_slot c.loop-i.invariant c.loop-i-test.true c.end_in-end.ensures c.if-end-last.false c.in-Some.ensures c.requires.3 c.requires.1

pub loop-i-init : goal.loop-i-init
loop-i-init c = pass_start c.args.s.now c.requires.4 c.requires.3 c.requires.1 c.requires.6

pub returns-then-end-last : goal.returns-then-end-last
returns-then-end-last c =
    pass_fell c.loop-i.invariant c.loop-i-test.true c.end_in-end.ensures c.if-end-last.true

pub returns-in_default : goal.returns-in_default
returns-in_default c = pass_bad c.loop-i.invariant c.loop-i-test.true c.end_in-end.ensures c.if-end-last.false c.in_default.ensures

pub bounds-marks-slot : goal.bounds-marks-slot
bounds-marks-slot c = omega (arith, c.loop-i.invariant.long, slot-few (goal.at.bounds-marks-slot c).In-Some)

pub bounds-marks-slot-in-loop-i : goal.bounds-marks-slot-in-loop-i
bounds-marks-slot-in-loop-i c = omega (arith, c.loop-i.invariant.long, slot-few (goal.at.bounds-marks-slot-in-loop-i c).In-Some)

pub returns-then-marks-slot : goal.returns-then-marks-slot
returns-then-marks-slot c =
    pass_seen c.loop-i.invariant c.loop-i-test.true c.end_in-end.ensures c.if-end-last.false c.in-Some.ensures c.if-marks-slot.true

pub loop-i-preserved : goal.loop-i-preserved
loop-i-preserved c =
    pass_next c.loop-i.invariant c.loop-i-test.true c.end_in-end.ensures c.if-end-last.false c.in-Some.ensures c.if-marks-slot.false

pub returns : goal.returns
returns c = pass_end c.loop-i.invariant c.loop-i-test.false
