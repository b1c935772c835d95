-- What is left to show of `simulator::hand_over`.
use Rattle.simulator.proofs.Runs.{kept_back, handed-over}
use native.Mathlib.Omega.{arith}
use Rattle.simulator.proofs.hand_over.Goals as goal

pub returns-then-out-n : goal.returns-then-out-n
returns-then-out-n c = kept_back _ _ _ c.if-out-n.true

pub overflow_cast-result : goal.overflow_cast-result
overflow_cast-result c = omega (arith, c.requires.0)

pub returns : goal.returns
returns c = handed-over _ _ _ _ c.if-out-n.false c.requires.1 c.copy_from_slice.ensures.after
