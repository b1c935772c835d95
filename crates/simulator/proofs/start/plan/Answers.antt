-- What is left to show of `simulator::start::plan`.
use Rattle.simulator.proofs.Plans.{planned-start, planned-next, planned-end}
use native.Mathlib.Omega.{arith}
use borrow.Author.Rules.{rules}
use Rattle.simulator.proofs.start.plan.Goals as goal

pub loop-i-init : goal.loop-i-init
loop-i-init c = planned-start _ (search rules)

pub loop-i-preserved : goal.loop-i-preserved
loop-i-preserved c = planned-next _ _ c.loop-i.invariant (omega (arith, c.loop-i.invariant.long))

pub returns : goal.returns
returns c = planned-end _ _ c.loop-i.invariant (omega (arith, c.loop-i.invariant.long))
