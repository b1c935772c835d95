-- What is left to show of `simulator_text::line_feeds`.
use native.Mathlib.Nat.{zero-add}
use native.Mathlib.Omega.{arith}
use Rattle.simulator_text.proofs.Fields.{counted_feed, counted-other, counted-end}
use Rattle.simulator_text.proofs.line_feeds.Goals.{then-b-eq10, else-b-eq10}
use Rattle.simulator_text.proofs.line_feeds.Goals as goal

pub loop-b-init : goal.loop-b-init
loop-b-init c = (omega arith, omega arith, zero-add _)

pub loop-b-preserved : goal.loop-b-preserved
loop-b-preserved c =
    elim c.if-b-eq10.branch [
      | then-b-eq10 w ↦ rw w.n-is (counted_feed _ _ _ c.loop-b.invariant c.loop-b-test.true w.if-b-eq10.true)
      | else-b-eq10 w ↦ rw w.n-is (counted-other _ _ _ c.loop-b.invariant c.loop-b-test.true w.if-b-eq10.false)
    ]

pub returns : goal.returns
returns c = counted-end _ _ _ c.loop-b.invariant c.loop-b-test.false
