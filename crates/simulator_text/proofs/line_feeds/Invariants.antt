-- The invariants of `simulator_text::line_feeds`.
use Rattle.simulator_text.proofs.Fields.{Counted}
use Rattle.simulator_text.proofs.line_feeds.Given as goal

abbrev pub invariant-loop-b : goal.invariant-loop-b
invariant-loop-b l = Counted l.s l.n l.b-index
