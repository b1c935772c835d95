-- What is left to show of `server_decide::inspect_refusal`.
use Rattle.server_decide.specs.Lists.{inspect_tests}
use Rattle.server_decide.proofs.inspect_refusal.Goals as goal

pub returns-then-bad-off : goal.returns-then-bad-off
unfolding inspect_tests
returns-then-bad-off c = rw c.if-bad-off.true

pub returns-then-lacks : goal.returns-then-lacks
unfolding inspect_tests
returns-then-lacks c = rw (c.if-bad-off.false, c.if-lacks.true)

pub returns : goal.returns
unfolding inspect_tests
returns c = rw (c.if-bad-off.false, c.if-lacks.false)
