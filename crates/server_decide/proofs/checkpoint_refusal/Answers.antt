-- What is left to show of `server_decide::checkpoint_refusal`.
use Rattle.format_numbers.proofs.Picks.{picks}
use Rattle.server_decide.specs.Lists.{checkpoint_tests}
use Rattle.server_decide.proofs.checkpoint_refusal.Goals as goal

pub returns-then-mark-size : goal.returns-then-mark-size
unfolding checkpoint_tests
returns-then-mark-size c = search picks depth 24

pub returns : goal.returns
unfolding checkpoint_tests
returns c = search picks depth 24
