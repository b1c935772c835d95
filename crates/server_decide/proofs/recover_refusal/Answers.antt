-- What is left to show of `server_decide::recover_refusal`.
use Rattle.format_numbers.proofs.Picks.{picks}
use Rattle.model.specs.Operations.{recover_refusal}
use Rattle.server_decide.proofs.recover_refusal.Goals as goal

pub returns-then-states-lt-STATE_SIZE : goal.returns-then-states-lt-STATE_SIZE
unfolding recover_refusal
returns-then-states-lt-STATE_SIZE c = search picks depth 24

pub returns-then-not-good : goal.returns-then-not-good
unfolding recover_refusal
returns-then-not-good c = search picks depth 24

pub returns : goal.returns
unfolding recover_refusal
returns c = search picks depth 24
