-- What is left to show of `server_decide::recover_checkpoint_refusal`.
use Rattle.format_numbers.proofs.Picks.{picks}
use Rattle.model.specs.Checkpoints.{recover_tail_refusal}
use Rattle.server_decide.proofs.recover_checkpoint_refusal.Goals as goal

pub returns-then-states-lt-STATE_SIZE : goal.returns-then-states-lt-STATE_SIZE
unfolding recover_tail_refusal
returns-then-states-lt-STATE_SIZE c = search picks depth 24

pub returns : goal.returns
unfolding recover_tail_refusal
returns c = search picks depth 24
