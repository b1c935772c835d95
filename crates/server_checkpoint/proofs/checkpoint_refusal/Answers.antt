-- What is left to show of `server_checkpoint::checkpoint_refusal`.
use Rattle.server_memory.proofs.Settled.{passed-long}
use Rattle.server_checkpoint.proofs.Passed.{tail-short, lent-refused, last-test}
use Rattle.server_checkpoint.proofs.checkpoint_refusal.Goals as goal

pub returns-then-tails-lt-HEAD_SIZE : goal.returns-then-tails-lt-HEAD_SIZE
returns-then-tails-lt-HEAD_SIZE c = tail-short _ _ _ _ c.if-tails-lt-HEAD_SIZE.true

pub returns-in_err-lent_refusal : goal.returns-in_err-lent_refusal
returns-in_err-lent_refusal c = lent-refused _ _ _ _ c.if-tails-lt-HEAD_SIZE.false _ c.in_err-lent_refusal.ensures _ c.from_residual.ensures.1

pub mark_of-mark-requires : goal.mark_of-mark-requires
mark_of-mark-requires c = passed-long _ _ _ _ c.in_ok-lent_refusal.ensures

pub size_of-size-requires : goal.size_of-size-requires
size_of-size-requires c = passed-long _ _ _ _ c.in_ok-lent_refusal.ensures

pub returns : goal.returns
returns c =
    last-test _ _ _ _ c.if-tails-lt-HEAD_SIZE.false c.in_ok-lent_refusal.ensures c.mark_of-mark.ensures c.size_of-size.ensures
    c.checkpoint_refusal.ensures
