-- What is left to show of `kernel::mantelorris_checkpoint`.
use Rattle.kernel.proofs.Words.{checkpoint_in}
use Rattle.kernel.proofs.mantelorris_checkpoint.Goals as goal

pub returns : goal.returns
returns c = checkpoint_in c.outcome_word.ensures c.checkpoint.ensures
