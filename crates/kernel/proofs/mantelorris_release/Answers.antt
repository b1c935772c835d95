-- What is left to show of `kernel::mantelorris_release`.
use Rattle.kernel.proofs.Words.{returned_in}
use Rattle.kernel.proofs.mantelorris_release.Goals as goal

pub returns : goal.returns
returns c = returned_in c.outcome_word.ensures c.release.ensures
