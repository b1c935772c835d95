-- What is left to show of `kernel::mantelorris_found`.
use Rattle.kernel.proofs.Words.{returned_in}
use Rattle.kernel.proofs.mantelorris_found.Goals as goal

pub returns : goal.returns
returns c = returned_in c.outcome_word.ensures c.found.ensures
