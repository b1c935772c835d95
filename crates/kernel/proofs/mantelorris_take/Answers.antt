-- What is left to show of `kernel::mantelorris_take`.
use Rattle.kernel.proofs.Words.{returned_in}
use Rattle.kernel.proofs.mantelorris_take.Goals as goal

pub returns : goal.returns
returns c = returned_in c.outcome_word.ensures c.take.ensures
