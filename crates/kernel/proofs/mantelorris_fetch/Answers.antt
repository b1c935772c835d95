-- What is left to show of `kernel::mantelorris_fetch`.
use Rattle.kernel.proofs.Words.{returned_in}
use Rattle.kernel.proofs.mantelorris_fetch.Goals as goal

pub returns : goal.returns
returns c = returned_in c.outcome_word.ensures c.fetch.ensures
