-- What is left to show of `simulator_c::word_of`.
use Rattle.model.specs.Operations.{word_of}
use borrow.Author.Rules.{rules}
use Rattle.simulator_c.proofs.word_of.Goals as goal

pub returns : goal.returns
unfolding word_of
returns c = search rules
