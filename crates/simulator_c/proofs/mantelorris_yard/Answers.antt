-- What is left to show of `simulator_c::mantelorris_yard`.
use Rattle.simulator_c.proofs.Words.{returned_in}
use Rattle.simulator_c.proofs.mantelorris_yard.Goals as goal

pub returns : goal.returns
returns c = returned_in c.word_of.ensures (rw c.answer.ensures c.simulate.ensures)
