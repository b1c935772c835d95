-- What is left to show of `kernel::mantelorris_request`.
use Rattle.kernel.proofs.Words.{returned_in}
use Rattle.kernel.proofs.mantelorris_request.Goals as goal

pub returns : goal.returns
returns c = returned_in c.word_of.ensures (rw c.request_answer.ensures c.request.ensures)
