-- What is left to show of `kernel::mantelorris_serve`.
use Rattle.kernel.proofs.Words.{served_in}
use Rattle.kernel.proofs.mantelorris_serve.Goals as goal

pub returns : goal.returns
returns c =
    served_in c.serve-served.result c.word_of.ensures c.serve-served.ensures
