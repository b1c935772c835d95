-- What is left to show of `server_memory::lent_refusal`.
use Rattle.model.specs.Operations.{short, lent_refusal}
use Rattle.format_numbers.proofs.Picks.{picks}
use Rattle.server_memory.proofs.Settled.{long_enough}
use Rattle.server_memory.proofs.lent_refusal.Goals as goal

pub returns-then-s-n : goal.returns-then-s-n
unfolding lent_refusal short
returns-then-s-n c = search picks depth 24

pub is_unfit-requires : goal.is_unfit-requires
is_unfit-requires c = let start = c.args in long_enough start.s.now start.n start.need c.if-s-n.false

pub returns-then-is_unfit : goal.returns-then-is_unfit
unfolding lent_refusal short
returns-then-is_unfit c = search picks depth 24

pub returns : goal.returns
unfolding lent_refusal short
returns c = search picks depth 24
