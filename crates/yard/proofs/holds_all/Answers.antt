-- What is left to show of `yard::holds_all`.
use Rattle.yard.proofs.holds_all.Goals as goal

pub returns : goal.returns
returns c = rw (← c.is_closed.ensures)
