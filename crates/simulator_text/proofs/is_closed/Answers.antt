-- What is left to show of `simulator_text::is_closed`.
use Rattle.simulator_text.specs.Values.{closed}
use Rattle.simulator_text.proofs.is_closed.Goals as goal

pub returns : goal.returns
unfolding closed
returns c = rw (← c.line_feeds.ensures)
