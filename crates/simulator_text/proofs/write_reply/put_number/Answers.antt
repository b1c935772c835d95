-- What is left to show of `simulator_text::write_reply::put_number`.
use Rattle.model.specs.Simulator.{shown}
use Rattle.simulator_text.proofs.write_reply.put_number.Goals as goal

pub returns : goal.returns
unfolding shown
returns c = c.put_digits.ensures
