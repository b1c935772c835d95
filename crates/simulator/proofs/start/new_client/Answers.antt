-- What is left to show of `simulator::start::new_client`.
use mathlib.Core.Path.{refl}
use Rattle.model.specs.Simulator.{simulator_client}
use Rattle.simulator.proofs.start.new_client.Goals as goal

pub returns : goal.returns
unfolding simulator_client
returns c = refl
