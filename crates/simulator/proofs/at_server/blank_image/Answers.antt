-- What is left to show of `simulator::at_server::blank_image`.
use mathlib.Core.Path.{refl}
use Rattle.model.specs.Simulator.{room}
use Rattle.simulator.proofs.at_server.blank_image.Goals as goal

pub returns : goal.returns
unfolding room
returns c = refl
