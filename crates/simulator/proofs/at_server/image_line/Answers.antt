-- What is left to show of `simulator::at_server::image_line`.
use Rattle.simulator.proofs.at_server.image_line.Goals as goal

pub returns : goal.returns
returns c = rw (← c.blank_image-out.ensures) c.image_to.ensures
