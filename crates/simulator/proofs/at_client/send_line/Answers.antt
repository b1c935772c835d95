-- What is left to show of `simulator::at_client::send_line`.
use Rattle.simulator.proofs.Receptions.{send_by}
use mathlib.Core.Path.{refl}
use Rattle.simulator.proofs.at_client.send_line.Goals as goal

pub returns : goal.returns
returns c = send_by _ _ _ _ refl c.sent-made.ensures
