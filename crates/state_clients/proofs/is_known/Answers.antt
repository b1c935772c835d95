-- What is left to show of `state_clients::is_known`.
use mathlib.Core.Path.{◌∙◌}
use Rattle.model.specs.States.{load}
use Rattle.state_clients.proofs.Loops.{known_ok}
use Rattle.state_clients.proofs.is_known.Goals as goal

pub returns : goal.returns
returns c = c.is_ok.ensures.value ∙ known_ok c.args.client (load c.args.s.now).floors c.place.ensures
