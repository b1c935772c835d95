-- What is left to show of `client::start_fields`.
use mathlib.Core.Path.{refl}
use Rattle.model.specs.Clients.{start_with}
use Rattle.client.proofs.start_fields.Goals as goal

pub returns-in_default : goal.returns-in_default
unfolding start_with
returns-in_default c = rw (← c.parse_start.ensures, c.in_default.is) refl
