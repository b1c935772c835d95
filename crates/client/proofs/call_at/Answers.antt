-- What is left to show of `client::call_at`.
use mathlib.Core.Path.{refl}
use Rattle.model.specs.Clients.{call_at}
use Rattle.client.proofs.call_at.Goals as goal

pub returns : goal.returns
unfolding call_at
returns c = rw c.place_of.ensures.0 refl
