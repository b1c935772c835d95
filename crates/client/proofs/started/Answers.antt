-- What is left to show of `client::started`.
use mathlib.Core.Path.{refl, sym}
use Rattle.model.specs.Clients.{start_with}
use Rattle.client.proofs.Others.{not-grant}
use Rattle.client.proofs.started.Goals as goal

pub returns-in_default : goal.returns-in_default
returns-in_default c = sym (not-grant c.args.packet c.in_default.not-Granted)

pub returns : goal.returns
unfolding start_with
returns c = rw c.in-Granted.is refl
