-- What is left to show of `dispatch::no_waiting`.
use mathlib.Core.Path.{refl}
use Rattle.dispatch_claim.specs.Dispatcher.{no_waiting}
use Rattle.dispatch.proofs.no_waiting.Goals as goal

pub returns : goal.returns
unfolding no_waiting
returns c = rw c.no_request.ensures refl
