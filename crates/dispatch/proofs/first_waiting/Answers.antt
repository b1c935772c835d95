-- What is left to show of `dispatch::first_waiting`.
use mathlib.Core.Path.{refl}
use Rattle.dispatch_claim.specs.Dispatcher.{first_waiting}
use Rattle.dispatch.proofs.first_waiting.Goals as goal

pub returns : goal.returns
unfolding first_waiting
returns c = refl
