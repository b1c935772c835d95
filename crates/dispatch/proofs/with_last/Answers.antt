-- What is left to show of `dispatch::with_last`.
use mathlib.Core.Path.{refl}
use Rattle.dispatch_claim.specs.Dispatcher.{with_last}
use Rattle.dispatch.proofs.with_last.Goals as goal

pub returns : goal.returns
unfolding with_last
returns c = refl
