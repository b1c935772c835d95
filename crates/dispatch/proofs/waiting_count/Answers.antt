-- What is left to show of `dispatch::waiting_count`.
use native.Mathlib.Omega.{arith}
use Rattle.std.proofs.lemmas.Grind.{common_steps}
use Rattle.dispatch_claim.specs.Dispatcher.{waiting_count}
use Rattle.dispatch.proofs.waiting_count.Goals as goal

pub returns : goal.returns
unfolding waiting_count
returns c = grind (arith, common_steps)
