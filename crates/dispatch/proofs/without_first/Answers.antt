-- What is left to show of `dispatch::without_first`.
use mathlib.Core.Path.{refl}
use native.Mathlib.Omega.{arith}
use Rattle.dispatch_claim.specs.Dispatcher.{shifted}
use Rattle.dispatch.proofs.Places.{count-least}
use Rattle.dispatch.proofs.without_first.Goals as goal

pub overflow_sub-result : goal.overflow_sub-result
overflow_sub-result c = omega (arith, count-least c.args.dispatcher c.requires, c.waiting_count.ensures)

pub returns : goal.returns
unfolding shifted
returns c = rw (c.moved_up.ensures, c.waiting_count.ensures) refl
