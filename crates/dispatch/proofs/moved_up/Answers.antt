-- What is left to show of `dispatch::moved_up`.
use mathlib.Core.Path.{◌≡◌, refl}
use native.Mathlib.Omega.{arith}
use borrow.Author.Rules.{rules}
use Rattle.dispatch_claim.specs.Dispatcher.{no_request}
use Rattle.dispatch.proofs.Places.{moved-next, moved-end}
use Rattle.dispatch.proofs.moved_up.Goals as goal

pub loop-i-init : goal.loop-i-init
loop-i-init c = (search rules, refl)

pub loop-i-preserved : goal.loop-i-preserved
loop-i-preserved c =
    let l = c.loop-i in (l.invariant.0, moved-next c.args.requests no_request l.i l.invariant.1 (omega arith))

pub returns : goal.returns
returns c =
    let l = c.loop-i in
    let e : l.i ≡ 31 = omega arith in
    rw c.no_request.ensures (moved-end c.args.requests no_request 31 (rw e at l.invariant.1) l.invariant.0)
