-- What is left to show of `server_moves::receipt::receipt`.
use native.Mathlib.Omega.{arith}
use mathlib.Core.Path.{sym, ◌∙◌}
use Rattle.server_memory.proofs.Settled.{by_refused, by_passed}
use Rattle.server_moves.proofs.Chains.{receipt-is, place_ready}
use Rattle.server_moves.proofs.receipt.receipt.Goals as goal

pub returns-in_err-place_number : goal.returns-in_err-place_number
returns-in_err-place_number c =
    let a = c.args in
    by_refused a.s.now a.log.now a.out.now _ _ c.in_err-place_number.ensures _ c.from_residual.ensures.1
    ∙ sym (receipt-is a.s.now a.log.now a.point a.out.now)

pub overflow_cast-point : goal.overflow_cast-point
overflow_cast-point c =
    let a = c.args in
    omega (arith, (place_ready a.s.now a.log.now a.point c.in_ok-place_number.ensures).1)

pub receipt_made-requires : goal.receipt_made-requires
receipt_made-requires c =
    let a = c.args in
    let r = place_ready a.s.now a.log.now a.point c.in_ok-place_number.ensures in
    (omega (arith, r.0.long), r.1, r.0.room)

pub returns : goal.returns
returns c =
    let a = c.args in
    by_passed a.s.now a.log.now a.out.now _ c.in_ok-place_number.ensures (c.receipt_made.ensures a.log.now)
    ∙ sym (receipt-is a.s.now a.log.now a.point a.out.now)
