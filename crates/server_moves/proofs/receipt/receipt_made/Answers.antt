-- What is left to show of `server_moves::receipt::receipt_made`.
use mathlib.Core.Path.{◌∙◌}
use Rattle.server_memory.proofs.Settled.{by_refused, by_passed}
use Rattle.server_moves.proofs.Chains.{receipt-done}
use Rattle.server_moves.proofs.receipt.receipt_made.Goals as goal

pub returns-in_err-receipt_refusal : goal.returns-in_err-receipt_refusal
returns-in_err-receipt_refusal c log =
    let a = c.args in
    by_refused a.s.now log a.out.now _ _ (c.in_err-receipt_refusal.ensures ∙ rw (c.mark_of-mark.ensures, c.point_at-x.ensures)) _ c.from_residual.ensures.1

pub returns : goal.returns
returns c log =
    let a = c.args in
    by_passed a.s.now log a.out.now _ (c.in_ok-receipt_refusal.ensures ∙ rw (c.mark_of-mark.ensures, c.point_at-x.ensures))
    (receipt-done a.s.now log a.point a.out.now c.point_at-x.ensures c.server_of.ensures c.write_receipt.ensures)
