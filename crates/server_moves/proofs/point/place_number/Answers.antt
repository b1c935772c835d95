-- What is left to show of `server_moves::point::place_number`.
use mathlib.Core.Path.{refl}
use borrow.Author.Tests.{lt-ltb, le-ltb}
use Rattle.format_numbers.proofs.Picks.{yes, no}
use Rattle.server_moves.specs.Numbers.{place_number}
use Rattle.server_moves.proofs.Chains.{first_no, first_yes}
use Rattle.server_moves.proofs.point.place_number.Goals as goal

pub returns-in_err-lent_refusal : goal.returns-in_err-lent_refusal
unfolding place_number
returns-in_err-lent_refusal c = first_no _ _ c.in_err-lent_refusal.ensures _ c.from_residual.ensures.1

pub returns-then-point-gt-LAST_POINT_U32 : goal.returns-then-point-gt-LAST_POINT_U32
unfolding place_number
returns-then-point-gt-LAST_POINT_U32 c = first_yes c.in_ok-lent_refusal.ensures (yes _ (lt-ltb _ _ c.if-point-gt-LAST_POINT_U32.true) refl)

pub returns : goal.returns
unfolding place_number
returns c = first_yes c.in_ok-lent_refusal.ensures (no _ (le-ltb _ _ c.if-point-gt-LAST_POINT_U32.false) refl)
