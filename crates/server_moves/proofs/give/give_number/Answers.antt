-- What is left to show of `server_moves::give::give_number`.
use native.Mathlib.Omega.{arith}
use mathlib.Core.Path.{refl, ◌∙◌}
use Rattle.format_numbers.proofs.Picks.{yes_call, no_call_lem}
use Rattle.server_memory.proofs.Settled.{passed-fit, passed-long}
use Rattle.server_moves.specs.Numbers.{give_number}
use Rattle.server_moves.proofs.Chains.{first_no, first_yes, places-good}
use Rattle.server_moves.proofs.give.give_number.Goals as goal

pub returns-in_err-lent_refusal : goal.returns-in_err-lent_refusal
unfolding give_number
returns-in_err-lent_refusal c = first_no _ _ c.in_err-lent_refusal.ensures _ c.from_residual.ensures.1

pub returns-then-places_bad : goal.returns-then-places_bad
unfolding give_number
returns-then-places_bad c = first_yes c.in_ok-lent_refusal.ensures (yes_call _ c.places_bad.ensures c.if-places_bad.true refl)

pub overflow_cast-point : goal.overflow_cast-point
overflow_cast-point c = omega (arith, (places-good _ _ c.places_bad.ensures c.if-places_bad.false).0)

pub point_at-x-requires : goal.point_at-x-requires
point_at-x-requires c = (passed-long _ _ _ _ c.in_ok-lent_refusal.ensures, (places-good _ _ c.places_bad.ensures c.if-places_bad.false).0)

pub server_of-server-requires : goal.server_of-server-requires
server_of-server-requires c =
    passed-long _ _ _ _ c.in_ok-lent_refusal.ensures

pub free_in-free-requires : goal.free_in-free-requires
free_in-free-requires c =
    (passed-long _ _ _ _ c.in_ok-lent_refusal.ensures, (passed-fit _ _ _ _ c.in_ok-lent_refusal.ensures).logged)

pub returns : goal.returns
unfolding give_number
returns c =
    first_yes c.in_ok-lent_refusal.ensures (no_call_lem _ c.places_bad.ensures c.if-places_bad.false
    (c.give_refusal.ensures ∙ rw (c.free_in-free.ensures, c.server_of-server.ensures, c.point_at-x.ensures)))
