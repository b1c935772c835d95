-- What is left to show of `server_moves::give::give`.
use native.Mathlib.Omega.{arith}
use mathlib.Core.Path.{sym, ◌∙◌}
use mathlib.Core.List.{[]}
use Rattle.state_rows.proofs.Chains.{canonical-sound}
use Rattle.server_memory.proofs.Settled.{by_refused, by_passed}
use Rattle.server_moves.proofs.Chains.{give-is, give_ready}
use borrow.Author.Rules.{rules}
use Rattle.server_moves.proofs.give.give.Goals as goal

pub returns-in_err-give_number : goal.returns-in_err-give_number
returns-in_err-give_number c =
    let a = c.args in by_refused a.s.now a.log.now [] _ _ c.in_err-give_number.ensures _ c.from_residual.ensures.1 ∙ sym
    (give-is a.s.now a.log.now a.point a.destination)

pub overflow_cast-point : goal.overflow_cast-point
overflow_cast-point c =
    let a = c.args in let r = give_ready a.s.now a.log.now a.point a.destination c.in_ok-give_number.ensures in omega (arith, r.1.point)

pub overflow_cast-destination : goal.overflow_cast-destination
overflow_cast-destination c =
    let a = c.args in let r = give_ready a.s.now a.log.now a.point a.destination c.in_ok-give_number.ensures in omega (arith, r.1.destination)

pub give_done-requires : goal.give_done-requires
give_done-requires c =
    let a = c.args in let r = give_ready a.s.now a.log.now a.point a.destination c.in_ok-give_number.ensures in
    (canonical-sound a.s.now (search rules) r.0.sound, r.1, r.2)

pub returns : goal.returns
returns c =
    let a = c.args in by_passed a.s.now a.log.now [] _ c.in_ok-give_number.ensures c.give_done.ensures ∙ sym
    (give-is a.s.now a.log.now a.point a.destination)
