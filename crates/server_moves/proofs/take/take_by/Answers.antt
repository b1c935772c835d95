-- What is left to show of `server_moves::take::take_by`.
use mathlib.Core.Path.{sym, ◌∙◌}
use mathlib.Core.List.{[]}
use Rattle.server_memory.proofs.Settled.{by_refused, by_passed}
use Rattle.server_moves.proofs.Taken.{take-chain, take_ready}
use Rattle.server_moves.proofs.take.take_by.Goals as goal

pub returns-in_err-take_number : goal.returns-in_err-take_number
returns-in_err-take_number c =
    let a = c.args in
    by_refused a.s.now a.log.now [] _ _ c.in_err-take_number.ensures _ c.from_residual.ensures.1
    ∙ sym (take-chain a.s.now a.log.now a.image.now a.h)

pub take_done-requires : goal.take_done-requires
take_done-requires c =
    let a = c.args in (c.requires, take_ready a.s.now a.log.now a.image.now a.h c.in_ok-take_number.ensures)

pub returns : goal.returns
returns c =
    let a = c.args in
    by_passed a.s.now a.log.now [] _ c.in_ok-take_number.ensures c.take_done.ensures
    ∙ sym (take-chain a.s.now a.log.now a.image.now a.h)
