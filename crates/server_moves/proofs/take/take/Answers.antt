-- What is left to show of `server_moves::take::take`.
use mathlib.Core.Path.{sym, ap, ◌∙◌}
use mathlib.Core.List.{[]}
use Rattle.model.specs.Operations.{settle}
use Rattle.server_memory.proofs.Settled.{by_refused, by_passed, passed-fit}
use Rattle.server_moves.proofs.Taken.{take-is, take-malformed, take_read, taking}
use borrow.Author.Rules.{rules}
use Rattle.server_moves.proofs.take.take.Goals as goal

pub returns-in_err-lent_refusal : goal.returns-in_err-lent_refusal
returns-in_err-lent_refusal c =
    let a = c.args in
    by_refused a.s.now a.log.now [] _ _ c.in_err-lent_refusal.ensures _ c.from_residual.ensures.1
    ∙ sym (take-is a.s.now a.log.now a.image.now)

pub returns-in_err-h : goal.returns-in_err-h
returns-in_err-h c =
    let a = c.args in
    by_passed a.s.now a.log.now [] _ c.in_ok-lent_refusal.ensures
    (take-malformed a.s.now a.log.now a.image.now (sym c.in_err-h.ensures.ok_part ∙ c.image_read.ensures)
    (rw c.in_err-h.ensures.ok_part at c.in_err-h.ensures.value) _ c.from_residual-in_err-h.ensures.1)
    ∙ sym (take-is a.s.now a.log.now a.image.now)

pub take_by-requires : goal.take_by-requires
take_by-requires c =
    let a = c.args in
    taking a.s.now a.log.now a.image.now _ (passed-fit _ _ _ _ c.in_ok-lent_refusal.ensures) (search rules)
    (search rules)
    (sym c.in_ok-h.ensures.ok_part ∙ c.image_read.ensures)

pub returns : goal.returns
returns c =
    let a = c.args in
    by_passed a.s.now a.log.now [] _ c.in_ok-lent_refusal.ensures
    (c.take_by.ensures ∙ sym (ap (settle a.s.now a.log.now []) (take_read a.s.now a.log.now
    a.image.now _ (sym c.in_ok-h.ensures.ok_part ∙ c.image_read.ensures))))
    ∙ sym (take-is a.s.now a.log.now a.image.now)
