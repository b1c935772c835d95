-- What is left to show of `state_sound_rows::row_ok`.
use mathlib.Core.Path.{sym, ◌∙◌}
use lib.ListN.{drop}
use Rattle.model_laws.proofs.Numbers.{bytes_drop}
use Rattle.state_sound_rows.specs.Parts.{row_ok}
use Rattle.state_sound_rows.proofs.Chains.{chain}
use Rattle.state_sound_rows.proofs.Heads.{held_row}
use Rattle.state_sound_rows.proofs.row_ok.Goals as goal

pub returns-then-not-plan_row_ok : goal.returns-then-not-plan_row_ok
unfolding row_ok
returns-then-not-plan_row_ok c = search chain depth 24

pub returns-then-held_head : goal.returns-then-held_head
returns-then-held_head c =
    let a = c.args in
    held_row a.server a.size c.plan_entry-e.result (drop a.k a.s.now) (bytes_drop a.k a.s.now (λ i. (c.type_inv.s i).fits))
    (sym c.held_head.ensures ∙ c.if-held_head.true) (drop a.j a.s.now) c.plan_entry-e.ensures
    (sym c.plan_row_ok.ensures ∙ c.if-not-plan_row_ok.false) (rw c.point_from-x.ensures at c.held_rest.ensures)

pub returns-then-not-point_row_ok : goal.returns-then-not-point_row_ok
unfolding row_ok
returns-then-not-point_row_ok c = search chain depth 24

pub returns : goal.returns
unfolding row_ok
returns c =
    let point = rw (c.plan_entry-e.ensures, c.point_from-x.ensures) at c.point_ok.ensures in
    search chain depth 24
