-- What is left to show of `state_records::find`.
use mathlib.Core.Path.{sym, ◌∙◌}
use Rattle.model.specs.States.{records_start, record_row, completion_of}
use Rattle.model_laws.proofs.Searches.{row_next}
use Rattle.state_records.proofs.Search.{counted, find_hit, find_none}
use Rattle.state_records.proofs.find.Goals as goal

pub returns-then-is_id : goal.returns-then-is_id
returns-then-is_id c =
    let a = c.args in
    find_hit a.client a.call a.s.now _ c.loop-i.invariant (counted c.requires c.records_of-n.ensures)
    c.loop-i-test.true (sym c.is_id.ensures ∙ c.if-is_id.true)
    c.completion_from.ensures

pub loop-i-preserved : goal.loop-i-preserved
loop-i-preserved c =
    row_next completion_of record_row records_start _ c.args.s.now c.loop-i.invariant c.loop-i-test.true
    (sym c.is_id.ensures ∙ c.if-is_id.false)

pub returns : goal.returns
returns c =
    let a = c.args in
    find_none a.client a.call a.s.now _ c.loop-i.invariant (counted c.requires c.records_of-n.ensures) c.loop-i-test.false
