-- What is left to show of `state_records::front`.
use mathlib.Core.Bool.{not}
use mathlib.Core.Path.{ap}
use Rattle.model.specs.States.{records_start, record_row, completion_of}
use Rattle.model_laws.proofs.Searches.{row_hit, row_next, row_none}
use Rattle.state_records.specs.Rules.{front}
use Rattle.state_records.proofs.Search.{counted}
use Rattle.state_records.proofs.front.Goals as goal

pub returns-then-not-stays : goal.returns-then-not-stays
unfolding front
returns-then-not-stays c =
    rw (counted c.requires.0 c.requires.1)
    (row_hit completion_of record_row records_start c.args.n c.args.s.now c.loop-i.invariant c.loop-i-test.true
    (rw (← c.completion_from-r.ensures, ← c.stays.ensures) (ap not c.if-not-stays.true)))

pub loop-i-preserved : goal.loop-i-preserved
loop-i-preserved c =
    row_next completion_of record_row records_start c.args.n c.args.s.now c.loop-i.invariant c.loop-i-test.true
    (rw (← c.completion_from-r.ensures, ← c.stays.ensures) (ap not c.if-not-stays.false))

pub returns : goal.returns
unfolding front
returns c =
    rw (counted c.requires.0 c.requires.1)
    (row_none completion_of record_row records_start c.args.n c.args.s.now c.loop-i.invariant c.loop-i-test.false)
