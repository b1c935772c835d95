-- What is left to show of `format_image_reader::entries_ok`.
use native.Mathlib.Omega.{arith}
use mathlib.Core.Path.{ap}
use mathlib.Core.Bool.{not}
use Rattle.model_laws.proofs.Tables.{rows_left}
use Rattle.model_laws.proofs.Loops.{walk-true}
use Rattle.format_image_reader.proofs.Tables.{ids_ordered, beside_start, beside_next, beside_false}
use Rattle.format_image_reader.proofs.entries_ok.Goals as goal

pub loop-i-init : goal.loop-i-init
loop-i-init c = beside_start _ _ _ _ _ _ _

pub entry_step-requires : goal.entry_step-requires
entry_step-requires c =
    (c.requires.0, omega (arith, c.requires, c.entry_at-k.ensures, rows_left c.args.width _ c.args.entries c.loop-i-test.true))

pub returns-then-not-entry_step : goal.returns-then-not-entry_step
returns-then-not-entry_step c =
    beside_false c.loop-i.invariant c.requires.3 c.loop-i-test.true (rw c.entry_at-k.ensures at c.entry_from-entry.ensures) c.next_floor-j.ensures
    c.floor_here-floor.ensures (rw c.entry_at-k.ensures at c.entry_step.ensures) (ap not c.if-not-entry_step.true)

pub loop-i-preserved : goal.loop-i-preserved
loop-i-preserved c =
    beside_next c.loop-i.invariant c.requires.3 c.loop-i-test.true (rw c.entry_at-k.ensures at c.entry_from-entry.ensures) c.next_floor-j.ensures
    c.floor_here-floor.ensures (rw c.entry_at-k.ensures at c.entry_step.ensures) (ap not c.if-not-entry_step.false)

pub returns : goal.returns
returns c = walk-true c.loop-i.invariant.walk ids_ordered c.loop-i-test.false
