-- What is left to show of `simulator_text::read_line::numbers_in`.
use native.Mathlib.Omega.{arith}
use Rattle.std.proofs.Common.{eqb, rules, tests}
use Rattle.std.proofs.lemmas.Iterator.Splits.{YieldsList-from_slice_split}
use Rattle.model.specs.Letters.{space}
use Rattle.simulator_text.proofs.Lines.{fields_start, fields_next, fields_end, reading-off, reading-next, reading-end, field_most}
use Rattle.simulator_text.proofs.read_line.numbers_in.Goals as goal

pub loop-field-init : goal.loop-field-init
loop-field-init c =
    let e = c.split-field-items.ensures in
    rw c.into_iter-field-iterator.ensures.into_iter_gives
    (fields_start c.args.ns.now (YieldsList-from_slice_split _ (λ b. eqb b space) c.args.s.now e.rest e.done e.closure (λ x b q k. search (rules, tests))) c.requires)

pub returns-in_err-ns-clause-read : goal.returns-in_err-ns-clause-read
returns-in_err-ns-clause-read c =
    let m = fields_next c.loop-field.invariant c.in-Some.field c.next.new.self c.in-Some.ensures.steps in
    rw c.from_residual.ensures (reading-off m.2 c.in_err-ns.ensures)

pub offset_bounds-ns-k : goal.offset_bounds-ns-k
offset_bounds-ns-k c = omega (arith, field_most c.loop-field.k c.in-Some.field.now c.in_ok-ns.ensures)

pub bounds-ns-k : goal.bounds-ns-k
bounds-ns-k c = omega (arith, field_most c.loop-field.k c.in-Some.field.now c.in_ok-ns.ensures, c.loop-field.invariant.reading.long)

pub overflow_add-k : goal.overflow_add-k
overflow_add-k c = omega (arith, c.loop-field.invariant.reading.most)

pub loop-field-preserved : goal.loop-field-preserved
loop-field-preserved c =
    let m = fields_next c.loop-field.invariant c.in-Some.field c.next.new.self c.in-Some.ensures.steps in
    record { fields = m.0; gives = m.1; reading = reading-next m.2 c.in_ok-ns.ensures }

pub returns-clause-within : goal.returns-clause-within
returns-clause-within c = c.loop-field.invariant.reading.most

pub returns-clause-read : goal.returns-clause-read
returns-clause-read c = reading-end (fields_end c.loop-field.invariant c.next.new.self c.in-None.ensures.steps)
