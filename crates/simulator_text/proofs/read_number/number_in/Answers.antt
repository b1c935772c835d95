-- What is left to show of `simulator_text::read_number::number_in`.
use Prim.Native.Nat.{◌+◌}
use mathlib.Core.Path.{refl, sym, ◌∙◌}
use native.Mathlib.Omega.{arith}
use Rattle.simulator_text.proofs.Fields.{digit_range, number-empty, left-off, left-next, left_big, left_end}
use Rattle.simulator_text.proofs.read_number.number_in.Goals as goal

pub returns-then-s-eq0 : goal.returns-then-s-eq0
returns-then-s-eq0 c = number-empty _ c.if-s-eq0.true

pub loop-b-init : goal.loop-b-init
loop-b-init c = (omega arith, refl)

pub returns-then-not-is_digit : goal.returns-then-not-is_digit
returns-then-not-is_digit c = left-off _ _ _ c.if-s-eq0.false c.loop-b.invariant.1
    c.loop-b-test.true c.is_digit.ensures c.if-not-is_digit.true

pub with_digit-value-requires : goal.with_digit-value-requires
with_digit-value-requires c = let d = digit_range _ (sym c.is_digit.ensures ∙ c.if-not-is_digit.false) in (c.loop-b.invariant.0, d.0, d.1)

pub returns-then-value-gt-LAST_32_U64 : goal.returns-then-value-gt-LAST_32_U64
returns-then-value-gt-LAST_32_U64 c =
    let more = left-next _ _ _ c.loop-b.invariant.1 c.loop-b-test.true c.is_digit.ensures c.if-not-is_digit.false c.with_digit-value.ensures in
    left_big c.args.s.now c.with_digit-value.result (c.loop-b.b-index + 1) c.if-s-eq0.false more c.if-value-gt-LAST_32_U64.true

pub loop-b-preserved : goal.loop-b-preserved
loop-b-preserved c =
    (omega arith, left-next _ _ _ c.loop-b.invariant.1 c.loop-b-test.true c.is_digit.ensures c.if-not-is_digit.false c.with_digit-value.ensures)

pub overflow_cast-result : goal.overflow_cast-result
overflow_cast-result c = omega arith

pub returns : goal.returns
returns c = left_end _ _ _ c.if-s-eq0.false c.loop-b.invariant.1 c.loop-b.invariant.0 c.loop-b-test.false
