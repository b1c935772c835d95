-- What is left to show of `format_commands::checked_rule`.
use mathlib.Core.Path.{refl, sym}
use native.Mathlib.Omega.{arith}
use Rattle.model.specs.Limits.{set_op, step_op, report_op}
use Rattle.model.specs.Rules.{rule_of, argument_range}
use Rattle.format_commands.proofs.Checked.{inside, outside, other, any_argument}
use Rattle.format_commands.proofs.checked_rule.Goals as goal

pub returns-then-argument_ok : goal.returns-then-argument_ok
unfolding rule_of
returns-then-argument_ok c =
    let start = c.args in
    inside start.e start.op start.argument start.reading c.in-0.is c.argument_ok.ensures c.if-argument_ok.true c.unchanged.ensures

pub returns-else-argument_ok : goal.returns-else-argument_ok
returns-else-argument_ok c =
    let start = c.args in
    outside start.e start.op start.argument start.reading c.in-0.is c.argument_ok.ensures c.if-argument_ok.false
    c.unchanged-else-argument_ok.ensures

pub returns-in-1 : goal.returns-in-1
unfolding rule_of argument_range
returns-in-1 c =
    let start = c.args in
    inside start.e start.op start.argument start.reading c.in-1.is (sym (any_argument set_op start.argument refl (omega arith))) refl c.set_rule.ensures

pub returns-in-2 : goal.returns-in-2
unfolding rule_of argument_range
returns-in-2 c =
    let start = c.args in
    inside start.e start.op start.argument start.reading c.in-2.is (sym (any_argument step_op start.argument refl (omega arith))) refl c.step_rule.ensures

pub returns-in-3 : goal.returns-in-3
unfolding rule_of argument_range
returns-in-3 c =
    let start = c.args in
    inside start.e start.op start.argument start.reading c.in-3.is (sym (any_argument report_op start.argument refl (omega arith))) refl c.report_rule.ensures

pub returns-then-argument_ok-2 : goal.returns-then-argument_ok-2
unfolding rule_of
returns-then-argument_ok-2 c =
    let start = c.args in
    inside start.e start.op start.argument start.reading c.in-4.is c.argument_ok-in-4.ensures c.if-argument_ok-2.true
    c.fault_rule.ensures

pub returns-else-argument_ok-2 : goal.returns-else-argument_ok-2
returns-else-argument_ok-2 c =
    let start = c.args in
    outside start.e start.op start.argument start.reading c.in-4.is c.argument_ok-in-4.ensures c.if-argument_ok-2.false
    c.unchanged-else-argument_ok-2.ensures

pub returns-then-argument_ok-3 : goal.returns-then-argument_ok-3
unfolding rule_of
returns-then-argument_ok-3 c =
    let start = c.args in
    inside start.e start.op start.argument start.reading c.in-5.is c.argument_ok-in-5.ensures c.if-argument_ok-3.true
    c.part_rule.ensures

pub returns-else-argument_ok-3 : goal.returns-else-argument_ok-3
returns-else-argument_ok-3 c =
    let start = c.args in
    outside start.e start.op start.argument start.reading c.in-5.is c.argument_ok-in-5.ensures c.if-argument_ok-3.false
    c.unchanged-else-argument_ok-3.ensures

pub returns-in-6-to-255 : goal.returns-in-6-to-255
returns-in-6-to-255 c =
    let start = c.args in
    other start.e start.op start.argument start.reading (omega arith) c.unchanged-in-6-to-255.ensures
