-- What is left to show of `format_numbers::argument_ok`.
use native.Mathlib.Omega.{arith}
use Rattle.model.specs.Rules.{argument_ok, argument_range}
use Rattle.format_numbers.proofs.Past.{no_arguments}
use Rattle.format_numbers.proofs.argument_ok.Goals as goal

pub returns-in-0 : goal.returns-in-0
unfolding argument_ok argument_range
returns-in-0 c = rw c.in-0.is c.in_arguments.ensures

pub returns-in-1 : goal.returns-in-1
unfolding argument_ok argument_range
returns-in-1 c = rw c.in-1.is c.in_arguments-in-1.ensures

pub returns-in-2 : goal.returns-in-2
unfolding argument_ok argument_range
returns-in-2 c = rw c.in-2.is c.in_arguments-in-2.ensures

pub returns-in-3 : goal.returns-in-3
unfolding argument_ok argument_range
returns-in-3 c = rw c.in-3.is c.in_arguments-in-3.ensures

pub returns-in-4 : goal.returns-in-4
unfolding argument_ok argument_range
returns-in-4 c = rw c.in-4.is c.in_arguments-in-4.ensures

pub returns-in-5 : goal.returns-in-5
unfolding argument_ok argument_range
returns-in-5 c = rw c.in-5.is c.in_arguments-in-5.ensures

pub returns-in-6-to-255 : goal.returns-in-6-to-255
returns-in-6-to-255 c = no_arguments c.args.op c.args.argument (omega arith)
