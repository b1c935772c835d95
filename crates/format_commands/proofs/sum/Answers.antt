-- What is left to show of `format_commands::sum`.
use native.Mathlib.Omega.{arith}
use Rattle.model_laws.proofs.Bounds.{sum_bounds}
use Rattle.format_commands.proofs.sum.Goals as goal

pub overflow_sub-result : goal.overflow_sub-result
overflow_sub-result c = omega (arith, sum_bounds c.args.e c.args.v c.args.argument c.requires)

pub overflow_cast-result-3 : goal.overflow_cast-result-3
overflow_cast-result-3 c = omega (arith, sum_bounds c.args.e c.args.v c.args.argument c.requires)
