-- What is left to show of `format_numbers::flipped`.
use Rattle.model.specs.Numbers.{flip}
use native.Mathlib.Omega.{arith}
use Rattle.format_numbers.proofs.flipped.Goals as goal

pub returns-then-v-lt-HALF : goal.returns-then-v-lt-HALF
unfolding flip
returns-then-v-lt-HALF c = omega arith

pub returns-else-v-lt-HALF : goal.returns-else-v-lt-HALF
unfolding flip
returns-else-v-lt-HALF c = omega arith
