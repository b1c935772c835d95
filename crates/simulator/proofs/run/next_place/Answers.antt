-- What is left to show of `simulator::run::next_place`.
use Rattle.format_numbers.proofs.Picks.{picks}
use native.Mathlib.Omega.{arith}
use Rattle.simulator.proofs.run.next_place.Goals as goal

pub overflow_add-result : goal.overflow_add-result
overflow_add-result c = omega arith

pub returns-then-end-n : goal.returns-then-end-n
returns-then-end-n c = search picks depth 8

pub returns-else-end-n : goal.returns-else-end-n
returns-else-end-n c = search picks depth 8
