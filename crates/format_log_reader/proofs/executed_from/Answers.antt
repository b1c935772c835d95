-- What is left to show of `format_log_reader::executed_from`.
use Rattle.format_log_reader.specs.Answers.{executed_from}
use native.Mathlib.Omega.{arith}
use Rattle.format_log_reader.proofs.Reading.{size-least, then-pick}
use Rattle.format_log_reader.proofs.executed_from.Goals as goal

pub zeros3_at-requires : goal.zeros3_at-requires
zeros3_at-requires c = omega (arith, size-least _ _ c.requires)

pub returns : goal.returns
unfolding executed_from
returns c = rw (c.then_some.ensures, c.zeros3_at.ensures, c.executed_ok.ensures, c.executed_at-executed.ensures) (then-pick _ _)
