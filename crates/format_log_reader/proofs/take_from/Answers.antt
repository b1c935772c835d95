-- What is left to show of `format_log_reader::take_from`.
use Rattle.format_log_reader.specs.Answers.{take_from}
use Rattle.format_log_reader.proofs.Reading.{then-pick}
use Rattle.format_log_reader.proofs.take_from.Goals as goal

pub returns : goal.returns
unfolding take_from
returns c = rw (c.then_some.ensures, c.zeros3_at.ensures, c.image_ok-image.ensures) (then-pick _ _)
