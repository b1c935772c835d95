-- What is left to show of `format_log_reader::give_from`.
use Rattle.format_log_reader.specs.Answers.{give_from}
use Rattle.format_log_reader.proofs.Reading.{then-pick}
use Rattle.format_log_reader.proofs.give_from.Goals as goal

pub returns : goal.returns
unfolding give_from
returns c = rw (c.then_some.ensures, c.zero_at.ensures, c.give_ok.ensures, c.give_at-g.ensures) (then-pick _ _)
