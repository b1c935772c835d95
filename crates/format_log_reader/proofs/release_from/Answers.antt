-- What is left to show of `format_log_reader::release_from`.
use Rattle.format_log_reader.specs.Answers.{release_from}
use Rattle.format_log_reader.proofs.Reading.{then-pick}
use Rattle.format_log_reader.proofs.release_from.Goals as goal

pub returns : goal.returns
unfolding release_from
returns c = rw (c.then_some.ensures, c.zero_at.ensures, c.zero_at-2.ensures, c.release_ok.ensures, c.release_at-release.ensures) (then-pick _ _)
