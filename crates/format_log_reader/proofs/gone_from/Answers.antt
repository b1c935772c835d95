-- What is left to show of `format_log_reader::gone_from`.
use Rattle.format_log_reader.specs.Answers.{gone_from}
use Rattle.format_log_reader.proofs.Reading.{then-pick}
use Rattle.format_log_reader.proofs.gone_from.Goals as goal

pub returns : goal.returns
unfolding gone_from
returns c = rw (c.then_some.ensures, c.zeros3_at.ensures, c.notice_ok.ensures, c.notice_at-notice.ensures) (then-pick _ _)
