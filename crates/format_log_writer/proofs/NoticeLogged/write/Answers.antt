-- What is left to show of `format_log_writer::NoticeLogged::write`.
use Rattle.model.specs.Logs.{record_bytes}
use Rattle.format_log_writer.proofs.NoticeLogged.write.Goals as goal

pub returns : goal.returns
unfolding record_bytes
returns c = c.write_notice.ensures
