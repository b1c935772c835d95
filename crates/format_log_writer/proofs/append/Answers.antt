-- What is left to show of `format_log_writer::append`.
use Rattle.model.specs.Logs.{record_bytes}
use Rattle.model_laws.proofs.Written.{tail-back}
use Rattle.format_log_writer.proofs.append.Goals as goal

pub returns : goal.returns
returns g c =
    let start = c.args in
    rw c.write.ensures (tail-back start.at start.log.now (record_bytes (g.R.Logged.log_record start.item)))
