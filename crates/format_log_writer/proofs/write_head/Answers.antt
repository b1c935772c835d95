-- What is left to show of `format_log_writer::write_head`.
use Rattle.model.specs.Logs.{head_bytes}
use Rattle.model_laws.proofs.Written.{written-sets}
use Rattle.format_log_writer.proofs.write_head.Goals as goal

pub returns : goal.returns
unfolding head_bytes
returns c =
    rw (c.write_4.ensures, c.write_magic.ensures) (simp written-sets)
