-- What is left to show of `format_log_writer::ExecutedLogged::write`.
use Rattle.model.specs.Packets.{time_bytes}
use Rattle.model.specs.Logs.{record_bytes, executed_kind_of, executed_bytes}
use Rattle.model_laws.proofs.Written.{written-sets}
use Rattle.format_log_writer.proofs.ExecutedLogged.write.Goals as goal

pub returns : goal.returns
unfolding record_bytes executed_bytes executed_kind_of time_bytes
returns c =
    rw (
      c.requires.0,
      c.write_u32-4.ensures,
      c.write_4-2.ensures,
      c.write_signed-2.ensures,
      c.write_signed.ensures,
      c.write_u32-3.ensures,
      c.write_u32-2.ensures,
      c.write_u32.ensures,
      c.write_4.ensures,
    ) (simp written-sets)
