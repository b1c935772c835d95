-- What is left to show of `format_log_writer::GiveLogged::write`.
use Rattle.model.specs.Logs.{record_bytes, give_bytes}
use Rattle.model_laws.proofs.Written.{written-sets}
use Rattle.format_log_writer.proofs.GiveLogged.write.Goals as goal

pub returns : goal.returns
unfolding record_bytes give_bytes
returns c =
    rw (c.write_u32.ensures, c.write_4.ensures) (simp written-sets)
