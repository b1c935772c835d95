-- What is left to show of `format_log_writer::ReleaseLogged::write`.
use Rattle.model.specs.Logs.{record_bytes, release_bytes}
use Rattle.model_laws.proofs.Written.{written-sets}
use Rattle.format_log_writer.proofs.ReleaseLogged.write.Goals as goal

pub returns : goal.returns
unfolding record_bytes release_bytes
returns c =
    rw (c.write_u32.ensures, c.write_4.ensures) (simp written-sets)
