-- What is left to show of `format_log_writer::write_take_front`.
use Rattle.format_log_writer.specs.Fronts.{take_front}
use Rattle.model_laws.proofs.Written.{written-sets}
use Rattle.format_log_writer.proofs.write_take_front.Goals as goal

pub returns : goal.returns
unfolding take_front
returns c =
    rw (c.write_u32.ensures, c.write_4.ensures) (simp written-sets)
