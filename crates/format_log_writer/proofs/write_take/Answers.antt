-- What is left to show of `format_log_writer::write_take`.
use native.Mathlib.Omega.{arith}
use Rattle.format_log_writer.proofs.Writing.{ok-most, took-back}
use Rattle.format_log_writer.proofs.write_take.Goals as goal

pub overflow_cast-image : goal.overflow_cast-image
overflow_cast-image c = omega (arith, ok-most _ c.requires.0)

pub returns : goal.returns
returns c =
    let args = c.args in
    rw (c.copy_bytes.ensures, c.write_take_front.ensures)
    (took-back args.out.now args.image.now (λ i. (c.type_inv.image i).fits) c.requires.0)
