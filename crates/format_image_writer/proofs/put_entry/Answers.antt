-- What is left to show of `format_image_writer::put_entry`.
use Prim.Native.Nat.{◌+◌}
use mathlib.Core.Path.{refl}
use native.Mathlib.Omega.{arith}
use Rattle.model.specs.Packets.{time_bytes}
use Rattle.model.specs.Images.{image_entry_bytes}
use Rattle.model.specs.Numbers.{le32, signed32, quad}
use Rattle.model_laws.specs.Runs.{last, run, stored_by, bytes_by}
use Rattle.model_laws.proofs.Written.{runs-stored}
use Rattle.format_image_writer.proofs.put_entry.Goals as goal

pub returns : goal.returns
unfolding image_entry_bytes time_bytes stored_by bytes_by
returns c =
    let start = c.args in
    let k = start.k in
    rw (c.write_u32-3.ensures, c.write_4.ensures, c.write_signed-2.ensures, c.write_signed.ensures, c.write_u32-2.ensures, c.write_u32.ensures)
    (runs-stored start.out.now k
    (run (le32 start.entry.client) (k + 4) refl
    (run (le32 start.entry.call) (k + 8) (omega arith)
    (run (signed32 start.entry.argument) (k + 12) (omega arith)
    (run (signed32 start.entry.result.value) (k + 16) (omega arith)
    (run (quad start.entry.op start.entry.result.outcome start.entry.result.quality 0) (k + 20) (omega arith)
    (last (le32 start.entry.result.time))))))))
