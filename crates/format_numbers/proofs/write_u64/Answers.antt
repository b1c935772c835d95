-- What is left to show of `format_numbers::write_u64`.
use mathlib.Core.Path.{sym}
use Prim.Native.Nat.{◌/◌, ◌%◌}
use Rattle.model_laws.proofs.Written.{written-append}
use Rattle.model.specs.Numbers.{le32, le64, word}
use Rattle.format_numbers.proofs.write_u64.Goals as goal

pub returns : goal.returns
unfolding le64
returns c =
    let start = c.args in
    rw (c.write_u32-2.ensures, c.write_u32.ensures)
    (sym (written-append start.s.now start.at (le32 (start.value % word)) (le32 (start.value / word))))
