-- What is left to show of `format_image_reader::entry_step`.
use Prim.Native.Nat.{◌+◌}
use native.Mathlib.Omega.{arith}
use Rattle.model_laws.proofs.Images.{row_least}
use Rattle.model_laws.proofs.Tables.{row_in}
use Rattle.format_image_reader.proofs.Tables.{entry-last, entry-before}
use Rattle.format_image_reader.proofs.entry_step.Goals as goal

pub entry_row_ok-zero-requires : goal.entry_row_ok-zero-requires
entry_row_ok-zero-requires c =
    omega (arith, c.requires, row_least c.args.timed, row_in c.args.width 0 (c.args.left + 1) (omega arith))

pub returns-then-left-eq0 : goal.returns-then-left-eq0
returns-then-left-eq0 c =
    let start = c.args in
    entry-last start.s.now start.k _ start.timed _ _ start.width c.entry_from-entry.ensures c.entry_row_ok-zero.ensures
    c.entry_fields_ok-fields.ensures c.if-left-eq0.true

pub returns : goal.returns
returns c =
    let start = c.args in
    entry-before start.s.now start.k _ start.timed _ _ start.width c.entry_from-entry.ensures c.entry_row_ok-zero.ensures
    c.entry_fields_ok-fields.ensures c.if-left-eq0.false c.id_before-next.ensures
