-- What is left to show of `format_image_reader::tables_ok`.
use native.Mathlib.Omega.{arith}
use Rattle.model_laws.proofs.Images.{entries-within}
use Rattle.format_image_reader.proofs.Tables.{tables_stop, tables_ascend, tables_last}
use Rattle.format_image_reader.proofs.tables_ok.Goals as goal

pub returns-then-not-floors_ok : goal.returns-then-not-floors_ok
returns-then-not-floors_ok c =
    let start = c.args in
    tables_stop start.h start.s.now c.floors_ok.ensures c.if-not-floors_ok.true

pub entries_ok-requires : goal.entries_ok-requires
entries_ok-requires c =
    let within = entries-within c.args.h c.requires c.entry_width-width.ensures c.entries_start-at.ensures in (
      within.0,
      omega (arith, c.requires),
      within.1,
      tables_ascend c.args.h c.args.s.now c.floors_ok.ensures c.if-not-floors_ok.false,
    )

pub returns : goal.returns
returns c =
    let start = c.args in
    tables_last start.h start.s.now c.floors_ok.ensures c.if-not-floors_ok.false
    (rw (c.entry_width-width.ensures, c.entries_start-at.ensures) at c.entries_ok.ensures)
