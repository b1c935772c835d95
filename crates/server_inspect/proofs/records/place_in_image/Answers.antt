-- What is left to show of `server_inspect::records::place_in_image`.
use mathlib.Core.Path.{refl}
use native.Mathlib.Omega.{arith}
use Rattle.model_laws.proofs.Images.{row_least, entries-within}
use Rattle.format_image_reader.proofs.Whole.{ok-least, ok-size}
use Rattle.server_inspect.proofs.Rows.{placed-below}
use Rattle.server_inspect.proofs.Latest.{image-place}
use Rattle.server_inspect.proofs.records.place_in_image.Goals as goal

pub head_from-h-requires : goal.head_from-h-requires
head_from-h-requires c = ok-least c.args.image.now refl c.requires.0

pub index_of-i-requires : goal.index_of-i-requires
index_of-i-requires c = (
  (entries-within c.head_from-h.result (ok-size c.args.image.now c.requires.0 c.head_from-h.ensures) c.entry_width-width.ensures c.entries_start-at.ensures).1,
  omega (
    arith,
    (entries-within c.head_from-h.result (ok-size c.args.image.now c.requires.0 c.head_from-h.ensures) c.entry_width-width.ensures c.entries_start-at.ensures).0,
    row_least c.head_from-h.result.timed,
  ),
)

pub overflow_add-from : goal.overflow_add-from
overflow_add-from c = omega (
  arith,
  (entries-within c.head_from-h.result (ok-size c.args.image.now c.requires.0 c.head_from-h.ensures) c.entry_width-width.ensures c.entries_start-at.ensures).1,
  c.requires.1,
)

pub place_of-requires : goal.place_of-requires
place_of-requires c = omega (
  arith,
  (entries-within c.head_from-h.result (ok-size c.args.image.now c.requires.0 c.head_from-h.ensures) c.entry_width-width.ensures c.entries_start-at.ensures).1,
  c.requires.1,
)

pub returns : goal.returns
returns c =
    let a = c.args in
    image-place a.image.now a.from a.client a.call a.found c.head_from-h.ensures c.entry_width-width.ensures c.entries_start-at.ensures refl
    (placed-below _ _ _ _ c.index_of-i.ensures c.place_of.ensures)
