-- What is left to show of `format_image_reader::values_in_range`.
use Rattle.model.specs.Images.{image_in_range, image_at}
use Rattle.model_laws.proofs.Ands.{ands, go}
use Rattle.model_laws.proofs.Images.{entries-within}
use Rattle.format_image_reader.proofs.values_in_range.Goals as goal

pub returns-then-not-in_range : goal.returns-then-not-in_range
unfolding image_in_range image_at
returns-then-not-in_range c = search ands depth 16

pub entries_in_range-requires : goal.entries_in_range-requires
entries_in_range-requires c =
    entries-within c.args.h c.requires c.entry_width-width.ensures c.entries_start-at.ensures

pub returns : goal.returns
unfolding image_in_range image_at
returns c =
    go c.in_range.ensures c.if-not-in_range.false
    (rw (c.entry_width-width.ensures, c.entries_start-at.ensures) at c.entries_in_range.ensures)
