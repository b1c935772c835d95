-- What is left to show of `format_image_reader::image_read`.
use Rattle.format_image_reader.proofs.Whole.{read_malformed, read_head, ok-least}
use Rattle.format_image_reader.proofs.image_read.Goals as goal

pub returns-then-not-image_ok : goal.returns-then-not-image_ok
returns-then-not-image_ok c = read_malformed _ c.image_ok.ensures c.if-not-image_ok.true

pub head_from-requires : goal.head_from-requires
head_from-requires c = ok-least _ c.image_ok.ensures c.if-not-image_ok.false

pub returns : goal.returns
returns c = read_head _ c.image_ok.ensures c.if-not-image_ok.false c.head_from.ensures
