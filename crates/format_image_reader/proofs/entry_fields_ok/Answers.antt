-- What is left to show of `format_image_reader::entry_fields_ok`.
use Rattle.format_image_reader.specs.Walks.{entry_fields_ok}
use Rattle.format_image_reader.proofs.entry_fields_ok.Goals as goal

pub returns : goal.returns
unfolding entry_fields_ok
returns c = cc
