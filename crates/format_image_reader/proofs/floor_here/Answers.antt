-- What is left to show of `format_image_reader::floor_here`.
use Rattle.format_image_reader.proofs.Tables.{here-none, here_found, here-other}
use Rattle.format_image_reader.proofs.floor_here.Goals as goal

pub returns-then-n-j : goal.returns-then-n-j
returns-then-n-j c = here-none _ _ _ _ c.if-n-j.true

pub returns-then-f-client : goal.returns-then-f-client
returns-then-f-client c = here_found _ _ _ _ c.if-n-j.false c.floor_from-f.ensures c.if-f-client.true

pub returns : goal.returns
returns c = here-other _ _ _ _ c.if-n-j.false c.floor_from-f.ensures c.if-f-client.false
