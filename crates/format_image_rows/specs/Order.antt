-- The order of completion records in an image.
-- Assumes nothing.
use Rattle.std.specs.Prelude.{Bool}
use Rattle.model.specs.declared.ImageEntry.{ImageEntry}
use Rattle.model.specs.Images.{id_before}

-- a record's id is before another's
unfoldable pub entry_before : ImageEntry → ImageEntry → Bool
entry_before e f = id_before e.client e.call f.client f.call
