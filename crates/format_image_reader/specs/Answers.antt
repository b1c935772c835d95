-- What the reader's functions answer, where the model has no name for it.
-- Assumes nothing.
use Rattle.std.proofs.Math.Option.{Option as Maybe, none, some}
use Rattle.std.specs.Prelude.{ℕ, Bool, ◌&&◌, List, Option, Some, None}
use Rattle.model.specs.declared.ImageHead.{ImageHead}
use Rattle.model.specs.Images.{Image, image_head_ok, image_parts, image_head}
use Rattle.format_image_reader.specs.Walks.{rows_ok}

-- what image_ok asks behind the four bytes and the zero bytes
unfoldable pub body_ok : ImageHead → List ℕ → Bool
body_ok h s = image_head_ok h && (image_parts h s && rows_ok h s)

-- what the reader answers of what parse_image finds
unfoldable pub read_of : Maybe Image → Option ImageHead
read_of none = None
read_of (some i) = Some (image_head i)
