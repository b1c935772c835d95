-- A take record's bytes before its image.
-- Assumes nothing.
use Rattle.std.specs.Prelude.{ℕ, List, ◌++◌}
use Rattle.model.specs.Numbers.{le32, quad}
use Rattle.model.specs.Limits.{take_kind}

-- of an image of n bytes
unfoldable pub take_front : ℕ → List ℕ
take_front n = quad take_kind 0 0 0 ++ le32 n
