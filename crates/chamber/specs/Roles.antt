-- The role of a point, none where it has none.
-- Assumes nothing.
use Rattle.std.specs.Prelude.{ℕ, Option, Some, None, ltb}
use Rattle.model.specs.Choice.{pick}
use Rattle.chamber_claim.specs.declared.LockPoints.{LockPoints}
use Rattle.chamber_claim.specs.Chamber.{role_count, role_in}

unfoldable pub role_of : LockPoints → ℕ → Option ℕ
role_of s p = pick (ltb (role_in s p) role_count) (Some (role_in s p)) None
