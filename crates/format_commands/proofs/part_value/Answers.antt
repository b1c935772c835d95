-- What is left to show of `format_commands::part_value`.
use Prim.Native.Nat.{ℕ, ◌+◌, ◌-◌, ◌*◌, ◌/◌, ◌%◌, ◌≤◌, ◌<◌}
use mathlib.Core.Path.{◌≡◌}
use native.Mathlib.Omega.{arith}
use borrow.Author.Tests.{lt-ltb, le-ltb}
use Rattle.model.specs.Numbers.{nearest}
use Rattle.model.specs.Limits.{whole_part}
use Rattle.format_commands.proofs.part_value.Goals as goal

module _ (low m odd : ℕ) (e : odd ≡ m / whole_part % 2) where
  up : whole_part < 2 * (m - whole_part * (m / whole_part)) + odd → low + m / whole_part + 1 ≡ low + nearest m whole_part
  unfolding nearest
  up h = rw (lt-ltb whole_part (2 * (m % whole_part) + m / whole_part % 2) (omega arith)) (omega arith)

  down : 2 * (m - whole_part * (m / whole_part)) + odd ≤ whole_part → low + m / whole_part ≡ low + nearest m whole_part
  unfolding nearest
  down h = rw (le-ltb whole_part (2 * (m % whole_part) + m / whole_part % 2) (omega arith))

pub returns-then-rest-odd-gt-WHOLE_PART_U64 : goal.returns-then-rest-odd-gt-WHOLE_PART_U64
returns-then-rest-odd-gt-WHOLE_PART_U64 c = up _ _ _ c.last_bit-odd.ensures c.if-rest-odd-gt-WHOLE_PART_U64.true

pub returns-else-rest-odd-gt-WHOLE_PART_U64 : goal.returns-else-rest-odd-gt-WHOLE_PART_U64
returns-else-rest-odd-gt-WHOLE_PART_U64 c = down _ _ _ c.last_bit-odd.ensures c.if-rest-odd-gt-WHOLE_PART_U64.false
