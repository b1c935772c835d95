-- Past a table's end: 0, and no argument.
-- Assumes nothing.
use Prim.Native.Nat.{ℕ, ◌≤◌, ◌<◌}
use mathlib.Core.Path.{◌≡◌, refl, sym}
use mathlib.Core.Bool.{Bool, true, false}
use mathlib.Core.List.{List}
use native.Mathlib.Omega.{arith}
use Rattle.model.specs.Limits.{last_op}
use Rattle.model.specs.Rules.{argument_ok}
use Rattle.model_laws.proofs.Commands.{argument-parts}
use lib.ListN.{get_or, length, get_or-eq_default}

pub past : (l : List ℕ) (i : ℕ) → length l ≤ i → 0 ≡ get_or l i 0
past l i h = sym (get_or-eq_default l 0 h)

-- an op past the last has no argument
pub no_arguments : (op a : ℕ) → last_op < op → false ≡ argument_ok op a
no_arguments op a h = go (argument_ok op a) refl
  where
    go : (b : Bool) → argument_ok op a ≡ b → false ≡ argument_ok op a
    go true e = absurd (omega (arith, (argument-parts op a e).0))
    go false e = sym e
