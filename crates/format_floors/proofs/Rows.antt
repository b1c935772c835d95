-- A floor at its place.
--     floor-drop     the fields of a row at a place
--     two_runs       two stores of 4 bytes, one behind the other, as one
-- Assumes nothing.
use Prim.Native.Nat.{ℕ, ◌+◌}
use mathlib.Core.Path.{◌≡◌, refl}
use mathlib.Core.List.{List, ◌++◌}
use native.Mathlib.Nat.{add-zero}
use lib.ListN.{drop}
use Rattle.model.specs.declared.Floor.{Floor}
use Rattle.model.specs.Numbers.{le32, le32_at}
use Rattle.model.specs.Tables.{written}
use Rattle.model.specs.Images.{floor_of_bytes}
use Rattle.model_laws.proofs.Numbers.{le32-drop}
use Rattle.model_laws.proofs.Written.{run-behind}

abbrev pub floor_at : List ℕ → ℕ → Floor
floor_at s k = record { client = le32_at s k; floor = le32_at s (k + 4) }

pub floor-drop : (s : List ℕ) (k : ℕ) → floor_of_bytes (drop k s) ≡ floor_at s k
unfolding floor_of_bytes
floor-drop s k = rw (le32-drop k s 0, le32-drop k s 4, add-zero)

pub two_runs : (s : List ℕ) (k v w : ℕ) → written (written s k (le32 v)) (k + 4) (le32 w) ≡ written s k (le32 v ++ le32 w)
two_runs s k v w = run-behind s k (le32 v) (le32 w) refl refl
