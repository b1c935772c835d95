-- The state's own floors, at their place.
--     floor-own     a client's floor among them
-- Assumes nothing.
use Prim.Native.Nat.{ℕ}
use mathlib.Core.Path.{◌≡◌, refl, ◌∙◌}
use mathlib.Core.List.{List}
use lib.ListN.{length, drop}
use Rattle.model.specs.Limits.{floor_row}
use Rattle.model.specs.Tables.{rows}
use Rattle.model.specs.Images.{floor_of, floor_of_bytes}
use Rattle.model.specs.States.{load, floors_start}
use Rattle.state_rows.proofs.Access.{floors-count}

pub floor-own : (s : List ℕ) (x : ℕ) {n f : ℕ} → n ≡ length (load s).floors → f ≡ floor_of x (rows floor_of_bytes floor_row n (drop floors_start s)) → f ≡ floor_of x (load s).floors
floor-own s x e p = rw (p, e ∙ floors-count s) (unfold load in refl)
