-- An execution is marked by the program that executed it, whichever runs today.
--     marked_by_lem
-- Assumes nothing.
use Prim.Native.Nat.{ℕ}
use mathlib.Core.Path.{◌≡◌, sym}
use mathlib.Core.List.{List}
use Rattle.model.specs.Sequential.{Marked, marked_by}
use Rattle.claim.specs.World.{Event}
use Rattle.claim.specs.Claim.{Executes}

pub marked_by_lem : (es : List Event) (n c : ℕ) (m : Marked) (x : Executes es n c m) → m ≡ marked_by x.versions x.asked.command
marked_by_lem es n c m x = sym x.its
