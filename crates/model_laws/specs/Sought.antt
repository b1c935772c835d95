-- A search for the first element that passes a test, at an index: none before it passes.
-- Assumes nothing.
use Rattle.std.specs.Prelude.{ℕ, ◌+◌, ◌≤◌, ◌≡◌, Bool, List, length, drop}
use Rattle.model.specs.Tables.{index_of}

-- the elements from index i on decide which is the first
pub record Sought {A : Type 0} (t : A → Bool) (xs : List A) (i : ℕ) : Type 0 where
  pub below : i ≤ length xs
  pub rest : index_of t xs ≡ i + index_of t (drop i xs)
