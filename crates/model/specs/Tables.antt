-- Lists of bytes as tables: rows of one width, one after the other; and stores into a lent slice.
-- Assumes nothing.
use Rattle.std.specs.Prelude.{ℕ, zero, suc, Bool, true, ◌&&◌, List, [], ◌∷◌, ◌++◌, drop, eqb}
use Rattle.model.specs.Choice.{pick}

-- n rows of w bytes from the front of s
unfoldable pub rows : {A : Type 0} → (List ℕ → A) → ℕ → ℕ → List ℕ → List A
rows dec w zero s = []
rows dec w (suc n) s = dec s ∷ rows dec w n (drop w s)

-- each of n rows of w bytes passes a test on its bytes
unfoldable pub every_row : (List ℕ → Bool) → ℕ → ℕ → List ℕ → Bool
every_row t w zero s = true
every_row t w (suc n) s = t s && every_row t w n (drop w s)

-- the bytes of rows
unfoldable pub bytes_of : {A : Type 0} → (A → List ℕ) → List A → List ℕ
bytes_of enc [] = []
bytes_of enc (r ∷ rs) = enc r ++ bytes_of enc rs

-- every element passes a test
unfoldable pub every : {A : Type 0} → (A → Bool) → List A → Bool
every t [] = true
every t (r ∷ rs) = t r && every t rs

-- those that a test keeps, in their order
unfoldable pub keep : {A : Type 0} → (A → Bool) → List A → List A
keep t [] = []
keep t (r ∷ rs) = pick (t r) (r ∷ keep t rs) (keep t rs)

-- the index of the first that passes a test, their number where none does
unfoldable pub index_of : {A : Type 0} → (A → Bool) → List A → ℕ
index_of t [] = 0
index_of t (r ∷ rs) = pick (t r) 0 (suc (index_of t rs))

-- n bytes from the front are zero
unfoldable pub zeros : ℕ → List ℕ → Bool
zeros zero s = true
zeros (suc n) [] = true
zeros (suc n) (b ∷ s) = eqb b 0 && zeros n s

-- a slice after the bytes vs were stored from index i on: what lies outside it, or past the slice, is as it was
unfoldable pub written : List ℕ → ℕ → List ℕ → List ℕ
written [] i vs = []
written (b ∷ s) (suc i) vs = b ∷ written s i vs
written (b ∷ s) zero [] = b ∷ s
written (b ∷ s) zero (v ∷ vs) = v ∷ written s zero vs
