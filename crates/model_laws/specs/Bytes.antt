-- What the laws' statements say of lists of bytes, of tables and of tests.
-- Assumes nothing.
use Rattle.std.specs.Prelude.{ℕ, ◌<◌, Bool, true, ◌&&◌, List, [], ◌∷◌, ◌++◌, get_or, take, drop}

-- every element is a byte
abbrev pub Bytes : List ℕ → Type 0
Bytes s = (i : ℕ) → get_or s i 0 < 256

-- every element has the property P
abbrev pub All : {A : Type 0} → (A → Type 0) → List A → Type 0
All P [] = Unit
All P (r ∷ rs) = P r × All P rs

-- the n bytes from index i
abbrev pub part : ℕ → ℕ → List ℕ → List ℕ
part i n s = take n (drop i s)

-- fields one after the other
abbrev pub run : List (List ℕ) → List ℕ
run [] = []
run (s ∷ []) = s
run (s ∷ t ∷ ts) = s ++ run (t ∷ ts)

-- tests joined by &&
abbrev pub joined : List Bool → Bool
joined [] = true
joined (t ∷ []) = t
joined (t ∷ u ∷ us) = t && joined (u ∷ us)
