-- Numbers in layouts: little-endian, signed ones in two's complement. Inside, a signed number x of 32 bits is x + 2 ^ 31.
-- A decoder reads from the front of a list; what lies past the list's end counts as 0.
-- Assumes nothing.
use Rattle.std.specs.Prelude.{ℕ, ◌+◌, ◌*◌, ◌/◌, ◌%◌, Bool, ◌&&◌, List, [], ◌∷◌, ◌++◌, get_or, eqb, ltb, ℤ}
use Rattle.std.proofs.Math.IntN.{sub_ℕ}
use Rattle.model.specs.Choice.{pick}

-- 2 ^ 31, which stands for 0, and 2 ^ 32
abbrev pub half : ℕ
half = 2147483648

abbrev pub word : ℕ
word = 4294967296

-- the integer that x stands for
unfoldable pub signed : ℕ → ℤ
signed x = sub_ℕ x half

-- two's complement to x + 2 ^ 31, and back
unfoldable pub flip : ℕ → ℕ
flip x = (x + half) % word

-- m / n to the nearest number, an exact half to the even one (Sequential.Nearest)
unfoldable pub nearest : ℕ → ℕ → ℕ
nearest m n = pick (ltb n (2 * (m % n) + m / n % 2)) (m / n + 1) (m / n)

-- the byte at index i
abbrev pub byte_at : List ℕ → ℕ → ℕ
byte_at s i = get_or s i 0

-- the number of 4 bytes, the lowest first
abbrev pub join32 : ℕ → ℕ → ℕ → ℕ → ℕ
join32 a b c d = a + 256 * b + 65536 * c + 16777216 * d

-- the number in the 4 bytes from index i
unfoldable pub le32_at : List ℕ → ℕ → ℕ
le32_at s i = join32 (get_or s i 0) (get_or s (i + 1) 0) (get_or s (i + 2) 0) (get_or s (i + 3) 0)

-- the 4 bytes of v
abbrev pub le32 : ℕ → List ℕ
le32 v = v % 256 ∷ v / 256 % 256 ∷ v / 65536 % 256 ∷ v / 16777216 ∷ []

-- the number in the 8 bytes from index i, and the 8 bytes of v
unfoldable pub le64_at : List ℕ → ℕ → ℕ
le64_at s i = le32_at s i + word * le32_at s (i + 4)

unfoldable pub le64 : ℕ → List ℕ
le64 v = le32 (v % word) ++ le32 (v / word)

-- a signed number of 4 bytes, and its bytes
unfoldable pub signed_at : List ℕ → ℕ → ℕ
signed_at s i = flip (le32_at s i)

abbrev pub signed32 : ℕ → List ℕ
signed32 v = le32 (flip v)

-- the byte at index i is 0; the three from i are
abbrev pub zero_at : List ℕ → ℕ → Bool
zero_at s i = eqb (byte_at s i) 0

unfoldable pub zeros3_at : List ℕ → ℕ → Bool
zeros3_at s i = zero_at s i && (zero_at s (i + 1) && zero_at s (i + 2))

-- four bytes as written
abbrev pub quad : ℕ → ℕ → ℕ → ℕ → List ℕ
quad a b c d = a ∷ b ∷ c ∷ d ∷ []

-- the first four bytes are those of m
abbrev pub starts_with : List ℕ → List ℕ → Bool
starts_with s m = eqb (byte_at s 0) (byte_at m 0) && (eqb (byte_at s 1) (byte_at m 1) && (eqb (byte_at s 2) (byte_at m 2) && eqb (byte_at s 3) (byte_at m 3)))
