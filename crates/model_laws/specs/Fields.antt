-- A layout as a list of fields: its width, what is read, written and tested, and what a value must keep to be read back.
-- Assumes nothing.
use Rattle.std.specs.Prelude.{ℕ, zero, suc, ◌+◌, ◌*◌, ◌<◌, ◌≡◌, Bool, true, List, [], ◌∷◌, ◌++◌, get_or, drop, eqb, ltb}
use Rattle.model.specs.Numbers.{word, byte_at, le32_at, le32, le64_at, le64, signed_at, signed32}
use Rattle.model_laws.specs.Bytes.{joined}

-- a number: a byte, 4 bytes, 4 bytes in two's complement, 8 bytes
pub data Number : Type 0 where
  bits8 : Number
  bits32 : Number
  twos32 : Number
  bits64 : Number

-- a number, or a byte that is always the same: a kind, a magic's, a zero
pub data Field : Type 0 where
  number : Number → Field
  fixed : ℕ → Field

abbrev pub byte : Field
byte = number bits8

abbrev pub word32 : Field
word32 = number bits32

abbrev pub signed : Field
signed = number twos32

abbrev pub word64 : Field
word64 = number bits64

-- ---- one number

abbrev pub wide : Number → ℕ
wide bits8 = 1
wide bits32 = 4
wide twos32 = 4
wide bits64 = 8

abbrev pub got : Number → List ℕ → ℕ → ℕ
got bits8 s i = byte_at s i
got bits32 s i = le32_at s i
got twos32 s i = signed_at s i
got bits64 s i = le64_at s i

abbrev pub put : Number → ℕ → List ℕ
put bits8 v = v ∷ []
put bits32 v = le32 v
put twos32 v = signed32 v
put bits64 v = le64 v

abbrev pub limit : Number → ℕ
limit bits8 = 256
limit bits32 = word
limit twos32 = word
limit bits64 = word * word

-- the number with index k, 0 past the last one
abbrev pub nth : List ℕ → ℕ → ℕ
nth vs k = get_or vs k 0

-- ---- all fields, from index i on

abbrev pub width_of : List Field → ℕ
width_of [] = 0
width_of (number n ∷ fs) = wide n + width_of fs
width_of (fixed b ∷ fs) = 1 + width_of fs

-- the numbers, fixed bytes left out
abbrev pub got_all : List Field → List ℕ → ℕ → List ℕ
got_all [] s i = []
got_all (number n ∷ fs) s i = got n s i ∷ got_all fs s (i + wide n)
got_all (fixed b ∷ fs) s i = got_all fs s (i + 1)

abbrev pub put_all : List Field → List ℕ → List ℕ
put_all [] vs = []
put_all (number n ∷ fs) vs = put n (nth vs 0) ++ put_all fs (drop 1 vs)
put_all (fixed b ∷ fs) vs = b ∷ put_all fs vs

abbrev pub tests_of : List Field → List ℕ → ℕ → List Bool
tests_of [] s i = []
tests_of (number n ∷ fs) s i = tests_of fs s (i + wide n)
tests_of (fixed b ∷ fs) s i = eqb (byte_at s i) b ∷ tests_of fs s (i + 1)

abbrev pub pass_all : List Field → List ℕ → ℕ → Bool
pass_all fs s i = joined (tests_of fs s i)

-- numbers within their limits; one that the layout has no field for is 0, as it is read back
abbrev pub Bounded : List Field → List ℕ → Type 0
Bounded [] [] = Unit
Bounded [] (v ∷ vs) = (v ≡ 0) × Bounded [] vs
Bounded (number n ∷ fs) vs = (nth vs 0 < limit n) × Bounded fs (drop 1 vs)
Bounded (fixed b ∷ fs) vs = Bounded fs vs

-- the same of the number with index k
abbrev pub BoundedAt : List Field → ℕ → ℕ → Type 0
BoundedAt [] k v = v ≡ 0
BoundedAt (number n ∷ fs) zero v = v < limit n
BoundedAt (number n ∷ fs) (suc k) v = BoundedAt fs k v
BoundedAt (fixed b ∷ fs) k v = BoundedAt fs k v

-- fixed bytes are bytes
abbrev pub fixed_bytes : List Field → List Bool
fixed_bytes [] = []
fixed_bytes (number n ∷ fs) = fixed_bytes fs
fixed_bytes (fixed b ∷ fs) = ltb b 256 ∷ fixed_bytes fs

-- these bytes: a magic
abbrev pub fixed_all : List ℕ → List Field
fixed_all [] = []
fixed_all (b ∷ bs) = fixed b ∷ fixed_all bs

-- ---- a type's layout

-- its fields, a value from their numbers and the numbers of a value, and what a value must keep
pub record Layout (A : Type 0) : Type 1 where
  pub fields : List Field
  pub to : (ℕ → ℕ) → A
  pub from : A → List ℕ
  pub Fit : A → Type 0
  pub fits : (a : A) → Fit a → Bounded fields (from a)
  pub fitted : (v : ℕ → ℕ) → ((k : ℕ) → BoundedAt fields k (v k)) → Fit (to v)

-- the definitions that read, write and test it are those of the fields, by computing
pub record Computes {A : Type 0} (L : Layout A) (dec : List ℕ → A) (enc : A → List ℕ) (test : List ℕ → Bool) : Type 0 where
  pub reads : (s : List ℕ) → dec s ≡ L.to (nth (got_all L.fields s 0))
  pub writes : (a : A) → enc a ≡ put_all L.fields (L.from a)
  pub tests : (s : List ℕ) → test s ≡ pass_all L.fields s 0
  pub plain : joined (fixed_bytes L.fields) ≡ true
  pub back : (a : A) → L.Fit a → L.to (nth (L.from a)) ≡ a
  pub forth : (s : List ℕ) → put_all L.fields (L.from (L.to (nth (got_all L.fields s 0)))) ≡ put_all L.fields (got_all L.fields s 0)
