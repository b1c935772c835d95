-- Laws of numbers in lists of bytes.
--     le32_digits, le64_digits, le32-back, le64-back, signed_back     a number at the front is read back; le32-at, le64-at: at a place
--     flip-flip, flip-below                 two's complement there and back, and its bound
--     le32-drop, le64-drop, signed-drop, zero-drop, zeros3_drop     reads from a suffix (bytes: lib.Seq.get_or-drop)
--     le32-take, le64-take, signed-take, zeros3_take     reads from a front (bytes: lib.Seq.get_or-take)
--     le32-past, le64-past                  reads past a front
--     le32-below, le64-below, signed_below  bounds of what is read
--     bytes-..                              lists of bytes: their parts, what numbers are written to; bytes_run: fields one after the other
--     zero-at, at-zero, zeros3_at_lem, at_zeros3     zero bytes and their tests
--     part_join, part-quad, quad-again, starts-again, le32-again, le32-is, le64-again, signed-again     what was read is written again: the same bytes
-- Assumes nothing.
use Prim.Native.Nat.{ℕ, zero, suc, ◌+◌, ◌*◌, ◌/◌, ◌%◌, ◌≤◌, ◌<◌}
use mathlib.Core.Path.{◌≡◌, refl, sym, ap, ◌∙◌}
use mathlib.Core.Bool.{true, ◌&&◌}
use mathlib.Core.List.{List, [], ◌∷◌, ◌++◌}
use native.Mathlib.Omega.{arith}
use native.Mathlib.Nat.{add_assoc, add-zero}
use lib.ListN.{length, get_or, take, drop}
use lib.Seq.{get_or-drop, get_or-take, drop-cons, drop-drop, take-add, drop_at}
use lib.Dec.{eqb, lit<}
use borrow.Author.Tests.{eqb-true, eq-eqb}
use Rattle.model.specs.Numbers.{word, flip, join32, le32_at, le32, le64_at, le64, signed_at, signed32, zero_at, zeros3_at, quad, byte_at, starts_with}
use Rattle.model_laws.specs.Bytes.{Bytes, All, part, run}
use Rattle.model_laws.proofs.Tests.{and_left, and_right, joined_all}

-- ---- what was written is read back; a word's top byte is not cut, so that no bound is needed

pub le32_digits : (v : ℕ) → join32 (v % 256) (v / 256 % 256) (v / 65536 % 256) (v / 16777216) ≡ v
le32_digits v = omega arith

pub le32-back : (v : ℕ) (rest : List ℕ) → le32_at (le32 v ++ rest) 0 ≡ v
unfolding le32_at
le32-back v rest = le32_digits v

digits : (v : ℕ) → v % word + word * (v / word) ≡ v
digits v = omega arith

pub le64_digits : (v : ℕ)
    → join32 (v % word % 256) (v % word / 256 % 256) (v % word / 65536 % 256) (v % word / 16777216)
    + word * join32 (v / word % 256) (v / word / 256 % 256) (v / word / 65536 % 256) (v / word / 16777216) ≡ v
le64_digits v = rw (le32_digits (v % word), le32_digits (v / word)) (digits v)

pub length-le64 : (v : ℕ) → length (le64 v) ≡ 8
unfolding le64
length-le64 v = refl

pub le64-back : (v : ℕ) (rest : List ℕ) → le64_at (le64 v ++ rest) 0 ≡ v
unfolding le64_at le64 le32_at
le64-back v rest = le64_digits v

pub flip-flip : (x : ℕ) → x < word → flip (flip x) ≡ x
unfolding flip
flip-flip x h = omega arith

pub flip-below : (x : ℕ) → flip x < word
unfolding flip
flip-below x = omega arith

pub signed_back : (v : ℕ) (rest : List ℕ) → v < word → signed_at (signed32 v ++ rest) 0 ≡ v
unfolding signed_at
signed_back v rest h = ap flip (le32-back (flip v) rest) ∙ flip-flip v h

-- ---- reads from a suffix

pub le32-drop : (k : ℕ) (s : List ℕ) (i : ℕ) → le32_at (drop k s) i ≡ le32_at s (k + i)
unfolding le32_at
le32-drop k s i = simp (get_or-drop, add_assoc)

pub le64-drop : (k : ℕ) (s : List ℕ) (i : ℕ) → le64_at (drop k s) i ≡ le64_at s (k + i)
unfolding le64_at
le64-drop k s i = simp (le32-drop, add_assoc)

pub signed-drop : (k : ℕ) (s : List ℕ) (i : ℕ) → signed_at (drop k s) i ≡ signed_at s (k + i)
unfolding signed_at
signed-drop k s i = ap flip (le32-drop k s i)

pub zero-drop : (k : ℕ) (s : List ℕ) (i : ℕ) → zero_at (drop k s) i ≡ zero_at s (k + i)
zero-drop k s i = ap (λ (x : ℕ). eqb x 0) (get_or-drop k s i 0)

pub zeros3_drop : (k : ℕ) (s : List ℕ) (i : ℕ) → zeros3_at (drop k s) i ≡ zeros3_at s (k + i)
unfolding zeros3_at
zeros3_drop k s i = simp (get_or-drop, add_assoc)

-- reads from a front

pub le32-take : (n : ℕ) (s : List ℕ) (i : ℕ) → i + 4 ≤ n → le32_at (take n s) i ≡ le32_at s i
unfolding le32_at
le32-take n s i h =
    rw (get_or-take n s i 0 (omega arith), get_or-take n s (i + 1) 0 (omega arith), get_or-take n s (i + 2) 0 (omega arith), get_or-take n s (i + 3) 0 (omega arith))

pub le64-take : (n : ℕ) (s : List ℕ) (i : ℕ) → i + 8 ≤ n → le64_at (take n s) i ≡ le64_at s i
unfolding le64_at
le64-take n s i h = rw (le32-take n s i (omega arith), le32-take n s (i + 4) (omega arith))

pub signed-take : (n : ℕ) (s : List ℕ) (i : ℕ) → i + 4 ≤ n → signed_at (take n s) i ≡ signed_at s i
unfolding signed_at
signed-take n s i h = ap flip (le32-take n s i h)

pub zeros3_take : (n : ℕ) (s : List ℕ) (i : ℕ) → i + 3 ≤ n → zeros3_at (take n s) i ≡ zeros3_at s i
unfolding zeros3_at
zeros3_take n s i h = rw (get_or-take n s i 0 (omega arith), get_or-take n s (i + 1) 0 (omega arith), get_or-take n s (i + 2) 0 (omega arith))

-- reads past a front

pub le32-past : (us t : List ℕ) (k i : ℕ) → length us ≡ k → le32_at (us ++ t) (k + i) ≡ le32_at t i
le32-past us t k i e = sym (le32-drop k (us ++ t) i) ∙ ap (λ (x : List ℕ). le32_at x i) (drop_at us t k e)

pub le64-past : (us t : List ℕ) (k i : ℕ) → length us ≡ k → le64_at (us ++ t) (k + i) ≡ le64_at t i
le64-past us t k i e = sym (le64-drop k (us ++ t) i) ∙ ap (λ (x : List ℕ). le64_at x i) (drop_at us t k e)

pub le32-at : (us rest : List ℕ) (v i : ℕ) → length us ≡ i → le32_at (us ++ (le32 v ++ rest)) i ≡ v
le32-at us rest v i e =
    ap (λ (k : ℕ). le32_at (us ++ (le32 v ++ rest)) k) (sym (add-zero i)) ∙ le32-past us (le32 v ++ rest) i 0 e ∙ le32-back v rest

pub le64-at : (us rest : List ℕ) (v i : ℕ) → length us ≡ i → le64_at (us ++ (le64 v ++ rest)) i ≡ v
le64-at us rest v i e =
    ap (λ (k : ℕ). le64_at (us ++ (le64 v ++ rest)) k) (sym (add-zero i)) ∙ le64-past us (le64 v ++ rest) i 0 e ∙ le64-back v rest

-- ---- bounds

pub le32-below : (s : List ℕ) (i : ℕ) → Bytes s → le32_at s i < word
unfolding le32_at
le32-below s i h = omega (arith, h i, h (i + 1), h (i + 2), h (i + 3))

pub le64-below : (s : List ℕ) (i : ℕ) → Bytes s → le64_at s i < word * word
unfolding le64_at
le64-below s i h = omega (arith, le32-below s i h, le32-below s (i + 4) h)

pub signed_below : (s : List ℕ) (i : ℕ) → signed_at s i < word
unfolding signed_at
signed_below s i = flip-below (le32_at s i)

-- ---- lists of bytes

pub bytes-nil : Bytes []
bytes-nil i = lit< tt

pub bytes-cons : (a : ℕ) (s : List ℕ) → a < 256 → Bytes s → Bytes (a ∷ s)
bytes-cons a s h b zero = h
bytes-cons a s h b (suc i) = b i

pub bytes-append : (s t : List ℕ) → Bytes s → Bytes t → Bytes (s ++ t)
bytes-append [] t h b = b
bytes-append (a ∷ s) t h b = bytes-cons a (s ++ t) (h 0) (bytes-append s t (λ i. h (suc i)) b)

pub bytes_drop : (k : ℕ) (s : List ℕ) → Bytes s → Bytes (drop k s)
bytes_drop k s h i = rw get_or-drop (h (k + i))

pub bytes_take : (k : ℕ) (s : List ℕ) → Bytes s → Bytes (take k s)
bytes_take zero s h = bytes-nil
bytes_take (suc k) [] h = h
bytes_take (suc k) (a ∷ s) h = bytes-cons a (take k s) (h 0) (bytes_take k s (λ i. h (suc i)))

pub bytes-quad : (a b c d : ℕ) → a < 256 → b < 256 → c < 256 → d < 256 → Bytes (quad a b c d)
bytes-quad a b c d ha hb hc hd =
    bytes-cons a (b ∷ c ∷ d ∷ []) ha (bytes-cons b (c ∷ d ∷ []) hb (bytes-cons c (d ∷ []) hc (bytes-cons d [] hd bytes-nil)))

pub bytes-le32 : (v : ℕ) → v < word → Bytes (le32 v)
bytes-le32 v h = bytes-quad (v % 256) (v / 256 % 256) (v / 65536 % 256) (v / 16777216) (omega arith) (omega arith) (omega arith) (omega arith)

pub bytes-signed32 : (v : ℕ) → Bytes (signed32 v)
bytes-signed32 v = bytes-le32 (flip v) (flip-below v)

pub bytes-le64 : (v : ℕ) → v < word * word → Bytes (le64 v)
unfolding le64
bytes-le64 v h = bytes-append (le32 (v % word)) (le32 (v / word)) (bytes-le32 (v % word) (omega arith)) (bytes-le32 (v / word) (omega arith))

-- fields one after the other
pub bytes_run : (ss : List (List ℕ)) → All Bytes ss → Bytes (run ss)
bytes_run [] f = bytes-nil
bytes_run (s ∷ []) f = f.0
bytes_run (s ∷ t ∷ ts) f = bytes-append s (run (t ∷ ts)) f.0 (bytes_run (t ∷ ts) f.1)

-- ---- zero bytes

pub zero-at : (s : List ℕ) (i : ℕ) → zero_at s i ≡ true → get_or s i 0 ≡ 0
zero-at s i e = eqb-true (get_or s i 0) 0 e

pub at_zero : (s : List ℕ) (i : ℕ) → get_or s i 0 ≡ 0 → zero_at s i ≡ true
at_zero s i e = eq-eqb (get_or s i 0) 0 e

pub zeros3_at_lem : (s : List ℕ) (i : ℕ) → zeros3_at s i ≡ true → (get_or s i 0 ≡ 0) × (get_or s (i + 1) 0 ≡ 0) × (get_or s (i + 2) 0 ≡ 0)
unfolding zeros3_at
zeros3_at_lem s i e =
    let t : (zero_at s (i + 1) && zero_at s (i + 2)) ≡ true = and_right (zero_at s i) (zero_at s (i + 1) && zero_at s (i + 2)) e in (
      zero-at s i (and_left (zero_at s i) (zero_at s (i + 1) && zero_at s (i + 2)) e),
      zero-at s (i + 1) (and_left (zero_at s (i + 1)) (zero_at s (i + 2)) t),
      zero-at s (i + 2) (and_right (zero_at s (i + 1)) (zero_at s (i + 2)) t),
    )

pub at_zeros3 : (s : List ℕ) (i : ℕ) → get_or s i 0 ≡ 0 → get_or s (i + 1) 0 ≡ 0 → get_or s (i + 2) 0 ≡ 0 → zeros3_at s i ≡ true
unfolding zeros3_at
at_zeros3 s i p q r = rw (at_zero s i p, at_zero s (i + 1) q, at_zero s (i + 2) r)

-- ---- what was read is written again: the same bytes

pub part_join : (s : List ℕ) (i m n : ℕ) {us vs : List ℕ} → us ≡ part i m s → vs ≡ part (i + m) n s → us ++ vs ≡ part i (m + n) s
part_join s i m n p q = rw (p, q, take-add, drop-drop)

next-byte : (s : List ℕ) (j k : ℕ) → j < length s → k ≡ suc j → drop j s ≡ get_or s j 0 ∷ drop k s
next-byte s j k h e = rw e (drop-cons s j 0 h)

pub part-quad : (s : List ℕ) (i : ℕ) → i + 4 ≤ length s → quad (get_or s i 0) (get_or s (i + 1) 0) (get_or s (i + 2) 0) (get_or s (i + 3) 0) ≡ part i 4 s
part-quad s i h =
    rw (
      next-byte s i (i + 1) (omega arith) (omega arith),
      next-byte s (i + 1) (i + 2) (omega arith) (omega arith),
      next-byte s (i + 2) (i + 3) (omega arith) (omega arith),
      next-byte s (i + 3) (i + 4) (omega arith) (omega arith),
    )

-- four bytes that stand there
pub quad-again : (s : List ℕ) (i : ℕ) {a b c d : ℕ} → i + 4 ≤ length s → a ≡ get_or s i 0 → b ≡ get_or s (i + 1) 0 → c ≡ get_or s (i + 2) 0 → d ≡ get_or s (i + 3) 0
    → quad a b c d ≡ part i 4 s
quad-again s i h p q r t = rw (p, q, r, t) (part-quad s i h)

-- those that a layout starts with
pub starts-again : (s m : List ℕ) → 4 ≤ length s → starts_with s m ≡ true → quad (byte_at m 0) (byte_at m 1) (byte_at m 2) (byte_at m 3) ≡ part 0 4 s
starts-again s m h e =
    let t = joined_all (eqb (byte_at s 0) (byte_at m 0) ∷ eqb (byte_at s 1) (byte_at m 1) ∷ eqb (byte_at s 2) (byte_at m 2) ∷ eqb (byte_at s 3) (byte_at m 3) ∷ []) e in
    quad-again s 0 h (sym (eqb-true (byte_at s 0) (byte_at m 0) t.0)) (sym (eqb-true (byte_at s 1) (byte_at m 1) t.1.0)) (sym (eqb-true (byte_at s 2) (byte_at m 2) t.1.1.0))
    (sym (eqb-true (byte_at s 3) (byte_at m 3) t.1.1.1.0))

le32_join : (a b c d : ℕ) → a < 256 → b < 256 → c < 256 → d < 256 → le32 (join32 a b c d) ≡ quad a b c d
le32_join a b c d ha hb hc hd =
    let v : ℕ = join32 a b c d in
    let q1 : v / 256 ≡ b + 256 * c + 65536 * d = omega arith in
    let q2 : v / 65536 ≡ c + 256 * d = omega arith in
    let q3 : v / 16777216 ≡ d = omega arith in
    let e0 : v % 256 ≡ a = omega arith in
    let e1 : (b + 256 * c + 65536 * d) % 256 ≡ b = omega arith in
    let e2 : (c + 256 * d) % 256 ≡ c = omega arith in
    rw (e0, q1, e1, q2, e2, q3)

pub le32-quad : (s : List ℕ) (i : ℕ) → Bytes s → le32 (le32_at s i) ≡ quad (get_or s i 0) (get_or s (i + 1) 0) (get_or s (i + 2) 0) (get_or s (i + 3) 0)
unfolding le32_at
le32-quad s i h = le32_join (get_or s i 0) (get_or s (i + 1) 0) (get_or s (i + 2) 0) (get_or s (i + 3) 0) (h i) (h (i + 1)) (h (i + 2)) (h (i + 3))

pub le32-again : (s : List ℕ) (i : ℕ) → Bytes s → i + 4 ≤ length s → le32 (le32_at s i) ≡ part i 4 s
le32-again s i h b = le32-quad s i h ∙ part-quad s i b

-- a number that stands there
pub le32-is : (s : List ℕ) (i : ℕ) {v : ℕ} → Bytes s → i + 4 ≤ length s → v ≡ le32_at s i → le32 v ≡ part i 4 s
le32-is s i h b e = ap le32 e ∙ le32-again s i h b

halves : (a b : ℕ) → a < word → le64 (a + word * b) ≡ le32 a ++ le32 b
unfolding le64
halves a b h =
    let p : (a + word * b) % word ≡ a = omega arith in
    let q : (a + word * b) / word ≡ b = omega arith in
    rw (p, q)

pub le64-parts : (s : List ℕ) (i : ℕ) → Bytes s → le64 (le64_at s i) ≡ le32 (le32_at s i) ++ le32 (le32_at s (i + 4))
unfolding le64_at
le64-parts s i h = halves (le32_at s i) (le32_at s (i + 4)) (le32-below s i h)

pub le64-again : (s : List ℕ) (i : ℕ) → Bytes s → i + 8 ≤ length s → le64 (le64_at s i) ≡ part i 8 s
le64-again s i h b =
    le64-parts s i h
    ∙ part_join s i 4 4 (le32-again s i h (omega arith)) (le32-again s (i + 4) h (omega arith))

pub signed-again : (s : List ℕ) (i : ℕ) → Bytes s → i + 4 ≤ length s → signed32 (signed_at s i) ≡ part i 4 s
unfolding signed_at
signed-again s i h b = ap le32 (flip-flip (le32_at s i) (le32-below s i h)) ∙ le32-again s i h b
