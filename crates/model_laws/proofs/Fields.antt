-- Laws of a layout by its fields: what is written reads back, by one induction for every layout.
--     codec, wide_codec             the codec of a layout; with its width as another term
--     all_width, all_bytes          what is written: its length; it is bytes
--     all_take, tests-take          only the layout's own bytes count
--     all_at, tests-at              what was written is read back, and passes the tests; all-front: at the front
--     all_again, all_bounded        what was read is written again: the same bytes; and it is bounded
-- Assumes nothing.
use Prim.Native.Nat.{ℕ, zero, suc, ◌+◌, ◌≤◌, ◌<◌}
use mathlib.Core.Path.{◌≡◌, refl, sym, ap, ◌∙◌, subst}
use mathlib.Core.Bool.{Bool, true}
use mathlib.Core.List.{List, [], ◌∷◌, ◌++◌, append_assoc}
use native.Mathlib.Omega.{arith}
use native.Mathlib.Nat.{add-zero}
use lib.ListN.{length, get_or, take, drop, length-append}
use lib.Seq.{get_or-take, get_or-drop, drop_at, drop-cons}
use borrow.Author.Tests.{eqb-true, ltb-true, eq-eqb}
use Rattle.model.specs.Numbers.{byte_at}
use Rattle.model_laws.specs.Bytes.{Bytes, All, part, joined}
use Rattle.model_laws.specs.Codec.{Codec}
use Rattle.model_laws.specs.Fields.{Number, bits8, bits32, twos32, bits64, Field, number, fixed, wide, got, put, limit, width_of, got_all, put_all, tests_of, nth, Bounded, BoundedAt, fixed_bytes, Layout, Computes}
use Rattle.model_laws.proofs.Tests.{joined_all, all_joined}
use Rattle.model_laws.proofs.Numbers.{le32-back, le64-back, signed_back, length-le64, le32-drop, le64-drop, signed-drop, le32-take, le64-take, signed-take}
use Rattle.model_laws.proofs.Numbers.{le32-below, le64-below, signed_below, bytes-nil, bytes-cons, bytes-append, bytes-le32, bytes-le64, bytes-signed32}
use Rattle.model_laws.proofs.Numbers.{part_join, le32-again, le64-again, signed-again}

-- ---- one number

put-width : (n : Number) (v : ℕ) → length (put n v) ≡ wide n
put-width bits8 v = refl
put-width bits32 v = refl
put-width twos32 v = refl
put-width bits64 v = length-le64 v

put-bytes : (n : Number) (v : ℕ) → v < limit n → Bytes (put n v)
put-bytes bits8 v h = bytes-cons v [] h bytes-nil
put-bytes bits32 v h = bytes-le32 v h
put-bytes twos32 v h = bytes-signed32 v
put-bytes bits64 v h = bytes-le64 v h

got-put : (n : Number) (v : ℕ) (rest : List ℕ) → v < limit n → got n (put n v ++ rest) 0 ≡ v
got-put bits8 v rest h = refl
got-put bits32 v rest h = le32-back v rest
got-put twos32 v rest h = signed_back v rest h
got-put bits64 v rest h = le64-back v rest

got-drop : (n : Number) (k : ℕ) (s : List ℕ) (i : ℕ) → got n (drop k s) i ≡ got n s (k + i)
got-drop bits8 k s i = get_or-drop k s i 0
got-drop bits32 k s i = le32-drop k s i
got-drop twos32 k s i = signed-drop k s i
got-drop bits64 k s i = le64-drop k s i

got-take : (n : Number) (m : ℕ) (s : List ℕ) (i : ℕ) → i + wide n ≤ m → got n (take m s) i ≡ got n s i
got-take bits8 m s i h = get_or-take m s i 0 (omega arith)
got-take bits32 m s i h = le32-take m s i h
got-take twos32 m s i h = signed-take m s i h
got-take bits64 m s i h = le64-take m s i h

byte-again : (s : List ℕ) (i : ℕ) {a : ℕ} → i < length s → get_or s i 0 ≡ a → a ∷ [] ≡ part i 1 s
byte-again s i h p = rw (sym p, drop-cons s i 0 h)

got-again : (n : Number) (s : List ℕ) (i : ℕ) → Bytes s → i + wide n ≤ length s → put n (got n s i) ≡ part i (wide n) s
got-again bits8 s i h b = byte-again s i (omega arith) refl
got-again bits32 s i h b = le32-again s i h b
got-again twos32 s i h b = signed-again s i h b
got-again bits64 s i h b = le64-again s i h b

got-below : (n : Number) (s : List ℕ) (i : ℕ) → Bytes s → got n s i < limit n
got-below bits8 s i h = h i
got-below bits32 s i h = le32-below s i h
got-below twos32 s i h = signed_below s i
got-below bits64 s i h = le64-below s i h

-- at a place
got-at : (n : Number) (v : ℕ) (us rest : List ℕ) (i : ℕ) → length us ≡ i → v < limit n → got n (us ++ (put n v ++ rest)) i ≡ v
got-at n v us rest i e h =
    ap (got n (us ++ (put n v ++ rest))) (sym (add-zero i))
    ∙ sym (got-drop n i (us ++ (put n v ++ rest)) 0)
    ∙ ap (λ (t : List ℕ). got n t 0) (drop_at us (put n v ++ rest) i e)
    ∙ got-put n v rest h

byte-at : (b : ℕ) (us rest : List ℕ) (i : ℕ) → length us ≡ i → byte_at (us ++ (b ∷ rest)) i ≡ b
byte-at b us rest i e = rw (← add-zero i, ← get_or-drop i (us ++ (b ∷ rest)) 0 0, drop_at us (b ∷ rest) i e)

-- ---- all fields

pub all_width : (fs : List Field) (vs : List ℕ) → length (put_all fs vs) ≡ width_of fs
all_width [] vs = refl
all_width (number n ∷ fs) vs = length-append (put n (nth vs 0)) (put_all fs (drop 1 vs)) ∙ rw (put-width n (nth vs 0), all_width fs (drop 1 vs))
all_width (fixed b ∷ fs) vs = omega (arith, all_width fs vs)

pub all_bytes : (fs : List Field) (vs : List ℕ) → All (λ t. t ≡ true) (fixed_bytes fs) → Bounded fs vs → Bytes (put_all fs vs)
all_bytes [] vs p h = bytes-nil
all_bytes (number n ∷ fs) vs p h = bytes-append (put n (nth vs 0)) (put_all fs (drop 1 vs)) (put-bytes n (nth vs 0) h.0) (all_bytes fs (drop 1 vs) p h.1)
all_bytes (fixed b ∷ fs) vs p h = bytes-cons b (put_all fs vs) (ltb-true b 256 p.0) (all_bytes fs vs p.1 h)

pub all_take : (fs : List Field) (m : ℕ) (s : List ℕ) (i : ℕ) → i + width_of fs ≤ m → got_all fs (take m s) i ≡ got_all fs s i
all_take [] m s i h = refl
all_take (number n ∷ fs) m s i h = rw (got-take n m s i (omega arith), all_take fs m s (i + wide n) (omega arith))
all_take (fixed b ∷ fs) m s i h = all_take fs m s (i + 1) (omega arith)

pub tests-take : (fs : List Field) (m : ℕ) (s : List ℕ) (i : ℕ) → i + width_of fs ≤ m → tests_of fs (take m s) i ≡ tests_of fs s i
tests-take [] m s i h = refl
tests-take (number n ∷ fs) m s i h = tests-take fs m s (i + wide n) (omega arith)
tests-take (fixed b ∷ fs) m s i h = rw (get_or-take m s i 0 (omega arith), tests-take fs m s (i + 1) (omega arith))

-- the fields behind the first one
next : (us vs ws rest : List ℕ) → us ++ ((vs ++ ws) ++ rest) ≡ (us ++ vs) ++ (ws ++ rest)
next us vs ws rest = rw (append_assoc vs ws rest) (sym (append_assoc us vs (ws ++ rest)))

pub all_at : (fs : List Field) (vs us rest : List ℕ) (i : ℕ) → length us ≡ i → Bounded fs vs → (k : ℕ) → nth (got_all fs (us ++ (put_all fs vs ++ rest)) i) k ≡ nth vs k
all_at [] [] us rest i e h k = refl
all_at [] (v ∷ vs) us rest i e h zero = sym h.0
all_at [] (v ∷ vs) us rest i e h (suc k) = all_at [] vs us rest i e h.1 k
all_at (number n ∷ fs) vs us rest i e h zero = rw (append_assoc (put n (nth vs 0)) (put_all fs (drop 1 vs)) rest) (got-at n (nth vs 0) us (put_all fs (drop 1 vs) ++ rest) i e h.0)
all_at (number n ∷ fs) vs us rest i e h (suc k) =
    rw (next us (put n (nth vs 0)) (put_all fs (drop 1 vs)) rest)
    (all_at fs (drop 1 vs) (us ++ put n (nth vs 0)) rest (i + wide n) (length-append us (put n (nth vs 0)) ∙ rw (e, put-width n (nth vs 0))) h.1 k)
    ∙ get_or-drop 1 vs k 0 ∙ ap (nth vs) (omega arith)
all_at (fixed b ∷ fs) vs us rest i e h k =
    rw (next us (b ∷ []) (put_all fs vs) rest) (all_at fs vs (us ++ (b ∷ [])) rest (i + 1) (length-append us (b ∷ []) ∙ rw e) h k)

pub all_front : (fs : List Field) (vs rest : List ℕ) → Bounded fs vs → nth (got_all fs (put_all fs vs ++ rest) 0) ≡ nth vs
all_front fs vs rest h = λ j k. all_at fs vs [] rest 0 refl h k j

pub tests-at : (fs : List Field) (vs us rest : List ℕ) (i : ℕ) → length us ≡ i → All (λ t. t ≡ true) (tests_of fs (us ++ (put_all fs vs ++ rest)) i)
tests-at [] vs us rest i e = tt
tests-at (number n ∷ fs) vs us rest i e =
    rw (next us (put n (nth vs 0)) (put_all fs (drop 1 vs)) rest)
    (tests-at fs (drop 1 vs) (us ++ put n (nth vs 0)) rest (i + wide n) (length-append us (put n (nth vs 0)) ∙ rw (e, put-width n (nth vs 0))))
tests-at (fixed b ∷ fs) vs us rest i e = (
  eq-eqb (byte_at (us ++ (b ∷ (put_all fs vs ++ rest))) i) b (byte-at b us (put_all fs vs ++ rest) i e),
  rw (next us (b ∷ []) (put_all fs vs) rest) (tests-at fs vs (us ++ (b ∷ [])) rest (i + 1) (length-append us (b ∷ []) ∙ rw e)),
)

pub all_again : (fs : List Field) (s : List ℕ) (i : ℕ) → Bytes s → i + width_of fs ≤ length s → All (λ t. t ≡ true) (tests_of fs s i)
    → put_all fs (got_all fs s i) ≡ part i (width_of fs) s
all_again [] s i h b t = refl
all_again (number n ∷ fs) s i h b t = part_join s i (wide n) (width_of fs) (got-again n s i h (omega arith)) (all_again fs s (i + wide n) h (omega arith) t)
all_again (fixed b ∷ fs) s i h l t =
    part_join s i 1 (width_of fs) (byte-again s i (omega arith) (eqb-true (byte_at s i) b t.0)) (all_again fs s (i + 1) h (omega arith) t.1)

pub all_bounded : (fs : List Field) (s : List ℕ) (i : ℕ) → Bytes s → (k : ℕ) → BoundedAt fs k (nth (got_all fs s i) k)
all_bounded [] s i h k = refl
all_bounded (number n ∷ fs) s i h zero = got-below n s i h
all_bounded (number n ∷ fs) s i h (suc k) = all_bounded fs s (i + wide n) h k
all_bounded (fixed b ∷ fs) s i h k = all_bounded fs s (i + 1) h k

-- ---- a type's layout

module _ {A : Type 0} {L : Layout A} {dec : List ℕ → A} {enc : A → List ℕ} {test : List ℕ → Bool} (e : Computes L dec enc test) where
  pub layout-width : (a : A) → length (enc a) ≡ width_of L.fields
  layout-width a = ap length (e.writes a) ∙ all_width L.fields (L.from a)

  pub layout-bytes : (a : A) → L.Fit a → Bytes (enc a)
  layout-bytes a h = subst Bytes (sym (e.writes a)) (all_bytes L.fields (L.from a) (joined_all (fixed_bytes L.fields) e.plain) (L.fits a h))

  pub layout-take : (s : List ℕ) → dec (take (width_of L.fields) s) ≡ dec s
  layout-take s =
      e.reads (take (width_of L.fields) s) ∙ ap (λ (vs : List ℕ). L.to (nth vs)) (all_take L.fields (width_of L.fields) s 0 (omega arith)) ∙ sym (e.reads s)

  pub layout-test-take : (s : List ℕ) → test (take (width_of L.fields) s) ≡ test s
  layout-test-take s = e.tests (take (width_of L.fields) s) ∙ ap joined (tests-take L.fields (width_of L.fields) s 0 (omega arith)) ∙ sym (e.tests s)

  pub layout-at : (a : A) (rest : List ℕ) → L.Fit a → dec (enc a ++ rest) ≡ a
  layout-at a rest h =
      ap (λ (x : List ℕ). dec (x ++ rest)) (e.writes a)
      ∙ e.reads (put_all L.fields (L.from a) ++ rest)
      ∙ ap L.to (all_front L.fields (L.from a) rest (L.fits a h))
      ∙ e.back a h

  pub layout-test : (a : A) (rest : List ℕ) → test (enc a ++ rest) ≡ true
  layout-test a rest =
      ap (λ (x : List ℕ). test (x ++ rest)) (e.writes a)
      ∙ e.tests (put_all L.fields (L.from a) ++ rest)
      ∙ all_joined (tests_of L.fields (put_all L.fields (L.from a) ++ rest) 0) (tests-at L.fields (L.from a) [] rest 0 refl)

  pub layout-again : (s : List ℕ) → Bytes s → width_of L.fields ≤ length s → test s ≡ true → enc (dec s) ≡ take (width_of L.fields) s
  layout-again s h b t =
      ap enc (e.reads s)
      ∙ e.writes (L.to (nth (got_all L.fields s 0)))
      ∙ e.forth s
      ∙ all_again L.fields s 0 h (omega (arith, b)) (joined_all (tests_of L.fields s 0) (sym (e.tests s) ∙ t))

  pub layout-fit : (s : List ℕ) → Bytes s → L.Fit (dec s)
  layout-fit s h = subst L.Fit (sym (e.reads s)) (L.fitted (nth (got_all L.fields s 0)) (all_bounded L.fields s 0 h))

abbrev pub codec : {A : Type 0} {L : Layout A} {dec : List ℕ → A} {enc : A → List ℕ} {test : List ℕ → Bool} → Computes L dec enc test → Codec A
codec {L = L} {dec = dec} {enc = enc} {test = test} e =
    record {
      dec = dec;
      enc = enc;
      width = width_of L.fields;
      test = test;
      Fit = L.Fit;
      enc-width = layout-width e;
      enc-bytes = layout-bytes e;
      dec-take = layout-take e;
      test-take = layout-test-take e;
      dec-enc = layout-at e;
      test-enc = λ a rest h. layout-test e a rest;
      enc-dec = layout-again e;
      dec-fit = λ s h t. layout-fit e s h;
    }

-- the same codec, with its width as another term
abbrev pub wide_codec : {A : Type 0} (C : Codec A) {w : ℕ} → C.width ≡ w → Codec A
wide_codec C {w} e =
    record {
      dec = C.dec;
      enc = C.enc;
      width = w;
      test = C.test;
      Fit = C.Fit;
      enc-width = λ r. C.enc-width r ∙ e;
      enc-bytes = C.enc-bytes;
      dec-take = λ s. ap (λ (n : ℕ). C.dec (take n s)) (sym e) ∙ C.dec-take s;
      test-take = λ s. ap (λ (n : ℕ). C.test (take n s)) (sym e) ∙ C.test-take s;
      dec-enc = C.dec-enc;
      test-enc = C.test-enc;
      enc-dec = λ s h l t. C.enc-dec s h (rw e l) t ∙ ap (λ (n : ℕ). take n s) e;
      dec-fit = C.dec-fit;
    }
