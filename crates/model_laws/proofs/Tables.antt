-- Laws of tables: rows of one width, over a Codec.
--     row_next, row_in, rows_left, places     the bytes of i rows and one more; a row ends within m rows; the rows from it on; m of n rows and the others
--     length-rows, rows_append, rows_snoc, get_d_rows, rows-cons     rows as they are read, from a place, from an index on
--     every_row-rows, every_row-cons, every_row-true
--     bytes_of-append, bytes_of-one, length-bytes_of, bytes-bytes_of    the bytes of rows
--     rows_back, every_row-back      rows that were written are read back, and pass the rows' test
--     rows-again, rows_fit          rows that were read are written again: the same bytes; and they fit
--     rows_take, rows-written-below, rows-written-past, written-rows     rows and runs of stores
--     every-.., all-..              tests and properties of all elements
--     keep-.., every-keep, every-kept, length-keep, member_keep, keep_member
--     zeros-back, zeros-again, zeros-cons, bytes-replicate          runs of zero bytes
-- Assumes nothing.
use Prim.Native.Nat.{ℕ, zero, suc, ◌+◌, ◌-◌, ◌*◌, ◌≤◌, ◌<◌}
use mathlib.Core.Path.{◌≡◌, refl, sym, ap, ◌∙◌, subst}
use mathlib.Core.Bool.{Bool, true, false, ◌&&◌, and_assoc}
use mathlib.Core.List.{List, [], ◌∷◌, ◌++◌, append_assoc, append-nil, Memᴰ}
use native.Mathlib.Omega.{arith}
use native.Mathlib.Numerals.{add-one}
use native.Mathlib.Nat.{zero-add, suc-add, mul-suc, mul-add, mul-zero}
use lib.ListN.{length, get_or, take, drop, replicate, length-append, length-drop}
use lib.Seq.{drop_at, drop-drop, take-add, take-take, get_or-drop, take-nil}
use lib.Dec.{eqb, lit<}
use borrow.Author.Tests.{eqb-true}
use Rattle.model.specs.Choice.{pick}
use Rattle.model.specs.Tables.{rows, every_row, bytes_of, every, keep, zeros, written}
use Rattle.model_laws.specs.Bytes.{Bytes, All}
use Rattle.model_laws.specs.Codec.{Codec}
use Rattle.model_laws.proofs.Tests.{and_left, and_right, and_both}
use Rattle.model_laws.proofs.Numbers.{bytes-nil, bytes-cons, bytes-append, bytes_drop}
use Rattle.model_laws.proofs.Written.{take-written, drop-written-past, written-again}

-- ---- rows of w bytes: w * i is one term

pub row_next : (w i : ℕ) → w * i + w ≡ w * (i + 1)
row_next w i = rw (add-one, mul-suc) (omega arith)

-- m of n places of w bytes, and the others
pub places : (w m n : ℕ) → m ≤ n → w * m + w * (n - m) ≡ w * n
places w m n h = let e : m + (n - m) ≡ n = omega arith in sym (mul-add w m (n - m)) ∙ ap (λ (x : ℕ). w * x) e

pub row_in : (w i m : ℕ) → i < m → w * i + w ≤ w * m
row_in w i m h = omega (arith, row_next w i, places w (i + 1) m (omega arith))

-- the rows from index i on, the first apart
pub rows_left : (w i m : ℕ) → i < m → w * i + w * (m - (i + 1) + 1) ≡ w * m
rows_left w i m h = let e : m - (i + 1) + 1 ≡ m - i = omega arith in rw e (places w i m (omega arith))

-- ---- rows

drop-take : (k n : ℕ) (s : List ℕ) → drop k (take (k + n) s) ≡ take n (drop k s)
drop-take zero n s = rw zero-add
drop-take (suc k) n [] = rw suc-add (sym (take-nil n))
drop-take (suc k) n (b ∷ s) = rw suc-add (drop-take k n s)

drop_row : (w i : ℕ) (s : List ℕ) → drop (w * i) (drop w s) ≡ drop (w * suc i) s
drop_row w i s = let e : w + w * i ≡ w * suc i = omega (arith, mul-suc w i) in rw (drop-drop, e)

module _ {A : Type 0} (dec : List ℕ → A) (w : ℕ) where
  pub length-rows : (n : ℕ) (s : List ℕ) → length (rows dec w n s) ≡ n
  unfolding rows
  length-rows zero s = refl
  length-rows (suc n) s = ap suc (length-rows n (drop w s))

  pub rows_append : (m n : ℕ) (s : List ℕ) → rows dec w (m + n) s ≡ rows dec w m s ++ rows dec w n (drop (w * m) s)
  unfolding rows
  rows_append zero n s = rw (zero-add, mul-zero)
  rows_append (suc m) n s =
      rw suc-add (ap (λ (x : List A). dec s ∷ x) (rows_append m n (drop w s) ∙ ap (λ (x : List ℕ). rows dec w m (drop w s) ++ rows dec w n x) (drop_row w m s)))

  pub rows_snoc : (n : ℕ) (s : List ℕ) → rows dec w (n + 1) s ≡ rows dec w n s ++ (dec (drop (w * n) s) ∷ [])
  unfolding rows
  rows_snoc n s = rows_append n 1 s

  -- the row of index i, and the rows from it on
  pub get_d_rows : (n : ℕ) (s : List ℕ) (i : ℕ) (d : A) → i < n → get_or (rows dec w n s) i d ≡ dec (drop (w * i) s)
  unfolding rows
  get_d_rows zero s i d h = absurd (omega arith)
  get_d_rows (suc n) s zero d h = rw mul-zero
  get_d_rows (suc n) s (suc i) d h =
      get_d_rows n (drop w s) i d (omega arith) ∙ ap dec (drop_row w i s)

  pub rows-cons : (s : List ℕ) (k i n : ℕ) → i < n
      → rows dec w (n - i) (drop (k + w * i) s) ≡ dec (drop (k + w * i) s) ∷ rows dec w (n - (i + 1)) (drop (k + w * (i + 1)) s)
  unfolding rows
  rows-cons s k i n h =
      let e : n - i ≡ suc (n - (i + 1)) = omega arith in
      let q : k + w * i + w ≡ k + w * (i + 1) = omega (arith, row_next w i) in
      rw (e, drop-drop, q)

-- each row passes a test of its bytes, which is a test of the row
pub every_row-rows : {A : Type 0} (dec : List ℕ → A) (u : A → Bool) (t : List ℕ → Bool) → ((s : List ℕ) → t s ≡ u (dec s)) → (w n : ℕ) (s : List ℕ)
    → every_row t w n s ≡ every u (rows dec w n s)
unfolding every_row every rows
every_row-rows dec u t h w zero s = refl
every_row-rows dec u t h w (suc n) s = rw (h s, every_row-rows dec u t h w n (drop w s))

pub every_row-cons : (t : List ℕ → Bool) (w : ℕ) (s : List ℕ) (k i n : ℕ) → i < n
    → every_row t w (n - i) (drop (k + w * i) s) ≡ (t (drop (k + w * i) s) && every_row t w (n - (i + 1)) (drop (k + w * (i + 1)) s))
unfolding every_row
every_row-cons t w s k i n h =
    let e : n - i ≡ suc (n - (i + 1)) = omega arith in
    let q : k + w * i + w ≡ k + w * (i + 1) = omega (arith, row_next w i) in
    rw (e, drop-drop, q)

pub every_row-true : (w n : ℕ) (s : List ℕ) → every_row (λ x. true) w n s ≡ true
unfolding every_row
every_row-true w zero s = refl
every_row-true w (suc n) s = every_row-true w n (drop w s)

-- ---- the bytes of rows

module _ {A : Type 0} (enc : A → List ℕ) where
  pub bytes_of-append : (rs ts : List A) → bytes_of enc (rs ++ ts) ≡ bytes_of enc rs ++ bytes_of enc ts
  unfolding bytes_of
  bytes_of-append [] ts = refl
  bytes_of-append (r ∷ rs) ts = rw (bytes_of-append rs ts, append_assoc)

  pub bytes_of-one : (r : A) → bytes_of enc (r ∷ []) ≡ enc r
  unfolding bytes_of
  bytes_of-one r = append-nil (enc r)

module _ {A : Type 0} (C : Codec A) where
  pub length-bytes_of : (rs : List A) → length (bytes_of C.enc rs) ≡ C.width * length rs
  unfolding bytes_of
  length-bytes_of [] = sym (mul-zero C.width)
  length-bytes_of (r ∷ rs) = rw (length-append, C.enc-width r, length-bytes_of rs) (omega (arith, mul-suc C.width (length rs)))

  pub bytes-bytes_of : (rs : List A) → All C.Fit rs → Bytes (bytes_of C.enc rs)
  unfolding bytes_of
  bytes-bytes_of [] f = bytes-nil
  bytes-bytes_of (r ∷ rs) f = bytes-append (C.enc r) (bytes_of C.enc rs) (C.enc-bytes r f.0) (bytes-bytes_of rs f.1)

  -- rows that were written are read back, and pass the test
  pub rows_back : (rs : List A) (rest : List ℕ) → All C.Fit rs → rows C.dec C.width (length rs) (bytes_of C.enc rs ++ rest) ≡ rs
  unfolding rows bytes_of
  rows_back [] rest f = refl
  rows_back (r ∷ rs) rest f =
      rw (append_assoc, C.dec-enc r (bytes_of C.enc rs ++ rest) f.0, drop_at (C.enc r) (bytes_of C.enc rs ++ rest) C.width (C.enc-width r))
      (ap (λ (x : List A). r ∷ x) (rows_back rs rest f.1))

  pub every_row-back : (rs : List A) (rest : List ℕ) → All C.Fit rs
      → every_row C.test C.width (length rs) (bytes_of C.enc rs ++ rest) ≡ true
  unfolding every_row bytes_of
  every_row-back [] rest f = refl
  every_row-back (r ∷ rs) rest f =
      rw (append_assoc, C.test-enc r (bytes_of C.enc rs ++ rest) f.0, drop_at (C.enc r) (bytes_of C.enc rs ++ rest) C.width (C.enc-width r))
      (every_row-back rs rest f.1)

  -- rows that were read are written again: the same bytes
  pub rows-again : (n : ℕ) (s : List ℕ) → Bytes s → C.width * n ≤ length s → every_row C.test C.width n s ≡ true
      → bytes_of C.enc (rows C.dec C.width n s) ≡ take (C.width * n) s
  unfolding rows bytes_of every_row
  rows-again zero s h b t = rw mul-zero
  rows-again (suc n) s h b t =
      let m : C.width * suc n ≡ C.width + C.width * n = omega (arith, mul-suc C.width n) in
      let one : C.enc (C.dec s) ≡ take C.width s = C.enc-dec s h (omega arith) (and_left (C.test s) (every_row C.test C.width n (drop C.width s)) t) in
      let more : bytes_of C.enc (rows C.dec C.width n (drop C.width s)) ≡ take (C.width * n) (drop C.width s) =
      rows-again n (drop C.width s) (bytes_drop C.width s h) (rw length-drop (omega arith))
      (and_right (C.test s) (every_row C.test C.width n (drop C.width s)) t) in
      rw (one, more, m, take-add)

  pub rows_fit : (n : ℕ) (s : List ℕ) → Bytes s → every_row C.test C.width n s ≡ true → All C.Fit (rows C.dec C.width n s)
  unfolding rows every_row
  rows_fit zero s h t = tt
  rows_fit (suc n) s h t = (
    C.dec-fit s h (and_left (C.test s) (every_row C.test C.width n (drop C.width s)) t),
    rows_fit n (drop C.width s) (bytes_drop C.width s h) (and_right (C.test s) (every_row C.test C.width n (drop C.width s)) t),
  )

  -- only the rows' own bytes count
  pub rows_take : (n m : ℕ) (s : List ℕ) → C.width * n ≤ m → rows C.dec C.width n (take m s) ≡ rows C.dec C.width n s
  unfolding rows
  rows_take zero m s h = refl
  rows_take (suc n) m s h =
      let e : m ≡ C.width + (m - C.width) = omega (arith, mul-suc C.width n) in
      let one : C.dec (take m s) ≡ C.dec s = sym (C.dec-take (take m s)) ∙ ap C.dec (take-take C.width m s (omega (arith, mul-suc C.width n))) ∙ C.dec-take s in
      rw (one, e, drop-take C.width (m - C.width) s)
      (ap (λ (x : List A). C.dec s ∷ x) (rows_take n (m - C.width) (drop C.width s) (omega (arith, mul-suc C.width n))))

  -- rows before a run of stores, and past it
  pub rows-written-below : (s : List ℕ) (i : ℕ) (vs : List ℕ) (k n : ℕ) → k + C.width * n ≤ i
      → rows C.dec C.width n (drop k (written s i vs)) ≡ rows C.dec C.width n (drop k s)
  rows-written-below s i vs k n h =
      let e : take (C.width * n) (drop k (written s i vs)) ≡ take (C.width * n) (drop k s) =
      sym (drop-take k (C.width * n) (written s i vs)) ∙ ap (λ (x : List ℕ). drop k x) (take-written (k + C.width * n) s i vs h) ∙ drop-take k (C.width * n) s in
      sym (rows_take n (C.width * n) (drop k (written s i vs)) (omega arith))
      ∙ ap (λ (x : List ℕ). rows C.dec C.width n x) e
      ∙ rows_take n (C.width * n) (drop k s) (omega arith)

  pub rows-written-past : (s : List ℕ) (i : ℕ) (vs : List ℕ) (k n : ℕ) → i + length vs ≤ k
      → rows C.dec C.width n (drop k (written s i vs)) ≡ rows C.dec C.width n (drop k s)
  rows-written-past s i vs k n h = ap (λ (x : List ℕ). rows C.dec C.width n x) (drop-written-past k s i vs h)

  -- rows stored where they stand change nothing
  pub written-rows : (s : List ℕ) (k n : ℕ) → Bytes s → k + C.width * n ≤ length s → every_row C.test C.width n (drop k s) ≡ true
      → written s k (bytes_of C.enc (rows C.dec C.width n (drop k s))) ≡ s
  written-rows s k n h b t =
      written-again s k (C.width * n) (bytes_of C.enc (rows C.dec C.width n (drop k s)))
      (rows-again n (drop k s) (bytes_drop k s h) (rw length-drop (omega arith)) t)

-- ---- every

module _ {A : Type 0} where
  pub every_append : (t : A → Bool) (rs ts : List A) → every t (rs ++ ts) ≡ (every t rs && every t ts)
  unfolding every
  every_append t [] ts = refl
  every_append t (r ∷ rs) ts = rw (every_append t rs ts) (sym (and_assoc (t r) (every t rs) (every t ts)))

  -- as a property of all
  pub every_all : (t : A → Bool) (rs : List A) → every t rs ≡ true → All (λ r. t r ≡ true) rs
  unfolding every
  every_all t [] e = tt
  every_all t (r ∷ rs) e = (and_left (t r) (every t rs) e, every_all t rs (and_right (t r) (every t rs) e))

  pub all_every : (t : A → Bool) (rs : List A) → All (λ r. t r ≡ true) rs → every t rs ≡ true
  unfolding every
  all_every t [] f = refl
  all_every t (r ∷ rs) f = and_both (t r) (every t rs) f.0 (all_every t rs f.1)

  pub all_map : (P Q : A → Type 0) → ((r : A) → P r → Q r) → (rs : List A) → All P rs → All Q rs
  all_map P Q h [] f = tt
  all_map P Q h (r ∷ rs) f = (h r f.0, all_map P Q h rs f.1)

  pub all_both : (P Q : A → Type 0) (rs : List A) → All P rs → All Q rs → All (λ r. P r × Q r) rs
  all_both P Q [] f g = tt
  all_both P Q (r ∷ rs) f g = ((f.0, g.0), all_both P Q rs f.1 g.1)

  pub all_append : (P : A → Type 0) (rs ts : List A) → All P rs → All P ts → All P (rs ++ ts)
  all_append P [] ts f g = g
  all_append P (r ∷ rs) ts f g = (f.0, all_append P rs ts f.1 g)

  pub all_get_d : (P : A → Type 0) (rs : List A) (i : ℕ) (d : A) → All P rs → i < length rs → P (get_or rs i d)
  all_get_d P [] i d f h = absurd (omega arith)
  all_get_d P (r ∷ rs) zero d f h = f.0
  all_get_d P (r ∷ rs) (suc i) d f h = all_get_d P rs i d f.1 (omega arith)

  pub all_member : (P : A → Type 0) {r : A} {rs : List A} → All P rs → Memᴰ r rs → P r
  all_member P f (Memᴰ.head e) = subst P (sym e) f.0
  all_member P f (Memᴰ.tail m) = all_member P f.1 m

  pub every_member : (t : A → Bool) {r : A} (rs : List A) → every t rs ≡ true → Memᴰ r rs → t r ≡ true
  every_member t rs e m = all_member (λ r. t r ≡ true) (every_all t rs e) m

  pub every-get_or : (t : A → Bool) (rs : List A) (i : ℕ) (d : A) → every t rs ≡ true → i < length rs → t (get_or rs i d) ≡ true
  every-get_or t rs i d e h = all_get_d (λ r. t r ≡ true) rs i d (every_all t rs e) h

  -- a test that implies another
  pub every_imp : (t u : A → Bool) → ((r : A) → t r ≡ true → u r ≡ true) → (rs : List A) → every t rs ≡ true → every u rs ≡ true
  every_imp t u h rs e = all_every u rs (all_map (λ r. t r ≡ true) (λ r. u r ≡ true) h rs (every_all t rs e))

  -- tests that agree
  pub every-same : (t u : A → Bool) → ((r : A) → t r ≡ u r) → (rs : List A) → every t rs ≡ every u rs
  unfolding every
  every-same t u h [] = refl
  every-same t u h (r ∷ rs) = rw (h r, every-same t u h rs)

  -- ---- keep

  pub keep_append : (t : A → Bool) (rs ts : List A) → keep t (rs ++ ts) ≡ keep t rs ++ keep t ts
  unfolding keep
  keep_append t [] ts = refl
  keep_append t (r ∷ rs) ts = rw (keep_append t rs ts) (step (t r))
    where
      step : (b : Bool) → pick b (r ∷ (keep t rs ++ keep t ts)) (keep t rs ++ keep t ts) ≡ pick b (r ∷ keep t rs) (keep t rs) ++ keep t ts
      step true = refl
      step false = refl

  -- one more row, kept or not
  pub keep_yes : (t : A → Bool) (rs : List A) (r : A) → t r ≡ true → keep t (rs ++ (r ∷ [])) ≡ keep t rs ++ (r ∷ [])
  unfolding keep
  keep_yes t rs r e = rw (keep_append t rs (r ∷ []), e)

  pub keep_no : (t : A → Bool) (rs : List A) (r : A) → t r ≡ false → keep t (rs ++ (r ∷ [])) ≡ keep t rs
  unfolding keep
  keep_no t rs r e = rw (keep_append t rs (r ∷ []), e, append-nil)

  pub all_keep : (P : A → Type 0) (t : A → Bool) (rs : List A) → All P rs → All P (keep t rs)
  unfolding keep
  all_keep P t [] f = tt
  all_keep P t (r ∷ rs) f = step (t r) (all_keep P t rs f.1)
    where
      step : (b : Bool) → All P (keep t rs) → All P (pick b (r ∷ keep t rs) (keep t rs))
      step true g = (f.0, g)
      step false g = g

  -- what is kept passes the test, and every test that all pass
  pub every-keep : (t : A → Bool) (rs : List A) → every t (keep t rs) ≡ true
  unfolding keep every
  every-keep t [] = refl
  every-keep t (r ∷ rs) = step (t r) refl (every-keep t rs)
    where
      step : (b : Bool) → t r ≡ b → every t (keep t rs) ≡ true → every t (pick b (r ∷ keep t rs) (keep t rs)) ≡ true
      step true e f = and_both (t r) (every t (keep t rs)) e f
      step false e f = f

  pub every-kept : (u t : A → Bool) (rs : List A) → every u rs ≡ true → every u (keep t rs) ≡ true
  every-kept u t rs e = all_every u (keep t rs) (all_keep (λ r. u r ≡ true) t rs (every_all u rs e))

  pub keep_all : (t : A → Bool) (rs : List A) → every t rs ≡ true → keep t rs ≡ rs
  unfolding keep every
  keep_all t [] e = refl
  keep_all t (r ∷ rs) e = rw (and_left (t r) (every t rs) e) (ap (λ (x : List A). r ∷ x) (keep_all t rs (and_right (t r) (every t rs) e)))

  pub length-keep : (t : A → Bool) (rs : List A) → length (keep t rs) ≤ length rs
  unfolding keep
  length-keep t [] = omega arith
  length-keep t (r ∷ rs) = step (t r) (length-keep t rs)
    where
      step : (b : Bool) → length (keep t rs) ≤ length rs → length (pick b (r ∷ keep t rs) (keep t rs)) ≤ suc (length rs)
      step true h = omega arith
      step false h = omega arith

  -- membership
  pub member_keep : (t : A → Bool) {r : A} {rs : List A} → Memᴰ r rs → t r ≡ true → Memᴰ r (keep t rs)
  unfolding keep
  member_keep t {r} (Memᴰ.head {x = x} {xs = xs} q) e = rw (ap t (sym q) ∙ e) (Memᴰ.head q)
  member_keep t {r} (Memᴰ.tail {x = x} {xs = xs} m) e = step (t x) (member_keep t m e)
    where
      step : (b : Bool) → Memᴰ r (keep t xs) → Memᴰ r (pick b (x ∷ keep t xs) (keep t xs))
      step true m' = Memᴰ.tail m'
      step false m' = m'

  pub keep_member : (t : A → Bool) {r : A} (rs : List A) → Memᴰ r (keep t rs) → Memᴰ r rs
  unfolding keep
  keep_member t [] m = m
  keep_member t {r} (x ∷ rs) m = step (t x) m (λ m'. keep_member t rs m')
    where
      step : (b : Bool) → Memᴰ r (pick b (x ∷ keep t rs) (keep t rs)) → (Memᴰ r (keep t rs) → Memᴰ r rs) → Memᴰ r (x ∷ rs)
      step true (Memᴰ.head q) f = Memᴰ.head q
      step true (Memᴰ.tail m') f = Memᴰ.tail (f m')
      step false m' f = Memᴰ.tail (f m')

-- ---- zeros

pub zeros-back : (n : ℕ) (rest : List ℕ) → zeros n (replicate n 0 ++ rest) ≡ true
unfolding zeros
zeros-back zero rest = refl
zeros-back (suc n) rest = zeros-back n rest

pub zeros-again : (n : ℕ) (s : List ℕ) → n ≤ length s → zeros n s ≡ true → take n s ≡ replicate n 0
unfolding zeros
zeros-again zero s h e = refl
zeros-again (suc n) [] h e = absurd (omega arith)
zeros-again (suc n) (b ∷ s) h e =
    rw (eqb-true b 0 (and_left (eqb b 0) (zeros n s) e)) (ap (λ (x : List ℕ). 0 ∷ x) (zeros-again n s (omega arith) (and_right (eqb b 0) (zeros n s) e)))

zeros-nil : (n : ℕ) → zeros n [] ≡ true
unfolding zeros
zeros-nil zero = refl
zeros-nil (suc n) = refl

zeros-first : (n : ℕ) (s : List ℕ) → zeros (suc n) s ≡ (eqb (get_or s 0 0) 0 && zeros n (drop 1 s))
unfolding zeros
zeros-first n [] = sym (zeros-nil n)
zeros-first n (b ∷ s) = refl

-- from index i on, as a loop reads them
pub zeros-cons : (s : List ℕ) (k i n : ℕ) → i < n → zeros (n - i) (drop (k + i) s) ≡ (eqb (get_or s (k + i) 0) 0 && zeros (n - (i + 1)) (drop (k + (i + 1)) s))
zeros-cons s k i n h =
    let e : n - i ≡ suc (n - (i + 1)) = omega arith in
    let q : k + i + 1 ≡ k + (i + 1) = omega arith in
    let z : k + i + 0 ≡ k + i = omega arith in
    rw e (zeros-first (n - (i + 1)) (drop (k + i) s) ∙ rw (get_or-drop (k + i) s 0 0, z, drop-drop 1 (k + i) s, q))

pub bytes-replicate : (n : ℕ) → Bytes (replicate n 0)
bytes-replicate zero = bytes-nil
bytes-replicate (suc n) = bytes-cons 0 (replicate n 0) (lit< tt) (bytes-replicate n)
