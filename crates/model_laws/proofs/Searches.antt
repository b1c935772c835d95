-- Laws of a search for the first element that passes a test.
--     sought_start, sought_hit, sought_next, sought_none     the loop over the elements of a list
--     row_hit, row_next, row_none                            over n rows of w bytes from a place of a slice
--     row_run                                                m rows at a time
--     index_most                                             the index is at most their number
--     index_rows                                             the index by what the rows hold
-- Assumes nothing.
use Prim.Native.Nat.{ℕ, zero, suc, ◌+◌, ◌-◌, ◌*◌, ◌≤◌, ◌<◌}
use mathlib.Core.Path.{◌≡◌, refl, sym, ap, ◌∙◌}
use mathlib.Core.Bool.{Bool, true, false, ◌&&◌, not, false≢true}
use mathlib.Core.List.{List, [], ◌∷◌, ◌++◌}
use native.Mathlib.Omega.{arith}
use native.Mathlib.Nat.{add-zero}
use native.Mathlib.Numerals.{add-one}
use lib.ListN.{length, get_or, drop, drop_of_length-le}
use lib.Seq.{drop-cons, drop-drop, drop_at}
use Rattle.model.specs.Choice.{pick}
use Rattle.model.specs.Tables.{rows, every, index_of}
use Rattle.model.specs.Checkpoints.{fronts}
use Rattle.model_laws.specs.Sought.{Sought}
use Rattle.model_laws.proofs.Tables.{length-rows, rows_append, get_d_rows}

-- ---- a list

pub sought_start : {A : Type 0} (t : A → Bool) (xs : List A) → Sought t xs 0
sought_start t xs = record { below = omega arith; rest = omega arith }

module _ {A : Type 0} {t : A → Bool} {xs : List A} {i : ℕ} (o : Sought t xs i) (d : A) where
  pub sought_hit : i < length xs → t (get_or xs i d) ≡ true → i ≡ index_of t xs
  unfolding index_of
  sought_hit h q = sym (o.rest ∙ rw (drop-cons xs i d h, q) (add-zero i))

  pub sought_next : i < length xs → t (get_or xs i d) ≡ false → Sought t xs (i + 1)
  unfolding index_of
  sought_next h q = record { below = omega arith; rest = o.rest ∙ rw (drop-cons xs i d h, q, add-one) (omega arith) }

pub sought_none : {A : Type 0} {t : A → Bool} {xs : List A} {i : ℕ} → Sought t xs i → length xs ≤ i → i ≡ index_of t xs
unfolding index_of
sought_none {A} {t} {xs} {i} o h = sym (o.rest ∙ rw (drop_of_length-le xs h) (add-zero i))

module _ {A : Type 0} (t : A → Bool) where
  past_all : (ys zs : List A) → every (λ y. not (t y)) ys ≡ true → index_of t (ys ++ zs) ≡ length ys + index_of t zs
  unfolding every index_of
  past_all [] zs e = omega arith
  past_all (y ∷ ys) zs e = go (t y) e (past_all ys zs)
    where
      go : (b : Bool) → (not b && every (λ y. not (t y)) ys) ≡ true → (every (λ y. not (t y)) ys ≡ true → index_of t (ys ++ zs) ≡ length ys + index_of t zs)
          → pick b 0 (suc (index_of t (ys ++ zs))) ≡ suc (length ys) + index_of t zs
      go true k ih = absurd (false≢true k)
      go false k ih = omega (arith, ih k)

  pub index_most : (xs : List A) → index_of t xs ≤ length xs
  unfolding index_of
  index_most [] = omega arith
  index_most (x ∷ xs) = go (t x) (index_most xs)
    where
      go : (b : Bool) → index_of t xs ≤ length xs → pick b 0 (suc (index_of t xs)) ≤ suc (length xs)
      go true h = omega arith
      go false h = omega arith

-- ---- the rows of a slice

drop-rows : {A : Type 0} (dec : List ℕ → A) (w n i : ℕ) (s : List ℕ) → i ≤ n → drop i (rows dec w n s) ≡ rows dec w (n - i) (drop (w * i) s)
drop-rows dec w n i s h =
    let e : n ≡ i + (n - i) = omega arith in
    ap (λ (m : ℕ). drop i (rows dec w m s)) e
    ∙ rw (rows_append dec w i (n - i) s) (drop_at (rows dec w i s) (rows dec w (n - i) (drop (w * i) s)) i (length-rows dec w i s))

module _ {A : Type 0} {t : A → Bool} (dec : List ℕ → A) (w k n : ℕ) (s : List ℕ) {i : ℕ} (o : Sought t (rows dec w n (drop k s)) i) where
  abbrev xs : List A
  xs = rows dec w n (drop k s)

  there : i < n → t (get_or xs i (dec [])) ≡ t (dec (drop (k + w * i) s))
  there h = rw (get_d_rows dec w n (drop k s) i (dec []) h, drop-drop)

  pub row_hit : i < n → t (dec (drop (k + w * i) s)) ≡ true → i ≡ index_of t xs
  row_hit h q = sought_hit o (dec []) (rw (length-rows dec w n (drop k s)) h) (there h ∙ q)

  pub row_next : i < n → t (dec (drop (k + w * i) s)) ≡ false → Sought t xs (i + 1)
  row_next h q = sought_next o (dec []) (rw (length-rows dec w n (drop k s)) h) (there h ∙ q)

  pub row_none : n ≤ i → n ≡ index_of t xs
  row_none h =
      let l : length xs ≡ n = length-rows dec w n (drop k s) in
      let e : i ≡ n = omega (arith, o.below) in
      sym e ∙ sought_none o (omega arith)

  -- none of m rows passes
  pub row_run : (m : ℕ) → i + m ≤ n → every (λ x. not (t x)) (rows dec w m (drop (k + w * i) s)) ≡ true → Sought t xs (i + m)
  row_run m h q =
      let l : length xs ≡ n = length-rows dec w n (drop k s) in
      let ys : List A = rows dec w m (drop (k + w * i) s) in
      let zs : List A = rows dec w (n - (i + m)) (drop (w * m) (drop (k + w * i) s)) in
      let e : n - i ≡ m + (n - (i + m)) = omega arith in
      let split : drop i xs ≡ ys ++ zs =
      drop-rows dec w n i (drop k s) (omega arith)
      ∙ rw (drop-drop (w * i) k s, e) (rows_append dec w m (n - (i + m)) (drop (k + w * i) s)) in
      let rest : drop (i + m) xs ≡ zs =
      sym (drop-drop m i xs) ∙ rw split (drop_at ys zs m (length-rows dec w m (drop (k + w * i) s))) in
      record { below = omega arith; rest = o.rest ∙ rw (split, rest, past_all t ys zs q, length-rows dec w m (drop (k + w * i) s)) (omega arith) }

pub index_rows : {A : Type 0} (dec : List ℕ → A) (t : A → Bool) (w n : ℕ) (s : List ℕ) → index_of t (rows dec w n s) ≡ index_of (λ r. t (dec r)) (fronts w n s)
unfolding rows fronts index_of
index_rows dec t w zero s = refl
index_rows dec t w (suc n) s = ap (λ (m : ℕ). pick (t (dec s)) 0 (suc m)) (index_rows dec t w n (drop w s))
