-- Rows that open with an id.
--     row_id                                  the test of the row at a place
--     among                                   the place by the index
--     first_row                               the index, by a search over the indices of the rows
--     placed-below                            the place by it
-- Assumes nothing.
use Prim.Native.Nat.{ℕ, zero, suc, ◌+◌, ◌*◌, ◌≤◌, ◌<◌}
use mathlib.Core.Path.{◌≡◌, refl}
use mathlib.Core.Bool.{Bool, true, false, ◌&&◌}
use mathlib.Core.List.{List}
use native.Mathlib.Omega.{arith}
use native.Mathlib.Nat.{add-zero}
use native.Mathlib.Numerals.{add-one}
use borrow.Author.Tests.{lt-ltb, le-ltb}
use Rattle.std.specs.Prelude.{Option, Some, None, MatchOption}
use lib.ListN.{drop}
use lib.Dec.{eqb, ltb}
use Rattle.model.specs.declared.Place.{Place}
use Rattle.model.specs.Choice.{pick}
use Rattle.model.specs.Numbers.{le32_at}
use Rattle.model.specs.Tables.{rows, index_of}
use Rattle.model.specs.Checkpoints.{place_at, fronts, place_among}
use Rattle.model_laws.proofs.Numbers.{le32-drop}
use Rattle.model_laws.proofs.Tables.{length-rows}
use Rattle.model_laws.specs.Sought.{Sought}
use Rattle.model_laws.proofs.Searches.{sought_start, row_hit, row_next, row_none, index_rows}
use Rattle.server_inspect.specs.Places.{is_row_id, below}

pub row_id : (s : List ℕ) (k x c : ℕ) {a b : ℕ} → a ≡ le32_at s k → b ≡ le32_at s (k + 4) → (eqb a x && eqb b c) ≡ is_row_id x c (drop k s)
unfolding is_row_id
row_id s k x c p q = rw (p, q, le32-drop k s 0, le32-drop k s 4, add-zero)

module _ {A : Type 0} (dec : List ℕ → A) (t : A → Bool) (source k w n : ℕ) (s : List ℕ) (found : Place) where
  pub among : {i : ℕ} → i ≡ index_of (λ r. t (dec r)) (fronts w n s) → pick (ltb i n) (place_at source (k + w * i) w) found ≡ place_among source k w t (rows dec w n s) found
  unfolding place_among
  among e = rw (length-rows dec w n s, index_rows dec t w n s, ← e)

-- the rows of a slice from a place on
module _ (t : List ℕ → Bool) (w at n : ℕ) (s : List ℕ) where
  abbrev passes : ℕ → Bool
  passes i = t (drop (at + w * i) s)

  none_before : (i : ℕ) → i ≤ n → ((k : ℕ) → 0 ≤ k → k < i → passes k ≡ false) → Sought t (rows (λ r. r) w n (drop at s)) i
  none_before zero h f = sought_start t (rows (λ r. r) w n (drop at s))
  none_before (suc i) h f =
      let o = none_before i (omega arith) (λ k a b. f k a (omega arith)) in
      rw (← add-one) (row_next (λ r. r) w at n s o (omega arith) (f i (omega arith) (omega arith)))

  pub first_row : (r : Option ℕ)
      → MatchOption r ((k : ℕ) → 0 ≤ k → k < n → passes k ≡ false) (λ i. (0 ≤ i) × (i < n) × (passes i ≡ true) × ((k : ℕ) → 0 ≤ k → k < i → passes k ≡ false))
      → r ≡ below n (index_of t (fronts w n (drop at s)))
  unfolding fronts
  first_row None h =
      let e : n ≡ index_of t (fronts w n (drop at s)) = row_none (λ r. r) w at n s (none_before n (omega arith) h) (omega arith) in
      rw (← e, le-ltb n n (omega arith))
  first_row (Some i) h =
      let e : i ≡ index_of t (fronts w n (drop at s)) = row_hit (λ r. r) w at n s (none_before i (omega arith) h.3) h.1 h.2 in
      rw (← e, lt-ltb i n h.1)

module _ (n k : ℕ) where
  pub placed-below : (f : ℕ → Place) (found : Place) {o : Option ℕ} {r : Place} → o ≡ below n k → MatchOption o (r ≡ found) (λ i. r ≡ pick (ltb i n) (f i) found)
      → r ≡ pick (ltb k n) (f k) found
  placed-below f found {o} {r} e h = go (ltb k n) refl (rw e at h)
    where
      go : (b : Bool) → ltb k n ≡ b → MatchOption (pick b (Some k) None) (r ≡ found) (λ i. r ≡ pick (ltb i n) (f i) found) → r ≡ pick b (f k) found
      go true t q = rw t at q
      go false t q = q
