-- Loops over rows at places of a list of bytes.
--     every_open     what a loop that tests each row starts from: `Open`, the rows from i on decide the answer x
--     open_next, open_false, open_true     it goes on, stops, ends
--     walk_start     what a loop that tests each row, and its order with the next one, starts from: `Walk`
--     walk-next, walk-false, walk-true     it goes on, stops, ends
-- Assumes nothing.
use Prim.Native.Nat.{ℕ, ◌+◌, ◌-◌, ◌*◌, ◌≤◌, ◌<◌}
use mathlib.Core.Path.{◌≡◌, refl, sym, ◌∙◌}
use mathlib.Core.Bool.{Bool, true, false, ◌&&◌, not}
use mathlib.Core.List.{List, [], ◌∷◌}
use native.Mathlib.Omega.{arith}
use native.Mathlib.Nat.{add-zero, mul-zero, sub-zero}
use lib.ListN.{drop}
use lib.Seq.{drop-drop}
use borrow.Author.Tests.{not-true, not-false}
use Rattle.model.specs.Tables.{rows, every_row, every}
use Rattle.model_laws.proofs.Tables.{row_next, rows-cons, every_row-cons, every_row-rows}

-- ---- a test of each row

pub record Open (t : List ℕ → Bool) (w k : ℕ) (x : Bool) (s : List ℕ) (n i : ℕ) : Type 0 where
  pub below : i ≤ n
  pub rest : x ≡ every_row t w (n - i) (drop (k + w * i) s)

module _ {t : List ℕ → Bool} {w k : ℕ} {x : Bool} {s : List ℕ} {n i : ℕ} (o : Open t w k x s n i) where
  pub open_next : {u : Bool} → i < n → u ≡ t (drop (k + w * i) s) → not u ≡ false → Open t w k x s n (i + 1)
  open_next {u} h p q = record { below = omega arith; rest = o.rest ∙ rw (every_row-cons t w s k i n h, ← p, not-false u q) }

  pub open_false : {u : Bool} → i < n → u ≡ t (drop (k + w * i) s) → not u ≡ true → false ≡ x
  open_false {u} h p q = sym (o.rest ∙ rw (every_row-cons t w s k i n h, ← p, not-true u q))

  pub open_true : n ≤ i → true ≡ x
  unfolding every_row
  open_true h = let e : n - i ≡ 0 = omega arith in sym (o.rest ∙ rw e)

-- a test of rows as it is read
abbrev pub row_test : {A : Type 0} → (List ℕ → A) → (A → Bool) → List ℕ → Bool
row_test dec u t = u (dec t)

pub every_open : {A : Type 0} (dec : List ℕ → A) (w k : ℕ) (u : A → Bool) (s : List ℕ) (n : ℕ)
    → Open (row_test dec u) w k (every u (rows dec w n (drop k s))) s n 0
every_open dec w k u s n =
    record { below = omega arith; rest = rw (mul-zero, add-zero, sub-zero) (sym (every_row-rows dec u (row_test dec u) (λ x. refl) w n (drop k s))) }

-- ---- a test t of each row, and f of their order

-- what f asks of rows, the first of them apart
pub record Ordered {A : Type 0} (f : List A → Bool) (before : A → List A → Bool) : Type 0 where
  pub none : f [] ≡ true
  pub more : (a : A) (l : List A) → f (a ∷ l) ≡ (before a l && f l)

pub record Walk {A : Type 0} (dec : List ℕ → A) (f : List A → Bool) (t : List ℕ → Bool) (w k : ℕ) (x : Bool) (s : List ℕ) (n i : ℕ) : Type 0 where
  pub below : i ≤ n
  pub rest : x ≡ (every_row t w (n - i) (drop (k + w * i) s) && f (rows dec w (n - i) (drop (k + w * i) s)))

pub walk_start : {A : Type 0} (dec : List ℕ → A) (f : List A → Bool) (t : List ℕ → Bool) (w k : ℕ) (x : Bool) (s : List ℕ) (n : ℕ)
    → x ≡ (every_row t w n (drop k s) && f (rows dec w n (drop k s))) → Walk dec f t w k x s n 0
walk_start dec f t w k x s n e = record { below = omega arith; rest = rw (mul-zero, add-zero, sub-zero) e }

-- tests of the first row and of the others, in another grouping
regroup : (a b c d : Bool) → ((a && b) && (c && d)) ≡ ((c && a) && (b && d))
regroup true b true d = refl
regroup true true false d = refl
regroup true false false d = refl
regroup false b true d = refl
regroup false b false d = refl

module _ {A : Type 0} {dec : List ℕ → A} {f : List A → Bool} {t : List ℕ → Bool} {w k : ℕ} {x : Bool} {s : List ℕ} {n i : ℕ} (o : Walk dec f t w k x s n i) where
  pub walk-true : {before : A → List A → Bool} → Ordered f before → n ≤ i → true ≡ x
  unfolding every_row rows
  walk-true q h = let e : n - i ≡ 0 = omega arith in sym (o.rest ∙ rw e q.none)

  module _ {before : A → List A → Bool} (q : Ordered f before) {u : Bool} (h : i < n)
      (p : u ≡ (before (dec (drop (k + w * i) s)) (rows dec w (n - (i + 1)) (drop w (drop (k + w * i) s))) && t (drop (k + w * i) s))) where
    step : x ≡ (u && (every_row t w (n - (i + 1)) (drop (k + w * (i + 1)) s) && f (rows dec w (n - (i + 1)) (drop (k + w * (i + 1)) s))))
    step =
        let at : List ℕ = drop (k + w * i) s in
        let place : k + w * i + w ≡ k + w * (i + 1) = omega (arith, row_next w i) in
        let next : drop w at ≡ drop (k + w * (i + 1)) s = rw (drop-drop, place) in
        let others : List A = rows dec w (n - (i + 1)) (drop (k + w * (i + 1)) s) in
        let u' : u ≡ (before (dec at) others && t at) = rw next at p in
        o.rest
        ∙ rw (every_row-cons t w s k i n h, rows-cons dec w s k i n h, q.more (dec at) others, u')
        (regroup (t at) (every_row t w (n - (i + 1)) (drop (k + w * (i + 1)) s)) (before (dec at) others) (f others))

    pub walk-next : not u ≡ false → Walk dec f t w k x s n (i + 1)
    walk-next e = record { below = omega arith; rest = rw (not-false u e) at step }

    pub walk-false : not u ≡ true → false ≡ x
    walk-false e = sym (rw (not-true u e) at step)
