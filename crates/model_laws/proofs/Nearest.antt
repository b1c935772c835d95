-- The nearest quotient: `Nearest x n q`, which says that no other integer is nearer to x / n than q, and q even where one is as near, holds of one q.
--     quotient_nearest_lem     it holds of quotient_nearest x n
--     nearest-only         and of nothing else
--     part-nearest         so the value of part, by the second version of its rule, is the nearest for every range and argument
-- Assumes nothing.
use Prim.Native.Nat.{ℕ, zero, suc, ◌+◌, ◌-◌, ◌*◌, ◌/◌, ◌%◌, ◌≤◌, ◌<◌}
use mathlib.Core.Path.{◌≡◌, refl, sym, ap, ◌∙◌, subst}
use mathlib.Core.Logic.{◌≢◌, ◌⊎◌, inl, inr, ⊎_elim}
use mathlib.Core.Bool.{Bool, true, false}
use native.Mathlib.Omega.{arith}
use native.Mathlib.Nat.{div-mul-le_self, lt-div-mul-add, mod-eq-sub-div-mul, mul-le-mul_right, suc-mul, zero-mul}
use borrow.Author.Tests.{ltb-true, ltb-false}
use lib.Dec.{ltb}
use lib.IntN.{ℤ, pos, negsuc, sub_ℕ, ◌+ℤ◌, ◌-ℤ◌, ◌*ℤ◌, neg_ℤ, neg_ℤ-neg_ℤ, neg_ℤ-+ℤ, ℤ_discrete, pos-ne-negsuc}
use Rattle.model.specs.Choice.{pick}
use Rattle.model.specs.Numbers.{nearest}
use Rattle.model.specs.Versions.{third}
use Rattle.model.specs.Limits.{whole_part, carried_out, by_hand}
use Rattle.model.specs.Sequential.{EntryZ, result_z, absolute, distance, Even, Nearest, quotient_nearest, rounded_z, part_z}
use Rattle.model_laws.proofs.Meaning.{lt-or_ge, sub_pos, sub_neg}

-- ---- distances

-- how far two numbers are apart
abbrev apart : ℕ → ℕ → ℕ
apart a b = (a - b) + (b - a)

size-sub : (a b : ℕ) → absolute (sub_ℕ a b) ≡ apart a b
size-sub a b =
    ⊎_elim (λ h. ap absolute (sub_neg a b h) ∙ omega arith) (λ h. ap absolute (sub_pos a b h) ∙ omega arith) (lt-or_ge a b)

distance_pos : (a b : ℕ) → distance (pos a) (pos b) ≡ apart a b
distance_pos a zero = omega arith
distance_pos a (suc b) = size-sub a (suc b)

distance_neg : (a b : ℕ) → distance (pos a) (neg_ℤ (pos b)) ≡ a + b
distance_neg a zero = refl
distance_neg a (suc b) = refl

-- ---- a product k × n beside d × n

data Place (n d k : ℕ) : Type 0 where
  same : k ≡ d → k * n ≡ d * n → Place n d k
  below : k * n + n ≤ d * n → Place n d k
  next : k ≡ suc d → k * n ≡ d * n + n → Place n d k
  far : suc d < k → d * n + n + n ≤ k * n → Place n d k

next_product : (n a b : ℕ) → suc a ≤ b → a * n + n ≤ b * n
next_product n a b h = let e : suc a * n ≤ b * n = mul-le-mul_right n h in let s : suc a * n ≡ a * n + n = suc-mul a n in omega arith

place : (n d k : ℕ) → Place n d k
place n d k =
    ⊎_elim (λ h. below (next_product n k d (omega arith)))
    (λ h. ⊎_elim (λ l. same (omega arith) (ap (λ (j : ℕ). j * n) (omega arith)))
    (λ l. ⊎_elim (λ u. next (omega arith) (ap (λ (j : ℕ). j * n) (let e : k ≡ suc d = omega arith in e) ∙ suc-mul d n))
    (λ u. far (omega arith) (let a = next_product n d (suc d) (omega arith) in let b = next_product n (suc d) k (omega arith) in omega arith)) (lt-or_ge k (suc (suc d))))
    (lt-or_ge k (suc d)))
    (lt-or_ge k d)

-- ---- the quotient rounded down, or one more

-- k is next to q, and q is even
abbrev Beside : ℕ → ℕ → Type 0
Beside q k = ((k ≡ suc q) ⊎ (q ≡ suc k)) × (q % 2 ≡ 0)

module _ (m n : ℕ) (h : 0 < n) where
  low : m / n * n ≤ m
  low = div-mul-le_self m n

  high : m < m / n * n + n
  high = lt-div-mul-add h

  data Side (q : ℕ) : Type 0 where
    down : q ≡ m / n → q * n ≡ m / n * n → 2 * (m - m / n * n) + m / n % 2 ≤ n → Side q
    up : q ≡ suc (m / n) → q * n ≡ m / n * n + n → n < 2 * (m - m / n * n) + m / n % 2 → Side q

  side : Side (nearest m n)
  unfolding nearest
  side = go (ltb n twice) refl
    where
      twice : ℕ
      twice = 2 * (m % n) + m / n % 2

      rest : m % n ≡ m - m / n * n
      rest = mod-eq-sub-div-mul m n

      go : (t : Bool) → ltb n twice ≡ t → Side (pick t (m / n + 1) (m / n))
      go true e =
          let u : n < twice = ltb-true n twice e in
          let s : suc (m / n) * n ≡ m / n * n + n = suc-mul (m / n) n in
          up (omega arith) (ap (λ (j : ℕ). j * n) (let p : m / n + 1 ≡ suc (m / n) = omega arith in p) ∙ s) (omega (arith, rest))
      go false e = let u : twice ≤ n = ltb-false n twice e in down refl refl (omega (arith, rest))

  -- no product is nearer than that of the quotient
  near-at : (k : ℕ) → apart m (nearest m n * n) ≤ apart m (k * n)
  near-at k = go side (place n (m / n) k)
    where
      go : {q : ℕ} → Side q → Place n (m / n) k → apart m (q * n) ≤ apart m (k * n)
      go (down e f l) (same a b) = omega (arith, low)
      go (down e f l) (below b) = omega (arith, low)
      go (down e f l) (next a b) = omega (arith, low, high)
      go (down e f l) (far a b) = omega (arith, low, high)
      go (up e f l) (same a b) = omega (arith, low, high)
      go (up e f l) (below b) = omega (arith, low, high)
      go (up e f l) (next a b) = omega (arith, low)
      go (up e f l) (far a b) = omega (arith, low, high)

  near_under : (j : ℕ) → apart m (nearest m n * n) ≤ m + suc j * n
  near_under j = go side
    where
      go : {q : ℕ} → Side q → apart m (q * n) ≤ m + suc j * n
      go (down e f l) = omega (arith, low)
      go (up e f l) = omega (arith, low, suc-mul j n)

  -- another is as near only beside an even quotient
  beside_at : (k : ℕ) → k ≢ nearest m n → apart m (k * n) ≡ apart m (nearest m n * n) → Beside (nearest m n) k
  beside_at k = go side (place n (m / n) k)
    where
      go : {q : ℕ} → Side q → Place n (m / n) k → k ≢ q → apart m (k * n) ≡ apart m (q * n) → Beside q k
      go (down e f l) (same a b) d t = absurd (d (omega arith))
      go (down e f l) (below b) d t = absurd (omega (arith, low))
      go (down e f l) (next a b) d t = (inl (omega arith), omega (arith, low, high))
      go (down e f l) (far a b) d t = absurd (omega (arith, low, high))
      go (up e f l) (same a b) d t = (inr (omega arith), omega (arith, low, high))
      go (up e f l) (below b) d t = absurd (omega (arith, low, high))
      go (up e f l) (next a b) d t = absurd (d (omega arith))
      go (up e f l) (far a b) d t = absurd (omega (arith, low, high))

  beside_under : (j : ℕ) → m + suc j * n ≢ apart m (nearest m n * n)
  beside_under j = go side
    where
      go : {q : ℕ} → Side q → m + suc j * n ≢ apart m (q * n)
      go (down e f l) t = omega (arith, low, suc-mul j n)
      go (up e f l) t = omega (arith, low, suc-mul j n)

-- ---- over the integers

even_pos : (q : ℕ) → q % 2 ≡ 0 → Even (pos q)
even_pos q e = (pos (q / 2), ap pos (omega arith))

pos_even : (q : ℕ) → Even (pos q) → q % 2 ≡ 0
pos_even q (pos k, e) = let f : q ≡ k + k = ap absolute e in omega arith
pos_even q (negsuc k, e) = absurd (pos-ne-negsuc q _ e)

-- the integers that are as near as the quotient, for a dividend that is not negative
module _ (m n : ℕ) (h : 0 < n) where
  abbrev q : ℕ
  q = nearest m n

  product_far : distance (pos m) (pos q *ℤ pos n) ≡ apart m (q * n)
  product_far = distance_pos m (q * n)

  beside : (p : ℤ) → p ≢ pos q → distance (pos m) (p *ℤ pos n) ≡ distance (pos m) (pos q *ℤ pos n) → (k : ℕ) × (p ≡ pos k) × Beside q k
  beside (pos k) d e = (k, refl, beside_at m n h k (λ f. d (ap pos f)) (sym (distance_pos m (k * n)) ∙ e ∙ product_far))
  beside (negsuc j) d e = absurd (beside_under m n h j (sym (distance_neg m (suc j * n)) ∙ e ∙ product_far))

  nearest_pos : Nearest (pos m) n (pos q)
  nearest_pos = record { near = near; even = λ p d e. even_pos q (beside p d e).2.1 }
    where
      near : (p : ℤ) → distance (pos m) (pos q *ℤ pos n) ≤ distance (pos m) (p *ℤ pos n)
      near (pos k) = rw (product_far, distance_pos m (k * n)) (near-at m n h k)
      near (negsuc j) = rw (product_far, distance_neg m (suc j * n)) (near_under m n h j)

  only_pos : (p : ℤ) → Nearest (pos m) n p → p ≡ pos q
  only_pos p N = go (ℤ_discrete p (pos q))
    where
      as_near : distance (pos m) (p *ℤ pos n) ≡ distance (pos m) (pos q *ℤ pos n)
      as_near = omega (arith, N.near (pos q), nearest_pos.near p)

      both : p ≢ pos q → p ≡ pos q
      both d =
          let b = beside p d as_near in
          let k = pos_even b.0 (subst Even b.1 (N.even (pos q) (λ e. d (sym e)) (sym as_near))) in
          absurd (⊎_elim (λ e. omega (arith, k, b.2.1)) (λ e. omega (arith, k, b.2.1)) b.2.0)

      go : Dec (p ≡ pos q) → p ≡ pos q
      go (yes e) = e
      go (no d) = both d

-- ---- a negative dividend: the same on the other side of 0

absolute_neg : (x : ℤ) → absolute (neg_ℤ x) ≡ absolute x
absolute_neg (pos zero) = refl
absolute_neg (pos (suc m)) = refl
absolute_neg (negsuc m) = refl

product_neg : (q : ℤ) (n : ℕ) → neg_ℤ q *ℤ pos n ≡ neg_ℤ (q *ℤ pos n)
product_neg (pos zero) n = rw (zero-mul n)
product_neg (pos (suc a)) n = refl
product_neg (negsuc a) n = sym (neg_ℤ-neg_ℤ (pos (suc a * n)))

distance_mirror : (x q : ℤ) (n : ℕ) → distance (neg_ℤ x) (q *ℤ pos n) ≡ distance x (neg_ℤ q *ℤ pos n)
distance_mirror x q n =
    sym (absolute_neg (neg_ℤ x +ℤ neg_ℤ (q *ℤ pos n)))
    ∙ ap absolute (neg_ℤ-+ℤ (neg_ℤ x) (neg_ℤ (q *ℤ pos n)) ∙ ap (λ (y : ℤ). y +ℤ neg_ℤ (neg_ℤ (q *ℤ pos n))) (neg_ℤ-neg_ℤ x) ∙ ap (λ (y : ℤ). x +ℤ neg_ℤ y) (sym (product_neg q n)))

mirror : (x : ℤ) (n : ℕ) (q : ℤ) → Nearest x n q → Nearest (neg_ℤ x) n (neg_ℤ q)
mirror x n q N = record { near = near; even = even }
  where
    back : distance (neg_ℤ x) (neg_ℤ q *ℤ pos n) ≡ distance x (q *ℤ pos n)
    back = distance_mirror x (neg_ℤ q) n ∙ ap (λ (y : ℤ). distance x (y *ℤ pos n)) (neg_ℤ-neg_ℤ q)

    near : (p : ℤ) → distance (neg_ℤ x) (neg_ℤ q *ℤ pos n) ≤ distance (neg_ℤ x) (p *ℤ pos n)
    near p = rw (back, distance_mirror x p n) (N.near (neg_ℤ p))

    even : (p : ℤ) → p ≢ neg_ℤ q → distance (neg_ℤ x) (p *ℤ pos n) ≡ distance (neg_ℤ x) (neg_ℤ q *ℤ pos n) → Even (neg_ℤ q)
    even p d e =
        let k = N.even (neg_ℤ p) (λ f. d (sym (neg_ℤ-neg_ℤ p) ∙ ap neg_ℤ f)) (sym (distance_mirror x p n) ∙ e ∙ back) in
        (neg_ℤ k.0, ap neg_ℤ k.1 ∙ neg_ℤ-+ℤ k.0 k.0)

-- ---- every dividend

pub quotient_nearest_lem : (x : ℤ) (n : ℕ) → 0 < n → Nearest x n (quotient_nearest x n)
unfolding quotient_nearest
quotient_nearest_lem (pos m) n h = nearest_pos m n h
quotient_nearest_lem (negsuc m) n h = mirror (pos (suc m)) n (pos (nearest (suc m) n)) (nearest_pos (suc m) n h)

pub nearest-only : (x : ℤ) (n : ℕ) → 0 < n → (p : ℤ) → Nearest x n p → p ≡ quotient_nearest x n
unfolding quotient_nearest
nearest-only (pos m) n h p N = only_pos m n h p N
nearest-only (negsuc m) n h p N = sym (neg_ℤ-neg_ℤ p) ∙ ap neg_ℤ (only_pos (suc m) n h (neg_ℤ p) (mirror (negsuc m) n p N))

-- ---- part

-- the sequential specification: for every range and argument the value is low and the nearest to (high − low) × a / 1000, and no other is
pub part-nearest : (e : EntryZ) (a : ℤ)
    → (q : ℤ) × (part_z third e a ≡ result_z carried_out (e.low +ℤ q) by_hand) × Nearest ((e.high -ℤ e.low) *ℤ a) whole_part q
    × ((p : ℤ) → Nearest ((e.high -ℤ e.low) *ℤ a) whole_part p → p ≡ q)
unfolding part_z rounded_z
part-nearest e a =
    let x = (e.high -ℤ e.low) *ℤ a in
    (quotient_nearest x whole_part, refl, quotient_nearest_lem x whole_part (omega arith), nearest-only x whole_part (omega arith))
