-- Laws of tests, of lists, and of maps changed at one key, which all modules share.
--     impossible, and-true, or-false, eqb_no, eqb_same   tests
--     keep_in, keep_out                                  what keep keeps
--     last_in, last-cases, map_in, map-out               a list with one more at its end; a list mapped
--     changed-cases                                      a map changed at one key: the key, or elsewhere
-- Assumes nothing.
use mathlib.Core.Path.{◌≡◌, refl, sym, ◌∙◌, ap, subst}
use mathlib.Core.Bool.{Bool, true, false, ◌&&◌, ◌||◌}
use mathlib.Core.List.Memᴰ
use mathlib.Core.List.{List, [], ◌∷◌, ◌++◌, map, Memᴰ}
use mathlib.Core.Logic.{◌⊎◌, inl, inr, ◌≢◌}
use native.Mathlib.Omega.{arith}
use Prim.Native.Nat.{ℕ}
use lib.Dec.{eqb}
use borrow.Author.Tests.{ltb-true, ltb-false, leb-true, leb-false, eqb-true, eqb-false}
use Rattle.model.specs.Choice.{pick}
use Rattle.model.specs.Tables.{keep}

-- ---- tests

-- true is not false
pub impossible : {X : Type 0} → true ≡ false → X
impossible e = let z : ◌≡◌ {A = ℕ} 0 1 = cc in absurd (omega arith)

pub or-false : {a b : Bool} → a || b ≡ false → (a ≡ false) × (b ≡ false)
or-false {a = true} {b} e = impossible e
or-false {a = false} {b} e = (refl, e)

pub and-true : {a b : Bool} → a && b ≡ true → (a ≡ true) × (b ≡ true)
and-true {a = true} {b} e = (refl, e)
and-true {a = false} {b} e = let z : ◌≡◌ {A = ℕ} 0 1 = cc in absurd (omega arith)

pub eqb_no : (a b : ℕ) → eqb a b ≡ false → a ≢ b
eqb_no a b e q = eqb-false a b e q

pub eqb_same : (a : ℕ) → eqb a a ≡ true
eqb_same a = go (eqb a a) refl
  where
    go : (b : Bool) → eqb a a ≡ b → b ≡ true
    go true e = refl
    go false e = absurd (eqb-false a a e refl)

pub ruleset tests = (eqb-true, eqb_no, leb-true, leb-false, ltb-true, ltb-false)

-- ---- what keep keeps

pub keep_in : {A : Type 0} (t : A → Bool) (r : A) (rs : List A) → Memᴰ r rs → t r ≡ true → Memᴰ r (keep t rs)
unfolding keep
keep_in t r [] m e = absurd (Memᴰ.not-nil m)
keep_in t r (s ∷ rs) m e = go (t s) refl (Memᴰ.cases_cons m) (λ k. keep_in t r rs k e)
  where
    go : (b : Bool) → t s ≡ b → (r ≡ s) ⊎ Memᴰ r rs → (Memᴰ r rs → Memᴰ r (keep t rs)) → Memᴰ r (pick b (s ∷ keep t rs) (keep t rs))
    go true q (inl h) ih = Memᴰ.head h
    go true q (inr h) ih = Memᴰ.tail (ih h)
    go false q (inl h) ih = impossible (sym e ∙ ap t h ∙ q)
    go false q (inr h) ih = ih h

pub keep_out : {A : Type 0} (t : A → Bool) (r : A) (rs : List A) → Memᴰ r (keep t rs) → Memᴰ r rs × (t r ≡ true)
unfolding keep
keep_out t r [] m = absurd (Memᴰ.not-nil m)
keep_out t r (s ∷ rs) m = go (t s) refl m (λ k. keep_out t r rs k)
  where
    one : t s ≡ true → (r ≡ s) ⊎ Memᴰ r (keep t rs) → (Memᴰ r (keep t rs) → Memᴰ r rs × (t r ≡ true)) → Memᴰ r (s ∷ rs) × (t r ≡ true)
    one q (inl h) ih = (Memᴰ.head h, ap t h ∙ q)
    one q (inr h) ih = let k = ih h in (Memᴰ.tail k.0, k.1)

    go : (b : Bool) → t s ≡ b → Memᴰ r (pick b (s ∷ keep t rs) (keep t rs)) → (Memᴰ r (keep t rs) → Memᴰ r rs × (t r ≡ true)) → Memᴰ r (s ∷ rs) × (t r ≡ true)
    go true q k ih = one q (Memᴰ.cases_cons k) ih
    go false q k ih = let h = ih k in (Memᴰ.tail h.0, h.1)

-- ---- lists

-- what stands in a list with one more at its end
pub last-cases : {A : Type 0} {a b : A} (l : List A) → Memᴰ a (l ++ (b ∷ [])) → (a ≡ b) ⊎ Memᴰ a l
last-cases {a = a} {b = b} l m = go (Memᴰ.append_cases l m)
  where
    go : Memᴰ a l ⊎ Memᴰ a (b ∷ []) → (a ≡ b) ⊎ Memᴰ a l
    go (inl k) = inr k
    go (inr k) = inl (Memᴰ.eq_of_singleton k)

pub last_in : {A : Type 0} (a : A) (l : List A) → Memᴰ a (l ++ (a ∷ []))
last_in a l = Memᴰ.append_right l (Memᴰ.head refl)

pub map_in : {A B : Type 0} (f : A → B) (a : A) (l : List A) → Memᴰ a l → Memᴰ (f a) (map f l)
map_in f a [] m = absurd (Memᴰ.not-nil m)
map_in f a (x ∷ l) m = go (Memᴰ.cases_cons m) (λ k. map_in f a l k)
  where
    go : (a ≡ x) ⊎ Memᴰ a l → (Memᴰ a l → Memᴰ (f a) (map f l)) → Memᴰ (f a) (f x ∷ map f l)
    go (inl e) ih = Memᴰ.head (ap f e)
    go (inr k) ih = Memᴰ.tail (ih k)

pub map-out : {A B : Type 0} (f : A → B) (b : B) (l : List A) → Memᴰ b (map f l) → (a : A) × Memᴰ a l × (b ≡ f a)
map-out f b [] m = absurd (Memᴰ.not-nil m)
map-out {A} f b (x ∷ l) m = go (Memᴰ.cases_cons m) (λ k. map-out f b l k)
  where
    go : (b ≡ f x) ⊎ Memᴰ b (map f l) → (Memᴰ b (map f l) → (a : A) × Memᴰ a l × (b ≡ f a)) → (a : A) × Memᴰ a (x ∷ l) × (b ≡ f a)
    go (inl e) ih = (x, Memᴰ.head refl, e)
    go (inr k) ih = let h = ih k in (h.0, Memᴰ.tail h.1, h.2)

-- ---- maps

pub changed-cases : {A : Type 0} (P : ℕ → A → Type 0) (f : ℕ → A) (k : ℕ) (x : A) → P k x → ((q : ℕ) → (q ≡ k → ⊥) → P q (f q)) → (q : ℕ) → P q (pick (eqb q k) x (f q))
changed-cases P f k x here there q = go (eqb q k) refl
  where
    go : (b : Bool) → eqb q k ≡ b → P q (pick b x (f q))
    go true e = subst (λ (y : ℕ). P y x) (sym (eqb-true q k e)) here
    go false e = there q (eqb-false q k e)
