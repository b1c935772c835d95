-- Tests: those joined by && taken apart and put together, by || where they fail, what holds on both sides of a choice, and what follows from a case that cannot be.
--     and_left, and_right, and_both, joined_all, all_joined, or_left, or_right, both-fit, choose, impossible
-- Assumes nothing.
use Prim.Native.Nat.{ℕ, ◌≤◌}
use mathlib.Core.Path.{◌≡◌, refl, sym}
use mathlib.Core.Bool.{Bool, true, false, ◌&&◌, ◌||◌, false≢true}
use mathlib.Core.List.{List, [], ◌∷◌}
use native.Mathlib.Omega.{arith}
use lib.Dec.{ltb}
use borrow.Author.Tests.{ltb-false}
use Rattle.model.specs.Choice.{pick}
use Rattle.model_laws.specs.Bytes.{All, joined}

pub and_left : (a b : Bool) → (a && b) ≡ true → a ≡ true
and_left true b e = refl
and_left false b e = e

pub and_right : (a b : Bool) → (a && b) ≡ true → b ≡ true
and_right true b e = e
and_right false b e = absurd (false≢true e)

pub and_both : (a b : Bool) → a ≡ true → b ≡ true → (a && b) ≡ true
and_both true b p q = q
and_both false b p q = p

-- several at once
pub joined_all : (ts : List Bool) → joined ts ≡ true → All (λ t. t ≡ true) ts
joined_all [] e = tt
joined_all (t ∷ []) e = (e, tt)
joined_all (t ∷ u ∷ us) e = (and_left t (joined (u ∷ us)) e, joined_all (u ∷ us) (and_right t (joined (u ∷ us)) e))

pub all_joined : (ts : List Bool) → All (λ t. t ≡ true) ts → joined ts ≡ true
all_joined [] f = refl
all_joined (t ∷ []) f = f.0
all_joined (t ∷ u ∷ us) f = and_both t (joined (u ∷ us)) f.0 (all_joined (u ∷ us) f.1)

pub or_left : (u v : Bool) → (u || v) ≡ false → u ≡ false
or_left true v q = q
or_left false v q = refl

pub or_right : (u v : Bool) → (u || v) ≡ false → v ≡ false
or_right true v q = absurd (false≢true (sym q))
or_right false v q = q

-- neither of two numbers is past k
pub both-fit : (k a b : ℕ) → (ltb k a || ltb k b) ≡ false → (a ≤ k) × (b ≤ k)
both-fit k a b e = (ltb-false k a (or_left _ _ e), ltb-false k b (or_right (ltb k a) _ e))

pub choose : {A : Type 0} (P : A → Type 0) (t : Bool) {a b : A} → (t ≡ true → P a) → (t ≡ false → P b) → P (pick t a b)
choose P true f g = f refl
choose P false f g = g refl

pub impossible : {A : Type 0} → ◌≡◌ {A = ℕ} 0 1 → A
impossible e = absurd (omega arith)
