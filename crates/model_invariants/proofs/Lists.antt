-- Laws of lists whose elements all have a property, and of what keep leaves, beside those of laws.
--     all_any, all_to, all_with   a property of any element, from one, from two
--     all_image, all_swap         of a mapped list; of two lists, the other way round
--     get_or_all                    of every element by its place
--     keep-passes, keep-none      what a test keeps
--     keep_halves                 lengths
--     drop-take                   the bytes from a place on, of those taken
-- Assumes nothing.
use Prim.Native.Nat.{ℕ, zero, suc, ◌+◌, ◌<◌}
use mathlib.Core.Path.{◌≡◌, refl, sym}
use mathlib.Core.Bool.{Bool, true, false, not, false≢true}
use mathlib.Core.List.{List, [], ◌∷◌, map}
use native.Mathlib.Omega.{arith}
use native.Mathlib.Nat.{zero-add, suc-add}
use lib.ListN.{length, get_or, take, drop}
use lib.Seq.{take-nil}
use Rattle.model.specs.Choice.{pick}
use Rattle.model.specs.Tables.{keep}
use Rattle.model_laws.specs.Bytes.{All}
use Rattle.model_laws.proofs.Tables.{all_map, every_all, every-keep}

pub impossible : {X : Type 0} → true ≡ false → X
impossible e = absurd (false≢true (sym e))

module _ {A : Type 0} {P Q : A → Type 0} where
  pub all_to : (xs : List A) → ((x : A) → P x → Q x) → All P xs → All Q xs
  all_to xs f h = all_map P Q f xs h

module _ {A : Type 0} {P : A → Type 0} where
  pub all_any : (xs : List A) → ((x : A) → P x) → All P xs
  all_any [] f = tt
  all_any (x ∷ xs) f = (f x, all_any xs f)

module _ {A : Type 0} {P Q R : A → Type 0} where
  pub all_with : (xs : List A) → ((x : A) → P x → Q x → R x) → All P xs → All Q xs → All R xs
  all_with [] f h k = tt
  all_with (x ∷ xs) f h k = (f x h.0 k.0, all_with xs f h.1 k.1)

module _ {A : Type 0} (P : A → Type 0) where
  pub all_image : {B : Type 0} (f : B → A) (xs : List B) → All (λ (x : B). P (f x)) xs → All P (map f xs)
  all_image f [] h = tt
  all_image f (x ∷ xs) h = (h.0, all_image f xs h.1)

  pub get_or_all : (d : A) (xs : List A) → ((i : ℕ) → i < length xs → P (get_or xs i d)) → All P xs
  get_or_all d [] h = tt
  get_or_all d (x ∷ xs) h = (h zero (omega arith), get_or_all d xs (λ (i : ℕ) (l : i < length xs). h (suc i) (omega arith)))

module _ {A B : Type 0} (R : A → B → Type 0) where
  pub all_swap : (xs : List A) (ys : List B) → All (λ (x : A). All (R x) ys) xs → All (λ (y : B). All (λ (x : A). R x y) xs) ys
  all_swap xs [] h = tt
  all_swap xs (y ∷ ys) h =
      (all_to xs (λ (x : A) (k : R x y × All (R x) ys). k.0) h, all_swap xs ys (all_to xs (λ (x : A) (k : R x y × All (R x) ys). k.1) h))

module _ {A : Type 0} (t : A → Bool) where
  pub keep-passes : (xs : List A) → All (λ (x : A). t x ≡ true) (keep t xs)
  keep-passes xs = every_all t (keep t xs) (every-keep t xs)

  pub keep_halves : (xs : List A) → length xs ≡ length (keep t xs) + length (keep (λ (x : A). not (t x)) xs)
  unfolding keep
  keep_halves [] = refl
  keep_halves (x ∷ xs) = go (t x) (keep_halves xs)
    where
      go : (b : Bool) → length xs ≡ length (keep t xs) + length (keep (λ (y : A). not (t y)) xs)
          → suc (length xs)
          ≡ length (pick b (x ∷ keep t xs) (keep t xs))
          + length (pick (not b) (x ∷ keep (λ (y : A). not (t y)) xs) (keep (λ (y : A). not (t y)) xs))
      go true k = omega arith
      go false k = omega arith

  pub keep-none : (xs : List A) → All (λ (x : A). t x ≡ false) xs → keep t xs ≡ []
  unfolding keep
  keep-none [] h = refl
  keep-none (x ∷ xs) h = rw h.0 (keep-none xs h.1)

pub drop-take : (k n : ℕ) (s : List ℕ) → drop k (take (k + n) s) ≡ take n (drop k s)
drop-take zero n s = rw zero-add
drop-take (suc k) n [] = rw suc-add (sym (take-nil n))
drop-take (suc k) n (b ∷ s) = rw suc-add (drop-take k n s)
