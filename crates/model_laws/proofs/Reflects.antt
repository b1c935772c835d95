-- A test and what it says, both ways.
--     Reflects                      of what fits, the test says P
--     Test, le, lt, eq, ne, flag, of, both     one of several tests: of numbers, of a flag alone, one that reflects, two of them
--     facts, passed, reflects       tests joined by &&: what each of them says, by its index; that all pass, from what they say; both
--     rows_hold, rows_pass          the test of every row
--     choose_or                     what holds on both sides of ||
-- Assumes nothing.
use Prim.Native.Nat.{ℕ, zero, suc, ◌≤◌, ◌<◌}
use mathlib.Core.Path.{◌≡◌, refl, sym}
use mathlib.Core.Bool.{Bool, true, false, ◌&&◌, ◌||◌, not}
use mathlib.Core.List.{List, [], ◌∷◌}
use mathlib.Core.Logic.{◌≢◌}
use lib.Dec.{eqb, leb, ltb}
use borrow.Author.Tests.{eqb-true, eqb-false, ltb-true, leb-true, eq-eqb, ne_eqb, lt-ltb, le-leb, not-true}
use Rattle.model.specs.Tables.{every}
use Rattle.model_laws.specs.Bytes.{All, joined}
use Rattle.model_laws.proofs.Tests.{joined_all, all_joined, and_left, and_right, and_both}

pub record Reflects (F : Type 0) (t : Bool) (P : Type 0) : Type 0 where
  pub holds : F → t ≡ true → P
  pub passes : P → t ≡ true

-- ---- one of several tests

pub record Test : Type 1 where
  pub test : Bool
  pub Says : Type 0
  pub holds : test ≡ true → Says
  pub passes : Says → test ≡ true

abbrev pub le : ℕ → ℕ → Test
le a b = record { test = leb a b; Says = a ≤ b; holds = leb-true a b; passes = le-leb a b }

abbrev pub lt : ℕ → ℕ → Test
lt a b = record { test = ltb a b; Says = a < b; holds = ltb-true a b; passes = lt-ltb a b }

abbrev pub eq : ℕ → ℕ → Test
eq a b = record { test = eqb a b; Says = a ≡ b; holds = eqb-true a b; passes = eq-eqb a b }

pub not_of_false : (t : Bool) → t ≡ false → not t ≡ true
not_of_false true e = sym e
not_of_false false e = refl

abbrev pub ne : ℕ → ℕ → Test
ne a b =
    record { test = not (eqb a b); Says = a ≢ b; holds = λ e. eqb-false a b (not-true (eqb a b) e); passes = λ n. not_of_false (eqb a b) (ne_eqb a b n) }

abbrev pub flag : Bool → Test
flag t = record { test = t; Says = t ≡ true; holds = λ e. e; passes = λ e. e }

abbrev pub of : {t : Bool} {P : Type 0} → Reflects Unit t P → Test
of {t = t} {P = P} r = record { test = t; Says = P; holds = λ e. r.holds tt e; passes = λ p. r.passes p }

abbrev pub both : Test → Test → Test
both t u =
    record {
      test = t.test && u.test;
      Says = t.Says × u.Says;
      holds = λ e. (t.holds (and_left t.test u.test e), u.holds (and_right t.test u.test e));
      passes = λ p. and_both t.test u.test (t.passes p.0) (u.passes p.1);
    }

-- ---- tests joined by &&

abbrev pub tests_of : List Test → List Bool
tests_of [] = []
tests_of (t ∷ ts) = t.test ∷ tests_of ts

abbrev pub SaysAt : List Test → ℕ → Type 0
SaysAt [] k = Unit
SaysAt (t ∷ ts) zero = t.Says
SaysAt (t ∷ ts) (suc k) = SaysAt ts k

-- what all say, one after the other, gives R
abbrev pub Given : List Test → Type 0 → Type 0
Given [] R = R
Given (t ∷ ts) R = t.Says → Given ts R

says_at : (ts : List Test) → All (λ t. t ≡ true) (tests_of ts) → (k : ℕ) → SaysAt ts k
says_at [] h k = tt
says_at (t ∷ ts) h zero = t.holds h.0
says_at (t ∷ ts) h (suc k) = says_at ts h.1 k

given : (ts : List Test) {R : Type 0} → (All (λ t. t ≡ true) (tests_of ts) → R) → Given ts R
given [] f = f tt
given (t ∷ ts) f = λ a. given ts (λ h. f (t.passes a, h))

pub facts : (ts : List Test) → joined (tests_of ts) ≡ true → (k : ℕ) → SaysAt ts k
facts ts e k = says_at ts (joined_all (tests_of ts) e) k

pub passed : (ts : List Test) → Given ts (joined (tests_of ts) ≡ true)
passed ts = given ts (all_joined (tests_of ts))

pub reflects : {F P : Type 0} (ts : List Test) → (F → ((k : ℕ) → SaysAt ts k) → P) → (P → Given ts (joined (tests_of ts) ≡ true) → joined (tests_of ts) ≡ true)
    → Reflects F (joined (tests_of ts)) P
reflects ts f g = record { holds = λ h e. f h (facts ts e); passes = λ p. g p (passed ts) }

-- ---- rows

module _ {A : Type 0} {F P : A → Type 0} {t : A → Bool} (r : (a : A) → Reflects (F a) (t a) (P a)) where
  pub rows_hold : (rs : List A) → All F rs → every t rs ≡ true → All P rs
  unfolding every
  rows_hold [] f e = tt
  rows_hold (a ∷ rs) f e = ((r a).holds f.0 (and_left (t a) (every t rs) e), rows_hold rs f.1 (and_right (t a) (every t rs) e))

  pub rows_pass : (rs : List A) → All P rs → every t rs ≡ true
  unfolding every
  rows_pass [] p = refl
  rows_pass (a ∷ rs) p = and_both (t a) (every t rs) ((r a).passes p.0) (rows_pass rs p.1)

-- ---- ||

pub choose_or : (P : Bool → Type 0) (t u : Bool) → (t ≡ true → P true) → (t ≡ false → P u) → P (t || u)
choose_or P true u f g = f refl
choose_or P false u f g = g refl
