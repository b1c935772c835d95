-- A decision by a refusal's number, and the number of ordered tests.
--     unless                                       what holds of every refusal and of what the call does
--     unless_passed, unless_refused_lem, unless_does, unless_appends     by the number
--     unless_if                                    one test in front
--     if-passed, passed-if                         a test in front of others, where all are passed
--     passed_first, passed_later                   the same, for `search` to walk down tests of any number: `passing` has them
--     small-if, other-if, other_test               every number is below k; none is k
-- Assumes nothing.
use Prim.Native.Nat.{ℕ}
use mathlib.Core.Path.{◌≡◌, refl, sym, ◌∙◌}
use mathlib.Core.Bool.{Bool, true, false, false≢true}
use native.Mathlib.Omega.{arith}
use lib.Dec.{eqb, ltb}
use borrow.Author.Tests.{eqb-true, eqb-false, ne_eqb, ltb-false, leb-true, leb-false, not-false}
use Rattle.model.specs.Choice.{pick, Decision, refuse, append, is_passed, unless_refused, passed}
use Rattle.model_laws.proofs.Tests.{choose}

module _ {R : Type 0} where
  pub unless : (P : Decision R → Type 0) (n : ℕ) {d : Decision R} → ((k : ℕ) → P (refuse k)) → P d → P (unless_refused n d)
  unfolding unless_refused
  unless P n r h = choose P (is_passed n) (λ e. h) (λ e. r n)

  pub unless_passed : (n : ℕ) (d : Decision R) → n ≡ passed → unless_refused n d ≡ d
  unfolding unless_refused
  unless_passed n d h = rw h

  pub unless_refused_lem : (n : ℕ) (d : Decision R) → (n ≡ passed → ⊥) → unless_refused n d ≡ refuse n
  unfolding unless_refused
  unless_refused_lem n d h = rw (ne_eqb n passed h)

  -- a decision that is no refusal
  pub unless_does : (n : ℕ) (d e : Decision R) → ((k : ℕ) → refuse k ≡ e → ⊥) → unless_refused n d ≡ e → (n ≡ passed) × (d ≡ e)
  unfolding unless_refused
  unless_does n d e other = go (is_passed n) refl
    where
      go : (b : Bool) → is_passed n ≡ b → pick b d (refuse n) ≡ e → (n ≡ passed) × (d ≡ e)
      go true k h = (eqb-true n passed k, h)
      go false k h = absurd (other n h)

  pub unless_appends : (n : ℕ) (d : Decision R) {r : R} → unless_refused n d ≡ append r → (n ≡ passed) × (d ≡ append r)
  unless_appends n d {r} e = unless_does n d (append r) (λ k h. let z : ◌≡◌ {A = ℕ} 0 1 = cc in omega arith) e

  pub unless_if : (n : ℕ) → is_passed n ≡ false → (t : Bool) (m : ℕ) (d : Decision R) → unless_refused (pick t n m) d ≡ pick t (refuse n) (unless_refused m d)
  unfolding unless_refused
  unless_if n z true m d = rw z
  unless_if n z false m d = refl

pub if-passed : (n : ℕ) → is_passed n ≡ false → (t : Bool) (m : ℕ) → pick t n m ≡ passed → (t ≡ false) × (m ≡ passed)
if-passed n z true m e = absurd (eqb-false n passed z e)
if-passed n z false m e = (refl, e)

pub passed-if : (n : ℕ) (t : Bool) (m : ℕ) → t ≡ false → m ≡ passed → pick t n m ≡ passed
passed-if n t m e h = rw e h

-- ---- tests of any number, one after the other, for `search` to walk down: none is counted or named

-- what holds unless b
abbrev pub Unless : Bool → Type 0 → Type 0
Unless true A = Unit
Unless false A = A

-- where all are passed, the first one is, and those after it; the types compute at a number that is not 0
pub passed_first : (t : Bool) (n m : ℕ) → pick t n m ≡ passed → Unless (is_passed n) (t ≡ false)
passed_first true n m e = rw e tt
passed_first false n m e = go (is_passed n)
  where
    go : (b : Bool) → Unless b (false ≡ false)
    go true = tt
    go false = refl

pub passed_later : (t : Bool) (n m : ℕ) → pick t n m ≡ passed → Unless (is_passed n) (m ≡ passed)
passed_later true n m e = rw e tt
passed_later false n m e = go (is_passed n)
  where
    go : (b : Bool) → Unless b (m ≡ passed)
    go true = tt
    go false = e

-- `search passing depth 12`: what one of the tests says, from `e : .. ≡ 0`
pub ruleset passing = (passed_first, passed_later, not-false, eqb-true, ltb-false, leb-true, leb-false)

-- every number is below k
pub small-if : (t : Bool) (n m k : ℕ) → ltb n k ≡ true → ltb m k ≡ true → ltb (pick t n m) k ≡ true
small-if true n m k l h = l
small-if false n m k l h = h

-- none is k: not that of a test that holds
pub other-if : (t : Bool) (n m k : ℕ) → (t ≡ true → eqb n k ≡ false) → eqb m k ≡ false → eqb (pick t n m) k ≡ false
other-if true n m k l h = l refl
other-if false n m k l h = h

pub other_test : (n k : ℕ) (t : Bool) → (k ≡ n → t ≡ false) → t ≡ true → eqb n k ≡ false
other_test n k t f e = ne_eqb n k (λ h. false≢true (sym (f (sym h)) ∙ e))
