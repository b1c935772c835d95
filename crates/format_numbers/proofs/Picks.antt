-- A chain of `pick`, walked test by test; `search picks depth N` walks it all.
--     yes, no              the test held, or did not, and r is what stands on that side
--     yes_call, no_call_lem    the same, where the flag u came from a call that ensures u ≡ t
--     other_eqb            a number that is k is no n other than k
-- Assumes nothing.
use mathlib.Core.Path.{◌≡◌, sym, ◌∙◌, subst}
use Prim.Native.Nat.{ℕ}
use lib.Dec.{eqb}
use mathlib.Core.Bool.{Bool, true, false}
use borrow.Author.Tests.{lt-ltb, le-ltb, le-leb, lt-leb, eq-eqb, ne_eqb}
use Rattle.model.specs.Choice.{pick}

module _ {A : Type 0} where
  pub yes : {t : Bool} {a : A} (b : A) {r : A} → t ≡ true → r ≡ a → r ≡ pick t a b
  yes {t} {a} b {r} e q = subst (λ (u : Bool). r ≡ pick u a b) (sym e) q

  pub no : {t : Bool} (a : A) {b r : A} → t ≡ false → r ≡ b → r ≡ pick t a b
  no {t} a {b} {r} e q = subst (λ (u : Bool). r ≡ pick u a b) (sym e) q

  pub yes_call : {t u : Bool} {a : A} (b : A) {r : A} → u ≡ t → u ≡ true → r ≡ a → r ≡ pick t a b
  yes_call b p e q = yes b (sym p ∙ e) q

  pub no_call_lem : {t u : Bool} (a : A) {b r : A} → u ≡ t → u ≡ false → r ≡ b → r ≡ pick t a b
  no_call_lem a p e q = no a (sym p ∙ e) q

pub other_eqb : (m n k : ℕ) → m ≡ k → eqb k n ≡ false → eqb m n ≡ false
other_eqb m n k e q = subst (λ (j : ℕ). eqb j n ≡ false) (sym e) q

pub ruleset picks = (yes, no, yes_call, no_call_lem, lt-ltb, le-ltb, le-leb, lt-leb, eq-eqb, ne_eqb)
