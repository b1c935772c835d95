-- A chain of `pick` with a test that a call's flag u denies.
--     yes_not, no_not     u ≡ t from a call, and `!u` held, or did not
-- Assumes nothing.
use mathlib.Core.Path.{◌≡◌, sym, ap, ◌∙◌}
use mathlib.Core.Bool.{Bool, true, false, not}
use Rattle.model.specs.Choice.{pick}
use Rattle.format_numbers.proofs.Picks.{yes, no}

module _ {A : Type 0} where
  pub yes_not : {t u : Bool} {a : A} (b : A) {r : A} → u ≡ t → not u ≡ true → r ≡ a → r ≡ pick (not t) a b
  yes_not b p e q = yes b (ap not (sym p) ∙ e) q

  pub no_not : {t u : Bool} (a : A) {b r : A} → u ≡ t → not u ≡ false → r ≡ b → r ≡ pick (not t) a b
  no_not a p e q = no a (ap not (sym p) ∙ e) q
