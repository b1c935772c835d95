-- What the test of a command says.
--     in_arguments_lem       an argument in a range is from its least to its greatest
--     argument-parts     an op that has an argument is one of the six, and the argument has 32 bits
--     command-parts      all that the test asks
--     command-past       an op or a point past a byte is malformed
-- Assumes nothing.
use Prim.Native.Nat.{ℕ, ◌≤◌, ◌<◌}
use mathlib.Core.Path.{◌≡◌, refl, sym, subst, ◌∙◌}
use mathlib.Core.Bool.{Bool, true, false, ◌||◌, false≢true}
use native.Mathlib.Omega.{arith}
use lib.ListN.{get_or-eq_default}
use lib.Dec.{leb, ltb}
use borrow.Author.Tests.{leb-true, ltb-true, ltb-false, le-ltb}
use Rattle.model.specs.declared.ArgumentRange.{ArgumentRange}
use Rattle.model.specs.Numbers.{word}
use Rattle.model.specs.Limits.{last_op, last_point, last32}
use Rattle.model.specs.Rules.{argument_ranges, no_arguments, argument_range, in_arguments, argument_ok}
use Rattle.model.specs.Packets.{command_ok}
use Rattle.model_laws.proofs.Tests.{and_left, and_right}
use Rattle.model_laws.proofs.Tables.{all_get_d}

pub in_arguments_lem : (r : ArgumentRange) (a : ℕ) → in_arguments r a ≡ true → (r.least ≤ a) × (a ≤ r.greatest)
unfolding in_arguments
in_arguments_lem r a h =
    (leb-true _ _ (and_left (leb r.least a) (leb a r.greatest) h), leb-true _ _ (and_right (leb r.least a) (leb a r.greatest) h))

pub argument-parts : (op a : ℕ) → argument_ok op a ≡ true → (op ≤ last_op) × (a < word)
unfolding argument_ok argument_range
argument-parts op a h = go (ltb last_op op) refl
  where
    go : (b : Bool) → ltb last_op op ≡ b → (op ≤ last_op) × (a < word)
    go true e =
        let past = ltb-true last_op op e in
        let k = in_arguments_lem no_arguments a
        (subst (λ (r : ArgumentRange). in_arguments r a ≡ true) (get_or-eq_default argument_ranges no_arguments {n = op} (omega arith)) h) in
        absurd (omega (arith, k.0, k.1))
    go false e =
        let known = ltb-false last_op op e in
        let greatest = all_get_d (λ (r : ArgumentRange). r.greatest ≤ last32) argument_ranges op no_arguments
        (omega arith, (omega arith, (omega arith, (omega arith, (omega arith, (omega arith, tt)))))) (omega arith) in
        (known, omega (arith, (in_arguments_lem (argument_range op) a h).1, greatest))

-- the parts of a command's test
pub record CommandParts (o p a : ℕ) : Type 0 where
  pub op : o ≤ last_op
  pub point : p ≤ last_point
  pub ranged : argument_ok o a ≡ true
  pub fits : a < word

pub command-parts : (op point a : ℕ) → command_ok op point a ≡ true → CommandParts op point a
unfolding command_ok
command-parts op point a h =
    let ranged = and_left (argument_ok op a) (leb point last_point) h in
    let parts = argument-parts op a ranged in
    record {
      op = parts.0;
      point = leb-true _ _ (and_right (argument_ok op a) (leb point last_point) h);
      ranged = ranged;
      fits = parts.1;
    }

pub command-past : (op point a : ℕ) → (ltb 255 op || ltb 255 point) ≡ true → command_ok op point a ≡ false
command-past op point a e = go (command_ok op point a) refl
  where
    under : CommandParts op point a → (ltb 255 op || ltb 255 point) ≡ false
    under c = let o = c.op in let p = c.point in rw (le-ltb 255 op (omega arith), le-ltb 255 point (omega arith)) refl

    go : (b : Bool) → command_ok op point a ≡ b → command_ok op point a ≡ false
    go true f = absurd (false≢true (sym (under (command-parts op point a f)) ∙ e))
    go false f = f
