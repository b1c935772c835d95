-- A command's result for all arguments, by the range of its argument.
--     checked_inside      the op's rule, where the argument is in its range
--     checked_outside     else no change, outcome 1
--     inside, outside, other     the same of a function that tests the argument for an op k; of one for no op
--     any_argument        a range from 0 to the greatest number of 32 bits holds any
-- Assumes nothing.
use Prim.Native.Nat.{ℕ, ◌≤◌, ◌<◌}
use mathlib.Core.Path.{◌≡◌, refl, sym, ◌∙◌}
use mathlib.Core.Bool.{Bool, true, false}
use native.Mathlib.Omega.{arith}
use lib.Dec.{leb, eqb}
use borrow.Author.Tests.{le-leb, ne_eqb}
use Rattle.model.specs.declared.PlanEntry.{PlanEntry}
use Rattle.model.specs.declared.Reading.{Reading}
use Rattle.model.specs.declared.CommandResult.{CommandResult}
use Rattle.model.specs.Choice.{pick}
use Rattle.model.specs.Versions.{today}
use Rattle.model.specs.Numbers.{word}
use Rattle.model.specs.Limits.{last32, read_op, set_op, step_op, report_op, fault_op, part_op, last_op, out_of_range}
use Rattle.model.specs.Rules.{same, rule_of, arguments, argument_range, in_arguments, argument_ok}
use Rattle.model_laws.proofs.Tests.{and_both}
use Rattle.format_commands.specs.Results.{checked_rule}

module _ (e : PlanEntry) (op a : ℕ) (r : Reading) where
  pub checked_inside : argument_ok op a ≡ true → checked_rule e op a r ≡ rule_of (today.rule op) e op a r
  unfolding checked_rule
  checked_inside p = rw p

  pub checked_outside : argument_ok op a ≡ false → checked_rule e op a r ≡ same out_of_range r
  unfolding checked_rule
  checked_outside p = rw p

module _ (e : PlanEntry) (op a : ℕ) (r : Reading) {k : ℕ} {x : CommandResult} (q : op ≡ k) where
  pub inside : {u : Bool} → u ≡ argument_ok k a → u ≡ true → x ≡ rule_of (today.rule k) e k a r → x ≡ checked_rule e op a r
  inside p t z = rw q (z ∙ sym (checked_inside e k a r (sym p ∙ t)))

  pub outside : {u : Bool} → u ≡ argument_ok k a → u ≡ false → x ≡ same out_of_range r → x ≡ checked_rule e op a r
  outside p t z = rw q (z ∙ sym (checked_outside e k a r (sym p ∙ t)))

pub any_argument : (k a : ℕ) → argument_range k ≡ arguments 0 last32 → a < word → argument_ok k a ≡ true
unfolding argument_ok in_arguments
any_argument k a e h = rw e (and_both (leb 0 a) (leb a last32) (le-leb 0 a (omega arith)) (le-leb a last32 (omega arith)))

pub other : (e : PlanEntry) (op a : ℕ) (r : Reading) {x : CommandResult} → last_op < op → x ≡ same out_of_range r → x ≡ checked_rule e op a r
unfolding checked_rule rule_of
other e op a r h z =
    rw (differs read_op (omega arith), differs set_op (omega arith), differs step_op (omega arith), differs report_op (omega arith), differs fault_op (omega arith), differs part_op (omega arith))
    (z ∙ either (argument_ok op a))
  where
    differs : (k : ℕ) → k ≤ last_op → eqb op k ≡ false
    differs k l = ne_eqb op k (λ p. omega arith)

    either : (b : Bool) → same out_of_range r ≡ pick b (same out_of_range r) (same out_of_range r)
    either true = refl
    either false = refl
