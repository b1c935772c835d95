-- A command on a value in range leaves one in range.
--     rule_in_range     the result's value is in the plan's range, its outcome is 0 to 4, its quality 0 to 2
-- Assumes nothing.
use Prim.Native.Nat.{ℕ, ◌+◌, ◌-◌, ◌*◌, ◌≤◌}
use mathlib.Core.Path.{◌≡◌, subst}
use mathlib.Core.Bool.{true}
use native.Mathlib.Omega.{arith}
use borrow.Author.Tests.{le-leb, eqb-true}
use lib.Dec.{eqb, leb}
use Rattle.model.specs.declared.PlanEntry.{PlanEntry}
use Rattle.model.specs.declared.Reading.{Reading}
use Rattle.model.specs.Numbers.{half}
use Rattle.model.specs.Versions.{Version, first, second, third, set_quality, part_quality}
use Rattle.model.specs.Limits.{last_outcome, last_quality, whole_part, read_op, set_op, step_op, report_op, fault_op, part_op, carried_out, out_of_range, on_invalid, fell_back, stopped, valid, invalid}
use Rattle.model.specs.Plan.{in_range, plan_entry_ok}
use Rattle.model.specs.Packets.{outcome_ok}
use Rattle.model.specs.Rules.{rounded, command_result, same, sum_in_range, past_end, set_rule, step_rule, report_rule, fault_rule, part_rule, rule_of, argument_ok}
use Rattle.model_laws.proofs.Tests.{choose}
use Rattle.model_laws.specs.Results.{ResultOk}
use Rattle.model_laws.proofs.Bounds.{range_bounds, sum_bounds, part_bounds, part_between, entry_ordered}

set-quality : (n : Version) → set_quality n ≤ last_quality
set-quality first = omega arith
set-quality second = omega arith
set-quality third = omega arith

part-quality : (n : Version) → part_quality n ≤ last_quality
part-quality first = omega arith
part-quality second = omega arith
part-quality third = omega arith

module _ (e : PlanEntry) where
  result_ok_lem : (n v q : ℕ) → n ≤ last_outcome → q ≤ last_quality → e.low ≤ v → v ≤ e.high → ResultOk e (command_result n v q)
  unfolding in_range outcome_ok
  result_ok_lem n v q a b c d =
      record {
        range = rw (le-leb e.low v c, le-leb v e.high d);
        fits = λ h. omega arith;
        outcome = rw (le-leb n last_outcome a, le-leb q last_quality b);
      }

  module _ (op a : ℕ) (r : Reading) (ok : plan_entry_ok e ≡ true) (within : in_range e r.value ≡ true) (quality : r.quality ≤ last_quality) (argument : argument_ok op a ≡ true) where
    unchanged_ok : (n : ℕ) → n ≤ last_outcome → ResultOk e (same n r)
    unchanged_ok n h = let b = range_bounds e r.value within in result_ok_lem n r.value r.quality h quality b.0 b.1

    fallback-ok : ResultOk e (command_result fell_back e.fallback invalid)
    fallback-ok = let b = entry_ordered e ok in result_ok_lem fell_back e.fallback invalid (omega arith) (omega arith) b.0 b.1

    stored_ok : (q : ℕ) → q ≤ last_quality → in_range e a ≡ true → ResultOk e (command_result carried_out a q)
    stored_ok q k h = let b = range_bounds e a h in result_ok_lem carried_out a q (omega arith) k b.0 b.1

    end-ok : ResultOk e (past_end second e a r)
    end-ok =
        let b = entry_ordered e ok in
        choose (λ (v : ℕ). ResultOk e (command_result stopped v r.quality)) (leb (e.low + half) (r.value + a))
        (λ h. result_ok_lem stopped e.high r.quality (omega arith) quality (omega arith) (omega arith))
        (λ h. result_ok_lem stopped e.low r.quality (omega arith) quality (omega arith) (omega arith))

    past-ok : (n : Version) → ResultOk e (past_end n e a r)
    past-ok first = unchanged_ok out_of_range (omega arith)
    past-ok second = end-ok
    past-ok third = end-ok

    step_ok : (n : Version) → ResultOk e (step_rule n e a r)
    unfolding step_rule
    step_ok n =
        choose (ResultOk e) (eqb r.quality invalid) (λ h. unchanged_ok on_invalid (omega arith))
        (λ h. choose (ResultOk e) (sum_in_range e r.value a)
        (λ k. let b = sum_bounds e r.value a k in result_ok_lem carried_out (r.value + a - half) r.quality (omega arith) quality (omega arith) (omega arith))
        (λ k. past-ok n))

    part-ok : (n : Version) → eqb op part_op ≡ true → ResultOk e (part_rule n e a)
    unfolding part_rule
    part-ok n h =
        let b = part_bounds a (subst (λ (n : ℕ). argument_ok n a ≡ true) (eqb-true op part_op h) argument) in
        let o = entry_ordered e ok in
        let p = part_between n e.low e.high (a - half) (omega arith) in
        result_ok_lem carried_out (e.low + rounded n ((e.high - e.low) * (a - half)) whole_part) (part_quality n) (omega arith) (part-quality n) (omega arith) (omega arith)

    pub rule_in_range : (v : Version) → ResultOk e (rule_of v e op a r)
    unfolding rule_of set_rule report_rule fault_rule
    rule_in_range n =
        choose (ResultOk e) (eqb op read_op) (λ h. unchanged_ok carried_out (omega arith))
        (λ h. choose (ResultOk e) (eqb op set_op) (λ h. choose (ResultOk e) (in_range e a) (λ k. stored_ok (set_quality n) (set-quality n) k) (λ k. unchanged_ok out_of_range (omega arith)))
        (λ h. choose (ResultOk e) (eqb op step_op) (λ h. step_ok n)
        (λ h. choose (ResultOk e) (eqb op report_op) (λ h. choose (ResultOk e) (in_range e a) (λ k. stored_ok valid (omega arith) k) (λ k. fallback-ok))
        (λ h. choose (ResultOk e) (eqb op fault_op) (λ h. fallback-ok)
        (λ h. choose (ResultOk e) (eqb op part_op) (λ h. part-ok n h) (λ h. unchanged_ok out_of_range (omega arith)))))))
