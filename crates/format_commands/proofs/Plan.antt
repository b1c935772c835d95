-- Laws of the plan: the test as a loop makes it, and what it says of the entries.
--     plan-entry-at     an entry from a place on, by its fields' places
--     plan-long, plan_steps     the test of a plan, row by row
--     plan-length       a plan has 64 entries
--     entry_of_plan     an entry of a plan, by its place
--     plan-entries      each entry of a plan that passed the test is as it should be
--     entry-ok          a lookup in entries that are as they should be gives one, past the end too
--     plan-entry-fits   its numbers fit 32 bits
-- Assumes nothing.
use Prim.Native.Nat.{ℕ, zero, suc, ◌+◌, ◌*◌, ◌<◌}
use mathlib.Core.Path.{◌≡◌, refl, ap}
use mathlib.Core.Bool.{true, false, ◌&&◌, not}
use mathlib.Core.List.{List, [], ◌∷◌}
use native.Mathlib.Omega.{arith}
use borrow.Author.Tests.{eq-eqb, ne_eqb}
use native.Mathlib.Nat.{add-zero, zero-add}
use lib.ListN.{length, get_or, drop}
use lib.Dec.{eqb}
use lib.Seq.{get_or-drop}
use Rattle.model.specs.declared.PlanEntry.{PlanEntry}
use Rattle.model.specs.Numbers.{word, signed_at, zeros3_at}
use Rattle.model.specs.Tables.{rows, every, every_row}
use Rattle.model.specs.Limits.{plan_row, plan_size, point_count}
use Rattle.model.specs.Plan.{plan_entry_of, plan_entry_ok, plan_row_ok, plan_ok, plan_of, entry_at, no_entry}
use Rattle.model_laws.proofs.Tests.{and_left, and_right, and_both}
use Rattle.model_laws.proofs.Numbers.{signed-drop, signed_below}
use Rattle.model_laws.proofs.Tables.{length-rows, get_d_rows}
use Rattle.model_laws.proofs.Loops.{Open, open_next, open_false, open_true}
use Rattle.format_numbers.proofs.Chains.{Steps}

pub plan-entry-at : (s : List ℕ) (at : ℕ)
    → plan_entry_of (drop at s) ≡ record { low = signed_at s at; high = signed_at s (at + 4); fallback = signed_at s (at + 8); home = get_or s (at + 12) 0 }
unfolding plan_entry_of
plan-entry-at s at = simp (signed-drop, get_or-drop, add-zero)

pub plan-long : (s : List ℕ) → (length s ≡ plan_size → ⊥) → false ≡ plan_ok s
unfolding plan_ok
plan-long s h = rw (ne_eqb (length s) plan_size h)

pub plan_steps : (s : List ℕ) → length s ≡ plan_size
    → Steps point_count (plan_ok s) (λ i. plan_row_ok (drop (plan_row * i) s)) (Open plan_row_ok plan_row 0 (plan_ok s) s point_count)
unfolding plan_ok
plan_steps s l =
    record {
      start = record { below = omega arith; rest = rw (eq-eqb (length s) plan_size l) };
      next = λ i o h e. open_next o h (rw zero-add) (ap not e);
      stop = λ i o h e. open_false o h (rw zero-add) (ap not e);
      end = λ o. open_true o (omega arith);
    }

-- ---- the entries

pub plan-length : (s : List ℕ) → length (plan_of s) ≡ point_count
unfolding plan_of
plan-length s = length-rows plan_entry_of plan_row point_count s

pub entry_of_plan : (s : List ℕ) (p : ℕ) → p < point_count → entry_at (plan_of s) p ≡ plan_entry_of (drop (plan_row * p) s)
unfolding plan_of entry_at
entry_of_plan s p h = get_d_rows plan_entry_of plan_row point_count s p no_entry h

-- each row passes the test of its entry
rows-entries : (n : ℕ) (s : List ℕ) → every_row plan_row_ok plan_row n s ≡ true → every plan_entry_ok (rows plan_entry_of plan_row n s) ≡ true
unfolding every_row every rows plan_row_ok
rows-entries zero s h = refl
rows-entries (suc n) s h =
    and_both (plan_entry_ok (plan_entry_of s)) _ (and_right (zeros3_at s 13) _ (and_left (zeros3_at s 13 && plan_entry_ok (plan_entry_of s)) _ h))
    (rows-entries n (drop plan_row s) (and_right (zeros3_at s 13 && plan_entry_ok (plan_entry_of s)) _ h))

pub plan-entries : (s : List ℕ) → plan_ok s ≡ true → every plan_entry_ok (plan_of s) ≡ true
unfolding plan_ok plan_of
plan-entries s h = rows-entries point_count s (and_right (eqb (length s) plan_size) _ h)

pub entry-ok : (es : List PlanEntry) (p : ℕ) → every plan_entry_ok es ≡ true → plan_entry_ok (entry_at es p) ≡ true
unfolding every entry_at plan_entry_ok
entry-ok [] p h = refl
entry-ok (e ∷ es) zero h = and_left (plan_entry_ok e) _ h
entry-ok (e ∷ es) (suc p) h = entry-ok es p (and_right (plan_entry_ok e) _ h)

pub plan-entry-fits : (s : List ℕ) → ((plan_entry_of s).low < word) × ((plan_entry_of s).high < word) × ((plan_entry_of s).fallback < word)
unfolding plan_entry_of
plan-entry-fits s = (signed_below s 0, signed_below s 4, signed_below s 8)
