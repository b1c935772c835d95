-- Laws of the plan.
--     plan_codec                     an entry's row, as a codec
--     plan-length, plan-bytes       the bytes of a plan
--     plan-back                     what was written is read back, and is a plan
--     plan-again, plan-fits         a plan that was read is written again: the same bytes; and it fits
-- Assumes nothing.
use Prim.Native.Nat.{ℕ, ◌*◌, ◌<◌}
use mathlib.Core.Path.{◌≡◌, refl, ap, ◌∙◌}
use mathlib.Core.Bool.{true}
use mathlib.Core.List.{List, [], ◌∷◌, ◌++◌, append-nil}
use native.Mathlib.Omega.{arith}
use lib.ListN.{length, take}
use lib.Seq.{take_all}
use lib.Dec.{eqb}
use borrow.Author.Tests.{eqb-true, eq-eqb}
use Rattle.model.specs.declared.PlanEntry.{PlanEntry}
use Rattle.model.specs.Numbers.{word, zeros3_at}
use Rattle.model.specs.Tables.{rows, every_row, bytes_of}
use Rattle.model.specs.Plan.{plan_entry_of, plan_entry_bytes, plan_entry_ok, plan_row_ok, plan_ok, plan_of, plan_bytes}
use Rattle.model.specs.Limits.{point_count, plan_size, plan_row, call_window}
use Rattle.model_laws.specs.Bytes.{Bytes, All}
use Rattle.model_laws.specs.Codec.{Codec}
use Rattle.model_laws.specs.Fields.{byte, signed, fixed, Layout, Computes}
use Rattle.model_laws.specs.Fits.{PlanEntryFits}
use Rattle.model_laws.proofs.Tests.{and_left, and_right}
use Rattle.model_laws.proofs.Fields.{codec}
use Rattle.model_laws.proofs.Tables.{length-bytes_of, bytes-bytes_of, rows_back, every_row-back, rows-again, rows_fit}

-- ---- a row

-- the numbers and the zeros
abbrev entry_layout : Layout PlanEntry
entry_layout =
    record {
      fields = signed ∷ signed ∷ signed ∷ byte ∷ fixed 0 ∷ fixed 0 ∷ fixed 0 ∷ [];
      to = λ v. record { low = v 0; high = v 1; fallback = v 2; home = v 3 };
      from = λ e. e.low ∷ e.high ∷ e.fallback ∷ e.home ∷ [];
      Fit = λ e. (e.low < word) × (e.high < word) × (e.fallback < word) × (e.home < 256);
      fits = λ e h. (h.0, (h.1, (h.2, (h.3, tt))));
      fitted = λ v p. (p 0, p 1, p 2, p 3);
    }

pub entry_computes : Computes entry_layout plan_entry_of plan_entry_bytes (λ s. zeros3_at s 13)
unfolding plan_entry_of plan_entry_bytes zeros3_at
entry_computes = record { reads = λ s. refl; writes = λ a. refl; tests = λ s. refl; plain = refl; back = λ a h. refl; forth = λ s. refl }

abbrev entry_codec : Codec PlanEntry
entry_codec = codec entry_computes

-- and the order of the numbers
pub plan-test-take : (s : List ℕ) → plan_row_ok (take plan_row s) ≡ plan_row_ok s
unfolding plan_row_ok
plan-test-take s = rw (entry_codec.test-take s, entry_codec.dec-take s)

pub plan-entry-test : (e : PlanEntry) (rest : List ℕ) → PlanEntryFits e → plan_row_ok (plan_entry_bytes e ++ rest) ≡ true
unfolding plan_row_ok
plan-entry-test e rest h = rw (entry_codec.test-enc e rest (h.low, h.high, h.fallback, h.home), entry_codec.dec-enc e rest (h.low, h.high, h.fallback, h.home)) h.ok

pub plan_row_lem : (s : List ℕ) → plan_row_ok s ≡ true → (zeros3_at s 13 ≡ true) × (plan_entry_ok (plan_entry_of s) ≡ true)
unfolding plan_row_ok
plan_row_lem s t = (and_left (zeros3_at s 13) (plan_entry_ok (plan_entry_of s)) t, and_right (zeros3_at s 13) (plan_entry_ok (plan_entry_of s)) t)

abbrev pub plan_codec : Codec PlanEntry
plan_codec =
    record {
      dec = plan_entry_of;
      enc = plan_entry_bytes;
      width = plan_row;
      test = plan_row_ok;
      Fit = PlanEntryFits;
      enc-width = entry_codec.enc-width;
      enc-bytes = λ e h. entry_codec.enc-bytes e (h.low, h.high, h.fallback, h.home);
      dec-take = entry_codec.dec-take;
      test-take = plan-test-take;
      dec-enc = λ e rest h. entry_codec.dec-enc e rest (h.low, h.high, h.fallback, h.home);
      test-enc = plan-entry-test;
      enc-dec = λ s h b t. entry_codec.enc-dec s h b (plan_row_lem s t).0;
      dec-fit = λ s h t. let f = entry_codec.dec-fit s h (plan_row_lem s t).0 in record { low = f.0; high = f.1; fallback = f.2; home = f.3; ok = (plan_row_lem s t).1 };
    }

-- ---- the whole plan

pub plan-length : (es : List PlanEntry) → length es ≡ point_count → length (plan_bytes es) ≡ plan_size
unfolding plan_bytes
plan-length es n = length-bytes_of plan_codec es ∙ ap (λ (x : ℕ). call_window * x) n

pub plan-bytes : (es : List PlanEntry) → All PlanEntryFits es → Bytes (plan_bytes es)
unfolding plan_bytes
plan-bytes es f = bytes-bytes_of plan_codec es f

pub plan-back : (es : List PlanEntry) → All PlanEntryFits es → length es ≡ point_count → (plan_ok (plan_bytes es) ≡ true) × (plan_of (plan_bytes es) ≡ es)
unfolding plan_ok plan_of plan_bytes
plan-back es f n =
    let b : List ℕ = bytes_of plan_entry_bytes es in
    let t : every_row plan_row_ok plan_row point_count b ≡ true = rw append-nil at (rw n at (every_row-back plan_codec es [] f)) in
    let r : rows plan_entry_of plan_row point_count b ≡ es = rw append-nil at (rw n at (rows_back plan_codec es [] f)) in
    (rw (eq-eqb (length b) plan_size (plan-length es n)) t, r)

pub plan-again : (s : List ℕ) → Bytes s → plan_ok s ≡ true → plan_bytes (plan_of s) ≡ s
unfolding plan_ok plan_of plan_bytes
plan-again s h ok =
    let n : length s ≡ plan_size = eqb-true (length s) plan_size (and_left (eqb (length s) plan_size) (every_row plan_row_ok plan_row point_count s) ok) in
    rows-again plan_codec point_count s h (omega arith) (and_right (eqb (length s) plan_size) (every_row plan_row_ok plan_row point_count s) ok)
    ∙ take_all plan_size s (omega arith)

pub plan-fits : (s : List ℕ) → Bytes s → plan_ok s ≡ true → All PlanEntryFits (plan_of s)
unfolding plan_ok plan_of
plan-fits s h ok = rows_fit plan_codec point_count s h (and_right (eqb (length s) plan_size) (every_row plan_row_ok plan_row point_count s) ok)
