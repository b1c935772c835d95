-- What each change leaves fits, so that the next change can be made in it.
--     kept-fits, added_fits, brought-fits     the state with its new records
-- Assumes nothing.
use Prim.Native.Nat.{ℕ, ◌+◌, ◌*◌, ◌≤◌, ◌<◌}
use mathlib.Core.Bool.{Bool}
use mathlib.Core.List.{List, [], ◌∷◌, ◌++◌, map}
use native.Mathlib.Omega.{arith}
use lib.ListN.{length, length-append}
use Rattle.model.specs.declared.ImageEntry.{ImageEntry}
use Rattle.model.specs.declared.ImageHead.{ImageHead}
use Rattle.model.specs.declared.Completion.{Completion}
use Rattle.model.specs.Limits.{record_count}
use Rattle.model.specs.Numbers.{word}
use Rattle.model.specs.Images.{image_at}
use Rattle.model.specs.States.{State}
use Rattle.model.specs.Apply.{stays_over_floors, taken_record}
use Rattle.model_laws.specs.Bytes.{All}
use Rattle.model_laws.specs.Fits.{StateFits, CompletionFits, ImageEntryFits}
use Rattle.model_laws.specs.Layout.{with_records}
use Rattle.model_laws.proofs.Tables.{all_keep, all_append, length-keep}
use Rattle.model_invariants.proofs.Tests.{time-fits}
use Rattle.state_rows.proofs.Chains.{fits-records}
use Rattle.state_records.specs.declared.Rule.{Rule}
use Rattle.state_records.specs.Rules.{stays_by, kept_by, brought}

taken-fits : (p end : ℕ) → p < 256 → end < word * word → (timed : Bool) (e : ImageEntry) → ImageEntryFits timed e → CompletionFits (taken_record p end e)
unfolding taken_record
taken-fits p end h l timed e f =
    record {
      client = f.client;
      call = f.call;
      argument = f.argument;
      value = f.value;
      op = f.op;
      outcome = f.outcome;
      quality = f.quality;
      point = h;
      time = time-fits timed e.result.time f.time;
      end = l;
    }

all_taken : (p end : ℕ) → p < 256 → end < word * word → (timed : Bool) (es : List ImageEntry) → All (ImageEntryFits timed) es → All CompletionFits (map (taken_record p end) es)
all_taken p end h l timed [] f = tt
all_taken p end h l timed (e ∷ es) f = (taken-fits p end h l timed e f.0, all_taken p end h l timed es f.1)

module _ (st : State) (f : StateFits st) where
  pub kept-fits : (rule : Rule) → StateFits (with_records (kept_by rule st) st)
  kept-fits rule =
      fits-records st f (kept_by rule st) (all_keep CompletionFits (stays_by rule st.floors) st.records f.records)
      (omega (arith, length-keep (stays_by rule st.floors) st.records, f.records-count))

  -- any records behind the others
  more-fits : (us : List Completion) → All CompletionFits us → length st.records + length us ≤ record_count → StateFits (with_records (st.records ++ us) st)
  more-fits us a h = fits-records st f (st.records ++ us) (all_append CompletionFits st.records us f.records a) (rw length-append h)

  pub added_fits : (r : Completion) → CompletionFits r → length st.records < record_count → StateFits (with_records (st.records ++ (r ∷ [])) st)
  added_fits r a h = more-fits (r ∷ []) (a, tt) (omega arith)

  pub brought-fits : (h : ImageHead) (end : ℕ) (image : List ℕ) → h.point < 256 → end < word * word → All (ImageEntryFits h.timed) (image_at h image).entries
      → length st.records + length (brought st h end image) ≤ record_count
      → StateFits (with_records (st.records ++ brought st h end image) st)
  brought-fits h end image p l a c =
      more-fits (brought st h end image)
      (all_keep CompletionFits (stays_over_floors st.floors) (map (taken_record h.point end) (image_at h image).entries) (all_taken h.point end p l h.timed (image_at h image).entries a)) c
