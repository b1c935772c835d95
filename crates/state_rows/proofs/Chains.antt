-- Canonical buffers through a chain of changes.
--     canonical-sound                 a sound buffer is canonical
--     canonical-stored, load_stored   what a state that fits leaves in a buffer; its state
--     stored-stored, length-stored    the last of two states stands; stored_same: a buffer's own state changes nothing
--     all_set                         a property of all rows, one replaced
--     fits-heard, fits-size, fits-mark, fits-point, fits-floors, fits-records     a state that fits, with one part replaced
-- Assumes nothing.
use Prim.Native.Nat.{ℕ, zero, suc, ◌*◌, ◌≤◌, ◌<◌}
use mathlib.Core.Path.{◌≡◌}
use mathlib.Core.Bool.{true}
use mathlib.Core.List.{List, [], ◌∷◌}
use native.Mathlib.Omega.{arith}
use lib.ListN.{length, set, length-set}
use Rattle.model.specs.declared.Floor.{Floor}
use Rattle.model.specs.declared.Point.{Point}
use Rattle.model.specs.declared.Completion.{Completion}
use Rattle.model.specs.Limits.{point_count, client_count, record_count}
use Rattle.model.specs.Numbers.{word}
use Rattle.model.specs.States.{State, load, state_bytes, state_end, sound}
use Rattle.model.specs.Apply.{with_mark}
use Rattle.model.specs.Operations.{stored}
use Rattle.model_laws.specs.Bytes.{Bytes, All}
use Rattle.model_laws.specs.Fits.{StateFits, PointFits, CompletionFits, FloorFits}
use Rattle.model_laws.specs.Layout.{with_heard, with_size, with_point, with_floors, with_records}
use Rattle.model_laws.proofs.Written.{length-written, written_cover}
use Rattle.model_laws.proofs.Stores.{stored-over, stored-own}
use Rattle.model_laws.proofs.States.{load-back, sound-is, written-state, load_fits}
use Rattle.state_rows.specs.Canonical.{Canonical}
use Rattle.state_rows.proofs.Access.{floors-count, records-count}

pub canonical-sound : (s : List ℕ) → Bytes s → sound s ≡ true → Canonical s
canonical-sound s h e =
    let d = sound-is s e in
    record { long = d.long; same = written-state s h d; fits = load_fits s h d; few_clients = d.few_clients; few_records = d.few_records }

pub stored_same : (s : List ℕ) → Canonical s → stored s (load s) ≡ s
unfolding stored
stored_same s w = w.same

pub length-stored : (s : List ℕ) (st : State) → length (stored s st) ≡ length s
unfolding stored
length-stored s st = length-written s 0 (state_bytes st)

module _ {A : Type 0} (P : A → Type 0) where
  pub all_set : (xs : List A) (i : ℕ) (x : A) → All P xs → P x → All P (set xs i x)
  all_set [] i x a h = tt
  all_set (y ∷ ys) zero x a h = (h, a.1)
  all_set (y ∷ ys) (suc i) x a h = (a.0, all_set ys i x a.1 h)

module _ (s : List ℕ) where
  -- of two states the last stands: it has at least as many rows
  pub stored-stored : (a b : State) → StateFits a → StateFits b → length a.records ≤ length b.records → stored (stored s a) b ≡ stored s b
  unfolding stored
  stored-stored a b f g h = stored-over s a b f g h

  -- or the first has the buffer's own rows
  pub stored_fewer : Canonical s → (a b : State) → StateFits a → StateFits b → a.records ≡ (load s).records → stored (stored s a) b ≡ stored s b
  unfolding stored
  stored_fewer w a b f g e = stored-own s (load s) a b w.fits f g w.same e

  module _ (long : state_end ≤ length s) (st : State) (f : StateFits st) where
    pub load_stored : load (stored s st) ≡ st
    unfolding stored
    load_stored = load-back st f s long

    pub canonical-stored : Canonical (stored s st)
    canonical-stored =
        record {
          long = rw (length-stored s st) long;
          same = rw load_stored (unfold stored in written_cover s 0 (state_bytes st) (state_bytes st) (omega arith));
          fits = rw load_stored f;
          few_clients = rw (← floors-count (stored s st), load_stored) f.floors-count;
          few_records = rw (← records-count (stored s st), load_stored) f.records-count;
        }

-- ---- one part replaced

module _ (st : State) (f : StateFits st) where
  pub fits-heard : (t : ℕ) → t < word → StateFits (with_heard t st)
  unfolding with_heard
  fits-heard t h = assumption

  pub fits-size : (k : ℕ) → k < word * word → StateFits (with_size k st)
  unfolding with_size
  fits-size k h = assumption

  pub fits-mark : (k : ℕ) → k < word * word → StateFits (with_mark k st)
  unfolding with_mark
  fits-mark k h = assumption

  pub fits-point : (p : ℕ) (x : Point) → PointFits x → StateFits (with_point p x st)
  unfolding with_point
  fits-point p x h =
      let count : length (set st.points p x) ≡ point_count = rw length-set f.points-count in
      assumption (all_set PointFits st.points p x f.points h, count)

  pub fits-floors : (fs : List Floor) → All FloorFits fs → length fs ≤ client_count → StateFits (with_floors fs st)
  unfolding with_floors
  fits-floors fs a h = assumption

  pub fits-records : (rs : List Completion) → All CompletionFits rs → length rs ≤ record_count → StateFits (with_records rs st)
  unfolding with_records
  fits-records rs a h = assumption
