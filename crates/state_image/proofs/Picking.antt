-- The loop that fills the slots of a point, over a sound buffer.
--     tables                               the state in a sound buffer is sound
--     length-floors, length-records, record-at     rows of a buffer
--     Filling, fill_start, fill_skip, fill_put, fill_end     the loop, from the last record to the first
--     slot_fits                            a record's slot is one of 512
-- Assumes nothing.
use Prim.Native.Nat.{ℕ, suc, ◌+◌, ◌-◌, ◌*◌, ◌≤◌, ◌<◌}
use mathlib.Core.Path.{◌≡◌, sym, ap, ◌∙◌, subst}
use mathlib.Core.List.{List, ◌∷◌}
use native.Mathlib.Omega.{arith}
use native.Mathlib.Nat.{sub-zero}
use lib.ListN.{length, get_or, drop, set, replicate}
use lib.Seq.{drop-drop}
use borrow.Author.Tests.{eq-eqb, ne_eqb}
use Rattle.model.specs.declared.Completion.{Completion}
use Rattle.model.specs.Limits.{record_count, floor_row}
use Rattle.model.specs.Tables.{rows}
use Rattle.model.specs.Images.{floor_of_bytes}
use Rattle.model.specs.States.{load, clients_in, records_in, completion_of, floors_start, record_row, records_start}
use Rattle.model.specs.Decisions.{is_on_point}
use Rattle.model_laws.specs.Bytes.{Bytes}
use Rattle.model_laws.specs.Fits.{Sound}
use Rattle.model_laws.proofs.Tables.{length-rows, rows-cons, get_d_rows, all_get_d}
use Rattle.model_laws.proofs.States.{is-sound}
use Rattle.model_invariants.specs.Sound.{Windowed, Sound as StateSound}
use Rattle.model_invariants.proofs.Loaded.{loaded_sound}
use Rattle.state_clients.specs.Places.{slot_of}
use Rattle.state_clients.proofs.Slots.{slot_below}
use Rattle.state_image.specs.Slots.{no_record, slots_from, point_slots}

-- ---- what soundness says

pub tables : (s : List ℕ) → Bytes s → Sound s → StateSound (load s)
tables s h S = loaded_sound s h (is-sound s S)

pub length-floors : (s : List ℕ) → length (load s).floors ≡ clients_in s
unfolding load
length-floors s = length-rows floor_of_bytes floor_row (clients_in s) (drop floors_start s)

pub length-records : (s : List ℕ) → length (load s).records ≡ records_in s
unfolding load
length-records s = length-rows completion_of record_row (records_in s) (drop records_start s)

-- the record of index i
pub record-at : (s : List ℕ) (i : ℕ) → i < records_in s → get_or (load s).records i no_record ≡ completion_of (drop (records_start + record_row * i) s)
unfolding load
record-at s i h = get_d_rows completion_of record_row (records_in s) (drop records_start s) i no_record h ∙ ap completion_of (drop-drop (record_row * i) records_start s)

-- the slot as it is looked up among n clients
slot_in_lem : (s : List ℕ) {n : ℕ} → n ≡ clients_in s → (x c : ℕ) → slot_of (rows floor_of_bytes floor_row n (drop floors_start s)) x c ≡ slot_of (load s).floors x c
unfolding load
slot_in_lem s q x c = rw q

pub slot_fits : (s : List ℕ) → Bytes s → Sound s → (i : ℕ) → i < records_in s → {r : Completion} → r ≡ completion_of (drop (records_start + record_row * i) s) → {n : ℕ}
    → n ≡ clients_in s → {k : ℕ} → k ≡ slot_of (rows floor_of_bytes floor_row n (drop floors_start s)) r.command.client r.command.call → k < record_count
slot_fits s b S i h {r} p m q =
    let w : Windowed (load s).floors r
    = subst (Windowed (load s).floors) (record-at s i h ∙ sym p)
    (all_get_d (Windowed (load s).floors) (load s).records i no_record (tables s b S).windows (omega (arith, length-records s))) in
    omega (arith, S.few_clients, length-floors s, slot_in_lem s m r.command.client r.command.call, slot_below (load s).floors r.command.client r.command.call w)

-- ---- the loop

-- the records from index i on stand at their slots
pub record Filling (p : ℕ) (s : List ℕ) (i : ℕ) (t : List ℕ) : Type 0 where
  pub below : i ≤ records_in s
  pub slots : t ≡ slots_from p (load s).floors i (rows completion_of record_row (records_in s - i) (drop (records_start + record_row * i) s))

pub fill_start : (p : ℕ) (s : List ℕ) {m : ℕ} → m ≡ records_in s → Filling p s m (replicate record_count 0)
unfolding slots_from rows
fill_start p s {m} q =
    let e : records_in s - m ≡ 0 = omega arith in
    record { below = omega arith; slots = rw e }

module _ (p : ℕ) (s : List ℕ) {i : ℕ} {t : List ℕ} (o : Filling p s i t) (l : 0 < i) {r : Completion} (e : r ≡ completion_of (drop (records_start + record_row * (i - 1)) s)) where
  -- the records from the one before on
  one_more : rows completion_of record_row (records_in s - (i - 1)) (drop (records_start + record_row * (i - 1)) s) ≡ r ∷ rows completion_of record_row (records_in s - i)
      (drop (records_start + record_row * i) s)
  one_more =
      let q : i - 1 + 1 ≡ i = omega arith in
      rows-cons completion_of record_row s records_start (i - 1) (records_in s) (omega (arith, o.below)) ∙ rw (← e, q)

  again : suc (i - 1) ≡ i
  again = omega arith

  pub fill_skip : (r.command.point ≡ p → ⊥) → Filling p s (i - 1) t
  unfolding slots_from is_on_point
  fill_skip n = record { below = omega (arith, o.below); slots = rw (one_more, ne_eqb r.command.point p n, again) o.slots }

  pub fill_put : r.command.point ≡ p → {n : ℕ} → n ≡ clients_in s → {k : ℕ} → k ≡ slot_of (rows floor_of_bytes floor_row n (drop floors_start s)) r.command.client r.command.call
      → Filling p s (i - 1) (set t k (i - 1 + 1))
  unfolding slots_from is_on_point
  fill_put y m {k} q =
      let x : i - 1 + 1 ≡ i = omega arith in
      record { below = omega (arith, o.below); slots = rw (one_more, eq-eqb r.command.point p y, again, ← slot_in_lem s m r.command.client r.command.call, ← q, x, ← o.slots) }

pub fill_end : (p : ℕ) (s : List ℕ) {i : ℕ} {t : List ℕ} → Filling p s i t → i ≤ 0 → t ≡ point_slots (load s) p
unfolding point_slots load
fill_end p s {i} {t} o l = let e : i ≡ 0 = omega arith in rw (e, sub-zero) at o.slots
