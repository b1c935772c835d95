-- The loops over the completion records: those of the state that stay, and those of an image that are added.
--     compact_start, compact_room, compact_next, compact_end     the state's own
--     adding_start, adding_room, adding_next, adding_end         an image's
--     entry_inside                                               one of these lies within the image
-- Assumes nothing.
use Prim.Native.Nat.{ℕ, ◌+◌, ◌-◌, ◌*◌, ◌≤◌, ◌<◌}
use mathlib.Core.Path.{◌≡◌, refl, sym, ap, ◌∙◌}
use mathlib.Core.Bool.{Bool, true}
use mathlib.Core.List.{List, [], ◌∷◌, ◌++◌, map, map-append}
use native.Mathlib.Omega.{arith}
use native.Mathlib.Nat.{zero-add}
use lib.ListN.{length, drop, length-append}
use lib.Seq.{drop-drop}
use Rattle.model.specs.declared.ImageEntry.{ImageEntry}
use Rattle.model.specs.declared.ImageHead.{ImageHead}
use Rattle.model.specs.declared.Completion.{Completion}
use Rattle.model.specs.Choice.{pick}
use Rattle.model.specs.Limits.{client_count, record_count}
use Rattle.model.specs.Tables.{rows, bytes_of, keep, written}
use Rattle.model.specs.Images.{image_entry_of, image_at, entry_row_of, entry_width, entries_start, length_by}
use Rattle.model.specs.States.{load, state_end, clients_in, records_in, completion_of, completion_bytes, records_start, record_row}
use Rattle.model.specs.Apply.{stays_over_floors, taken_record}
use Rattle.model_laws.specs.Bytes.{Bytes}
use Rattle.model_laws.proofs.Written.{drop-written-past}
use Rattle.model_laws.proofs.Tables.{row_in, length-rows, every_row-true, written-rows, rows_append, rows_snoc, length-bytes_of, keep_append}
use Rattle.model_laws.proofs.Images.{entries-within}
use Rattle.model_laws.proofs.States.{completion_codec}
use Rattle.state_rows.specs.Canonical.{Canonical}
use Rattle.state_rows.proofs.Access.{records-count}
use Rattle.state_records.specs.declared.Rule.{Rule}
use Rattle.state_records.proofs.Kept.{row_free}
use Rattle.state_records.specs.Rules.{stays_by, front, kept_by, brought}
use Rattle.state_records.proofs.Unmoved.{front-most, front-rows}
use Rattle.state_records.proofs.Gather.{Gathered, gathered_start, gathered_next, gathered_few, clients-kept, floors-kept}

-- ---- what stays of the floors while records are stored

module _ {t : Completion → Bool} {b : ℕ} {s₀ : List ℕ} {us : List Completion} {s : List ℕ} {j : ℕ} (o : Gathered completion_codec t records_start b s₀ us s j) where
  same-clients : clients_in s ≡ clients_in s₀
  same-clients = rw o.bytes (clients-kept s₀ (record_row * b) (bytes_of completion_bytes (keep t us)))

  same-floors : clients_in s₀ ≤ client_count → (load s).floors ≡ (load s₀).floors
  same-floors h = rw o.bytes (floors-kept s₀ (record_row * b) (bytes_of completion_bytes (keep t us)) h)

-- ---- the state's own records

-- of n records the first i were tried; those that stay are the first j rows
pub record Compacting (rule : Rule) (s₀ : List ℕ) (n : ℕ) (s : List ℕ) (i j : ℕ) : Type 0 where
  pub below : i ≤ n
  pub few : n ≤ record_count
  pub all : n ≡ records_in s₀
  pub clients : clients_in s₀ ≤ client_count
  pub long : state_end ≤ length s
  pub kept : Gathered completion_codec (stays_by rule (load s₀).floors) records_start 0 s₀ (rows completion_of record_row i (drop records_start s₀)) s j

-- the records in front that stay are not moved
kept-front : (t : Completion → Bool) (s : List ℕ) {k : ℕ} → Bytes s → records_start + record_row * k ≤ length s → k ≡ front t (load s).records
    → Gathered completion_codec t records_start 0 s (rows completion_of record_row k (drop records_start s)) s k
kept-front t s {k} b l e =
    record {
      same = refl;
      count = rw (front-rows t s e, length-rows, zero-add);
      bytes = rw (front-rows t s e) (sym (written-rows completion_codec s records_start k b l (every_row-true record_row k (drop records_start s))));
    }

pub compact_start : (rule : Rule) {s : List ℕ} {n k : ℕ} → Bytes s → Canonical s → n ≡ length (load s).records → k ≡ front (stays_by rule (load s).floors) (load s).records
    → Compacting rule s n s k k
compact_start rule {s} {n} {k} b w e f =
    let m : n ≡ records_in s = e ∙ records-count s in
    let few : n ≤ record_count = omega (arith, w.few_records) in
    let below : k ≤ n = omega (arith, front-most (stays_by rule (load s).floors) (load s).records) in
    record {
      below = below;
      few = few;
      all = m;
      clients = w.few_clients;
      long = w.long;
      kept = kept-front (stays_by rule (load s).floors) s b (omega (arith, w.long)) f;
    }

module _ {rule : Rule} {s₀ : List ℕ} {n : ℕ} {s : List ℕ} {i j : ℕ} (o : Compacting rule s₀ n s i j) where
  at_most : j ≤ i
  at_most = omega (arith, gathered_few completion_codec (stays_by rule (load s₀).floors) o.kept, length-rows completion_of record_row i (drop records_start s₀))

  pub compact_stays : (state_end ≤ length s) × (clients_in s ≤ client_count)
  compact_stays = (o.long, rw (same-clients o.kept) o.clients)

  pub compact_room : i < n → {u : Bool} → (state_end ≤ length s) × (u ≡ true → j < record_count)
  compact_room h = (o.long, λ e. omega (arith, at_most, o.few))

  -- the row of index i is still the one that stood there
  row_same : completion_of (drop (records_start + record_row * i) s) ≡ completion_of (drop (record_row * i) (drop records_start s₀))
  row_same =
      let ks : List Completion = keep (stays_by rule (load s₀).floors) (rows completion_of record_row i (drop records_start s₀)) in
      let size : length (bytes_of completion_bytes ks) ≡ record_row * length ks = length-bytes_of completion_codec ks in
      let past : records_start + record_row * 0 + length (bytes_of completion_bytes ks) ≤ records_start + record_row * i = omega (arith, at_most, o.kept.count) in
      ap completion_of
      (ap (λ (x : List ℕ). drop (records_start + record_row * i) x) o.kept.bytes
      ∙ drop-written-past (records_start + record_row * i) s₀ (records_start + record_row * 0) (bytes_of completion_bytes ks) past
      ∙ sym (drop-drop (record_row * i) records_start s₀))

  pub compact_next : {r : Completion} {u : Bool} {s' : List ℕ} {j' : ℕ} → i < n → r ≡ completion_of (drop (records_start + record_row * i) s) → u ≡ stays_by rule (load s).floors r
      → s' ≡ pick u (written s (records_start + record_row * j) (completion_bytes r)) s → j' ≡ pick u (j + 1) j → Compacting rule s₀ n s' (i + 1) j'
  compact_next {r} {u} {s'} {j'} h e v p q =
      let next : Gathered completion_codec (stays_by rule (load s₀).floors) records_start 0 s₀ (rows completion_of record_row i (drop records_start s₀) ++ (r ∷ [])) s' j' =
      gathered_next completion_codec (stays_by rule (load s₀).floors) o.kept r u (v ∙ rw (same-floors o.kept o.clients)) p q in
      record {
        below = omega arith;
        few = o.few;
        all = o.all;
        clients = o.clients;
        long = omega (arith, next.same, o.kept.same, o.long);
        kept = rw (rows_snoc completion_of record_row i (drop records_start s₀), ← row_same, ← e) next;
      }

  all_rows : n ≤ i → (load s₀).records ≡ rows completion_of record_row i (drop records_start s₀)
  unfolding load
  all_rows h = let e : records_in s₀ ≡ i = omega (arith, o.all, o.below) in rw e

  pub compact_end : n ≤ i → (s ≡ written s₀ records_start (bytes_of completion_bytes (kept_by rule (load s₀)))) × (j ≡ length (kept_by rule (load s₀))) × (j ≤ n)
  compact_end h =
      let count : j ≡ length (keep (stays_by rule (load s₀).floors) (rows completion_of record_row i (drop records_start s₀))) = omega (arith, o.kept.count) in
      rw (all_rows h) (o.kept.bytes, count, omega (arith, at_most, o.below))

-- ---- an image's records

-- the record of index i lies within the image
pub entry_inside : (h : ImageHead) {n w k i : ℕ} → length_by h ≤ n → w ≡ entry_width h → k ≡ entries_start h.floors → i < h.entries → k + w * i + entry_row_of h.timed ≤ n
entry_inside h {w = w} {i = i} l p q t = let within = entries-within h l p q in omega (arith, within.0, within.1, row_in w i h.entries t)

-- of the m entries of an image in a form, of w bytes each, from k on the first i were tried; those that stay stand behind b rows, up to row j
pub record Adding (timed : Bool) (f : ImageEntry → Completion) (image : List ℕ) (w k : ℕ) (s₀ : List ℕ) (b m : ℕ) (s : List ℕ) (i j : ℕ) : Type 0 where
  pub below : i ≤ m
  pub clients : clients_in s₀ ≤ client_count
  pub long : state_end ≤ length s
  pub room : b + length (keep (stays_over_floors (load s₀).floors) (map f (rows (image_entry_of timed) w m (drop k image)))) ≤ record_count
  pub kept : Gathered completion_codec (stays_over_floors (load s₀).floors) records_start b s₀ (map f (rows (image_entry_of timed) w i (drop k image))) s j

brought-rows : (s : List ℕ) (h : ImageHead) (end : ℕ) (image : List ℕ)
    → brought (load s) h end image ≡ keep (stays_over_floors (load s).floors) (map (taken_record h.point end)
    (rows (image_entry_of h.timed) (entry_width h) h.entries (drop (entries_start h.floors) image)))
unfolding image_at
brought-rows s h end image = refl

pub adding_start : (h : ImageHead) (end : ℕ) {image s : List ℕ} {b : ℕ} → Canonical s → b + length (brought (load s) h end image) ≤ record_count
    → Adding h.timed (taken_record h.point end) image (entry_width h) (entries_start h.floors) s b h.entries s 0 b
unfolding rows
adding_start h end {image} {s} {b} w l =
    record {
      below = omega arith;
      clients = w.few_clients;
      long = w.long;
      room = rw (← brought-rows s h end image) l;
      kept = gathered_start completion_codec (stays_over_floors (load s).floors) records_start b s;
    }

module _ {timed : Bool} {f : ImageEntry → Completion} {image : List ℕ} {w k : ℕ} {s₀ : List ℕ} {b m : ℕ} {s : List ℕ} {i j : ℕ} (o : Adding timed f image w k s₀ b m s i j) where
  abbrev t : Completion → Bool
  t = stays_over_floors (load s₀).floors

  abbrev some-rows : ℕ → List Completion
  some-rows n = map f (rows (image_entry_of timed) w n (drop k image))

  one_more : {r : Completion} {e : ImageEntry} → e ≡ image_entry_of timed (drop (k + w * i) image) → r ≡ f e → some-rows (i + 1) ≡ some-rows i ++ (r ∷ [])
  one_more {r} {e} p q =
      let row : rows (image_entry_of timed) w (i + 1) (drop k image) ≡ rows (image_entry_of timed) w i (drop k image) ++ (e ∷ []) = rows_snoc (image_entry_of timed) w i (drop k image)
      ∙ rw (drop-drop, p) in
      ap (map f) row ∙ map-append f (rows (image_entry_of timed) w i (drop k image)) (e ∷ []) ∙ rw q

  -- those of the first i + 1 that stay are among those of all that stay
  fewer : i < m → length (keep t (some-rows (i + 1))) ≤ length (keep t (some-rows m))
  fewer h =
      let rest : List ImageEntry = rows (image_entry_of timed) w (m - (i + 1)) (drop (w * (i + 1)) (drop k image)) in
      let e : m ≡ i + 1 + (m - (i + 1)) = omega arith in
      let split : keep t (some-rows m) ≡ keep t (some-rows (i + 1)) ++ keep t (map f rest) =
      ap (λ (n : ℕ). keep t (some-rows n)) e
      ∙ ap (λ (x : List ImageEntry). keep t (map f x)) (rows_append (image_entry_of timed) w (i + 1) (m - (i + 1)) (drop k image))
      ∙ ap (keep t) (map-append f (rows (image_entry_of timed) w (i + 1) (drop k image)) rest)
      ∙ keep_append t (some-rows (i + 1)) (map f rest) in
      rw (split, length-append) (omega arith)

  pub adding_stays : (state_end ≤ length s) × (clients_in s ≤ client_count)
  adding_stays = (o.long, rw (same-clients o.kept) o.clients)

  pub adding_room : {r : Completion} {e : ImageEntry} {u : Bool} → i < m → e ≡ image_entry_of timed (drop (k + w * i) image) → r ≡ f e → u ≡ stays_over_floors (load s).floors r
      → (state_end ≤ length s) × (u ≡ true → j < record_count)
  adding_room {r} {e} h p q v =
      let more : length (keep t (some-rows (i + 1))) ≡ length (keep t (some-rows i)) + length (keep t (r ∷ [])) = rw (one_more p q, keep_append, length-append) in
      (o.long, row_free t r (v ∙ rw (same-floors o.kept o.clients)) (omega (arith, more, fewer h, o.room, o.kept.count)))

  pub adding_next : {r : Completion} {e : ImageEntry} {u : Bool} {s' : List ℕ} {j' : ℕ} → i < m → e ≡ image_entry_of timed (drop (k + w * i) image) → r ≡ f e
      → u ≡ stays_over_floors (load s).floors r → s' ≡ pick u (written s (records_start + record_row * j) (completion_bytes r)) s → j' ≡ pick u (j + 1) j
      → Adding timed f image w k s₀ b m s' (i + 1) j'
  adding_next {r} {e} {u} {s'} {j'} h p q v x y =
      let next : Gathered completion_codec t records_start b s₀ (some-rows i ++ (r ∷ [])) s' j' =
      gathered_next completion_codec t o.kept r u (v ∙ rw (same-floors o.kept o.clients)) x y in
      record {
        below = omega arith;
        clients = o.clients;
        long = omega (arith, next.same, o.kept.same, o.long);
        room = o.room;
        kept = rw (one_more p q) next;
      }

pub adding_end : (h : ImageHead) (end : ℕ) {image s₀ s : List ℕ} {b i j : ℕ}
    → Adding h.timed (taken_record h.point end) image (entry_width h) (entries_start h.floors) s₀ b h.entries s i j → h.entries ≤ i
    → (s ≡ written s₀ (records_start + record_row * b) (bytes_of completion_bytes (brought (load s₀) h end image))) × (j ≡ b + length (brought (load s₀) h end image))
adding_end h end {image} {s₀} {s} {b} {i} {j} o l =
    let e : i ≡ h.entries = omega (arith, o.below) in
    rw (brought-rows s₀ h end image) (rw e at o.kept.bytes, rw e at o.kept.count)
