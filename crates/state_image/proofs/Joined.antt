-- The slots of a point in a sound buffer, walked: the image's entries.
--     slots_count, slot_most                 how many slots, and what they hold
--     next-put, next-room, entries-done     the loop over them
--     head_of                                the head, by its fields
-- Assumes nothing.
use Prim.Native.Nat.{ℕ, ◌+◌, ◌-◌, ◌*◌, ◌≤◌, ◌<◌}
use mathlib.Core.Path.{◌≡◌, sym, ap, ◌∙◌}
use mathlib.Core.Bool.{true}
use mathlib.Core.List.{List}
use mathlib.Core.Logic.{◌≢◌}
use native.Mathlib.Omega.{arith}
use native.Mathlib.Nat.{zero-add}
use lib.ListN.{length, get_or, take, drop}
use lib.Seq.{get_or-take, length-take-le}
use Rattle.model.specs.declared.ImageEntry.{ImageEntry}
use Rattle.model.specs.declared.ImageHead.{ImageHead}
use Rattle.model.specs.declared.Point.{Point}
use Rattle.model.specs.Limits.{record_count, call_window, entry_row}
use Rattle.model.specs.Tables.{bytes_of, written}
use Rattle.model.specs.Images.{image_entry_bytes, entry_row_of, image_head}
use Rattle.model.specs.States.{load, clients_in, records_in, completion_of, point_at, record_row, records_start}
use Rattle.model.specs.Versions.{today}
use Rattle.model.specs.Decisions.{entry_of_record, timed_by, image_for}
use Rattle.model_laws.specs.Bytes.{Bytes}
use Rattle.model_laws.specs.Fits.{Sound}
use Rattle.model_laws.proofs.Images.{entry_codec}
use Rattle.model_invariants.specs.Sound.{Sound as StateSound}
use Rattle.state_image.specs.Slots.{no_record, point_slots, entry_in, entries_in}
use Rattle.state_image.proofs.Order.{entries-take}
use Rattle.state_image.proofs.Filled.{slots_length, slots_most, slots_past, slots_sorted}
use Rattle.state_image.proofs.Picking.{tables, length-floors, length-records, record-at}
use Rattle.state_image.proofs.Writing.{Walking, walk_put, walk-room, walk_end}

module _ (p : ℕ) (s : List ℕ) (S : Sound s) {n : ℕ} (q : n ≡ clients_in s) {t : List ℕ} (e : t ≡ point_slots (load s) p) where
  slots_all : length t ≡ record_count
  unfolding point_slots
  slots_all = rw e (slots_length p (load s).floors 0 (load s).records)

  pub slots_count : length (take (call_window * n) t) ≡ call_window * n
  slots_count = length-take-le (call_window * n) t (omega (arith, slots_all, S.few_clients))

  pub slot_most : (k : ℕ) → k < length (take (call_window * n) t) → get_or (take (call_window * n) t) k 0 ≤ records_in s
  unfolding point_slots
  slot_most k l =
      rw (get_or-take (call_window * n) t k 0 (omega (arith, slots_count)), e)
      (omega (arith, slots_most p (load s).floors 0 (load s).records k, length-records s))

  slot_entry : (v : ℕ) → v ≢ 0 → v ≤ records_in s → {x : ImageEntry} → x ≡ entry_of_record (completion_of (drop (records_start + record_row * (v - 1)) s)) → x ≡ entry_in (load s).records v
  unfolding entry_in
  slot_entry v z l x = x ∙ ap entry_of_record (sym (record-at s (v - 1) (omega arith)))

  module _ {at : ℕ} {s₀ s₁ : List ℕ} {k j : ℕ} (o : Walking (entry_codec true) (load s).records (take (call_window * n) t) at s₀ k j s₁) (l : k < length (take (call_window * n) t))
      (z : get_or (take (call_window * n) t) k 0 ≢ 0) where
    pub next-room : j < call_window * n
    next-room = omega (arith, slots_count, walk-room o l z)

    pub next-put : {x : ImageEntry} → x ≡ entry_of_record (completion_of (drop (records_start + record_row * (get_or (take (call_window * n) t) k 0 - 1)) s)) → {s₂ : List ℕ}
        → s₂ ≡ written s₁ (at + entry_row * j) (image_entry_bytes true x) → Walking (entry_codec true) (load s).records (take (call_window * n) t) at s₀ (k + 1) (j + 1) s₂
    unfolding entry_row_of
    next-put {x} y w = walk_put o l z (slot_entry (get_or (take (call_window * n) t) k 0) z (slot_most k l) y) w

  entries-image : Bytes s → entries_in (load s).records (take (call_window * n) t) ≡ (image_for today (load s) p).entries
  unfolding point_slots image_for
  entries-image b =
      let T : StateSound (load s) = tables s b S in
      entries-take (load s).records (call_window * n) t
      (λ (j : ℕ) (l : call_window * n ≤ j). ap (λ (x : List ℕ). get_or x j 0) e ∙ slots_past p (load s).floors 0 (load s).records T.windows j (omega (arith, length-floors s)))
      ∙ ap (entries_in (load s).records) e
      ∙ slots_sorted p (load s).floors T.clients (load s).records T.ascending 0 (load s).records (λ (j : ℕ). ap (λ (i : ℕ). get_or (load s).records i no_record) (zero-add j)) T.windows
      T.ids

  pub entries-done : Bytes s → {at : ℕ} {s₀ s₁ : List ℕ} {k j : ℕ} → Walking (entry_codec true) (load s).records (take (call_window * n) t) at s₀ k j s₁ → length (take (call_window * n) t) ≤ k
      → (s₁ ≡ written s₀ at (bytes_of (image_entry_bytes true) (image_for today (load s) p).entries)) × (j ≡ length (image_for today (load s) p).entries)
  entries-done b o l = rw (← entries-image b) (walk_end o l)

-- ---- the head

pub head_of : (p : ℕ) (s : List ℕ) {x : Point} → x ≡ point_at (load s) p → {server heard clients count : ℕ} → server ≡ (load s).server → heard ≡ (load s).heard → clients ≡ clients_in s
    → count ≡ length (image_for today (load s) p).entries
    → ◌≡◌ {A = ImageHead}
    (record {
      point = p;
      destination = x.destination;
      source = server;
      move_number = x.move_number;
      heard = heard;
      value = x.value;
      quality = x.quality;
      floors = clients;
      entries = count;
      timed = true;
    })
    (image_head (image_for today (load s) p))
unfolding image_head image_for timed_by
head_of p s q a b c d = rw (q, a, b, c, d, length-floors s)
