-- The slots of a point's completion records, whose calls lie in their clients' windows and whose ids differ.
--     slots_length     512 slots
--     slots_most       what a slot holds is at most the number of records
--     slots_empty      a slot of no record holds 0; slots-past: so do those past the clients
--     slots_sorted     the entries of the slots are the point's records, sorted
-- Assumes nothing.
use Prim.Native.Nat.{ℕ, zero, suc, ◌+◌, ◌-◌, ◌*◌, ◌≤◌, ◌<◌}
use mathlib.Core.Path.{◌≡◌, refl, sym, ap, ◌∙◌}
use mathlib.Core.Bool.{Bool, true, false}
use mathlib.Core.List.{List, [], ◌∷◌, map}
use mathlib.Core.Logic.{◌≢◌}
use native.Mathlib.Omega.{arith}
use lib.ListN.{length, get_or, set, replicate, length-replicate, length-set}
use lib.Seq.{get_or-set_same, get_or-set_other}
use lib.Dec.{eqb}
use borrow.Author.Tests.{eqb-true, eqb-false}
use Rattle.model.specs.declared.Floor.{Floor}
use Rattle.model.specs.declared.Completion.{Completion}
use Rattle.model.specs.declared.ImageEntry.{ImageEntry}
use Rattle.model.specs.Choice.{pick}
use Rattle.model.specs.Tables.{keep}
use Rattle.model.specs.Limits.{client_count, record_count, call_window}
use Rattle.model.specs.Images.{floor_of}
use Rattle.model.specs.Decisions.{is_on_point, entry_of_record, sort_entries}
use Rattle.model_laws.specs.Bytes.{All}
use Rattle.model_invariants.specs.Sound.{Ascending, InWindow, Windowed, Other, Distinct, Before}
use Rattle.model_invariants.proofs.Lists.{all_to, all_with}
use Rattle.state_clients.specs.Places.{slot_of}
use Rattle.state_clients.proofs.Slots.{slot_below, slot_order, slot_id}
use Rattle.state_image.specs.Slots.{no_record, slots_from, entry_in, entries_in}
use Rattle.state_image.proofs.Order.{entries-set, entries_none}

-- ---- lists of numbers

zeros-get_or : (n k : ℕ) → get_or {A = ℕ} (replicate n 0) k 0 ≡ 0
zeros-get_or zero k = refl
zeros-get_or (suc n) zero = refl
zeros-get_or (suc n) (suc k) = zeros-get_or n k

set-most : (t : List ℕ) (j v m : ℕ) → v ≤ m → ((k : ℕ) → get_or t k 0 ≤ m) → (k : ℕ) → get_or (set t j v) k 0 ≤ m
set-most [] j v m l h k = h k
set-most (u ∷ t) zero v m l h zero = l
set-most (u ∷ t) zero v m l h (suc k) = h (suc k)
set-most (u ∷ t) (suc j) v m l h zero = h zero
set-most (u ∷ t) (suc j) v m l h (suc k) = set-most t j v m l (λ (i : ℕ). h (suc i)) k

-- the slot of a record
abbrev slot : List Floor → Completion → ℕ
slot fs r = slot_of fs r.command.client r.command.call

module _ (p : ℕ) (fs : List Floor) where
  pub slots_length : (i : ℕ) (rs : List Completion) → length (slots_from p fs i rs) ≡ record_count
  unfolding slots_from
  slots_length i [] = length-replicate {A = ℕ} record_count 0
  slots_length i (r ∷ rs) = go (is_on_point p r) (slots_length (suc i) rs)
    where
      go : (b : Bool) → length (slots_from p fs (suc i) rs) ≡ record_count
          → length (pick b (set (slots_from p fs (suc i) rs) (slot fs r) (suc i)) (slots_from p fs (suc i) rs)) ≡ record_count
      go true h = length-set (slots_from p fs (suc i) rs) (slot fs r) (suc i) ∙ h
      go false h = h

  pub slots_most : (i : ℕ) (rs : List Completion) (k : ℕ) → get_or (slots_from p fs i rs) k 0 ≤ i + length rs
  unfolding slots_from
  slots_most i [] k = omega (arith, zeros-get_or record_count k)
  slots_most i (r ∷ rs) k =
      go (is_on_point p r) (λ (j : ℕ). let h : get_or (slots_from p fs (suc i) rs) j 0 ≤ suc i + length rs = slots_most (suc i) rs j in omega arith)
    where
      go : (b : Bool) → ((j : ℕ) → get_or (slots_from p fs (suc i) rs) j 0 ≤ i + suc (length rs))
          → get_or (pick b (set (slots_from p fs (suc i) rs) (slot fs r) (suc i)) (slots_from p fs (suc i) rs)) k 0 ≤ i + suc (length rs)
      go true h = set-most (slots_from p fs (suc i) rs) (slot fs r) (suc i) (i + suc (length rs)) (omega arith) h k
      go false h = h k

  pub slots_empty : (i : ℕ) (rs : List Completion) (k : ℕ) → All (λ (q : Completion). slot fs q ≢ k) rs → get_or (slots_from p fs i rs) k 0 ≡ 0
  unfolding slots_from
  slots_empty i [] k h = zeros-get_or record_count k
  slots_empty i (r ∷ rs) k h = go (is_on_point p r) (slots_empty (suc i) rs k h.1)
    where
      go : (b : Bool) → get_or (slots_from p fs (suc i) rs) k 0 ≡ 0
          → get_or (pick b (set (slots_from p fs (suc i) rs) (slot fs r) (suc i)) (slots_from p fs (suc i) rs)) k 0 ≡ 0
      go true e = get_or-set_other (slots_from p fs (suc i) rs) (slot fs r) k (suc i) 0 (λ (q : k ≡ slot fs r). h.0 (sym q)) ∙ e
      go false e = e

  pub slots_past : (i : ℕ) (rs : List Completion) → All (Windowed fs) rs → (k : ℕ) → call_window * length fs ≤ k → get_or (slots_from p fs i rs) k 0 ≡ 0
  slots_past i rs w k l =
      slots_empty i rs k (all_to rs (λ (q : Completion) (v : Windowed fs q) (e : slot fs q ≡ k). absurd (omega (arith, slot_below fs q.command.client q.command.call v))) w)

-- ---- the order

-- an entry that stands at the slot j
record Held (fs : List Floor) (j : ℕ) (e : ImageEntry) : Type 0 where
  slotted : slot_of fs e.client e.call ≡ j
  window : InWindow (floor_of e.client fs) e.call

held-before : (fs : List Floor) → Ascending fs → (j k : ℕ) (e f : ImageEntry) → Held fs j e → Held fs k f → j < k → Before e f
held-before fs a j k e f u v l =
    let o = slot_order fs a e.client e.call f.client f.call u.window v.window (omega (arith, u.slotted, v.slotted)) in
    record { client = o.0; call = o.1 }

module _ (p : ℕ) (fs : List Floor) (few : length fs ≤ client_count) (rs₀ : List Completion) where
  -- the records rs are those of rs₀ from the index i on
  abbrev From : ℕ → List Completion → Type 0
  From i rs = (j : ℕ) → get_or rs₀ (i + j) no_record ≡ get_or rs j no_record

  from_next : (i : ℕ) (r : Completion) (rs : List Completion) → From i (r ∷ rs) → From (suc i) rs
  from_next i r rs s j = let e : suc i + j ≡ i + suc j = omega arith in ap (λ (x : ℕ). get_or rs₀ x no_record) e ∙ s (suc j)

  entry_first : (i : ℕ) (r : Completion) (rs : List Completion) → From i (r ∷ rs) → entry_in rs₀ (suc i) ≡ entry_of_record r
  unfolding entry_in
  entry_first i r rs s = let e : suc i - 1 ≡ i + 0 = omega arith in rw (e, s 0)

  own : (i : ℕ) (r : Completion) (rs : List Completion) → From i (r ∷ rs) → Windowed fs r → Held fs (slot fs r) (entry_in rs₀ (suc i))
  unfolding entry_of_record
  own i r rs s w = rw (entry_first i r rs s) (record { slotted = refl; window = w })

  below : (r : Completion) → Windowed fs r → slot fs r < record_count
  below r w = omega (arith, few, slot_below fs r.command.client r.command.call w)

  slots_held : (i : ℕ) (rs : List Completion) → From i rs → All (Windowed fs) rs → (j : ℕ) → get_or (slots_from p fs i rs) j 0 ≢ 0
      → Held fs j (entry_in rs₀ (get_or (slots_from p fs i rs) j 0))
  unfolding slots_from
  slots_held i [] s w j n = absurd (n (zeros-get_or record_count j))
  slots_held i (r ∷ rs) s w j n = go (is_on_point p r) n (slots_held (suc i) rs (from_next i r rs s) w.1 j)
    where
      t : List ℕ
      t = slots_from p fs (suc i) rs

      at : (b : Bool) → eqb j (slot fs r) ≡ b → (get_or t j 0 ≢ 0 → Held fs j (entry_in rs₀ (get_or t j 0))) → get_or (set t (slot fs r) (suc i)) j 0 ≢ 0
          → Held fs j (entry_in rs₀ (get_or (set t (slot fs r) (suc i)) j 0))
      at true e h m =
          let q : j ≡ slot fs r = eqb-true j (slot fs r) e in
          rw (q, get_or-set_same t (slot fs r) (suc i) 0 (omega (arith, slots_length p fs (suc i) rs, below r w.0))) (own i r rs s w.0)
      at false e h m =
          let o : get_or (set t (slot fs r) (suc i)) j 0 ≡ get_or t j 0 = get_or-set_other t (slot fs r) j (suc i) 0 (eqb-false j (slot fs r) e) in
          rw o (h (λ (z : get_or t j 0 ≡ 0). m (o ∙ z)))

      go : (b : Bool) → get_or (pick b (set t (slot fs r) (suc i)) t) j 0 ≢ 0 → (get_or t j 0 ≢ 0 → Held fs j (entry_in rs₀ (get_or t j 0)))
          → Held fs j (entry_in rs₀ (get_or (pick b (set t (slot fs r) (suc i)) t) j 0))
      go true m h = at (eqb j (slot fs r)) refl h m
      go false m h = h m

  pub slots_sorted : Ascending fs → (i : ℕ) (rs : List Completion) → From i rs → All (Windowed fs) rs → Distinct rs
      → entries_in rs₀ (slots_from p fs i rs) ≡ sort_entries (map entry_of_record (keep (is_on_point p) rs))
  unfolding slots_from keep sort_entries
  slots_sorted a i [] s w d = entries_none rs₀ (replicate record_count 0) (zeros-get_or record_count)
  slots_sorted a i (r ∷ rs) s w d = go (is_on_point p r) (slots_sorted a (suc i) rs (from_next i r rs s) w.1 d.1)
    where
      t : List ℕ
      t = slots_from p fs (suc i) rs

      others : All (λ (q : Completion). slot fs q ≢ slot fs r) rs
      others =
          all_with rs
          (λ (q : Completion) (o : Other r q) (v : Windowed fs q) (e : slot fs q ≡ slot fs r).
          let same = slot_id fs a r.command.client r.command.call q.command.client q.command.call w.0 v (sym e) in
          o same.0 same.1)
          d.0 w.1

      go : (b : Bool) → entries_in rs₀ t ≡ sort_entries (map entry_of_record (keep (is_on_point p) rs))
          → entries_in rs₀ (pick b (set t (slot fs r) (suc i)) t) ≡ sort_entries (map entry_of_record (pick b (r ∷ keep (is_on_point p) rs) (keep (is_on_point p) rs)))
      go false h = h
      go true h =
          let held : (j : ℕ) → get_or t j 0 ≢ 0 → Held fs j (entry_in rs₀ (get_or t j 0)) = slots_held (suc i) rs (from_next i r rs s) w.1 in
          let mine : Held fs (slot fs r) (entry_in rs₀ (suc i)) = own i r rs s w.0 in
          entries-set rs₀ t (slot fs r) (suc i) (λ (z : suc i ≡ 0). omega arith) (omega (arith, slots_length p fs (suc i) rs, below r w.0))
          (slots_empty p fs (suc i) rs (slot fs r) others)
          (λ (j : ℕ) (l : j < slot fs r) (n : get_or t j 0 ≢ 0). held-before fs a j (slot fs r) (entry_in rs₀ (get_or t j 0)) (entry_in rs₀ (suc i)) (held j n) mine l)
          (λ (j : ℕ) (l : slot fs r < j) (n : get_or t j 0 ≢ 0). held-before fs a (slot fs r) j (entry_in rs₀ (suc i)) (entry_in rs₀ (get_or t j 0)) mine (held j n) l)
          ∙ rw (entry_first i r rs s, h)
