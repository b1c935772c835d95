-- The entries of slots, and an entry put at a free slot among them.
--     entries_all      a property of every entry, slot by slot
--     entries-set      an entry put at a free slot is inserted
--     entries_none     slots with 0 have none; entries-take: behind the others they count nothing
-- Assumes nothing.
use Prim.Native.Nat.{ℕ, zero, suc, ◌≤◌, ◌<◌}
use mathlib.Core.Path.{◌≡◌, refl, sym, ap, ◌∙◌}
use mathlib.Core.Bool.{Bool, true, false}
use mathlib.Core.List.{List, [], ◌∷◌}
use mathlib.Core.Logic.{◌≢◌}
use native.Mathlib.Omega.{arith}
use lib.ListN.{length, get_or, set, take}
use lib.Dec.{eqb}
use borrow.Author.Tests.{eqb-false, eq-eqb, ne_eqb}
use Rattle.model.specs.declared.Completion.{Completion}
use Rattle.model.specs.declared.ImageEntry.{ImageEntry}
use Rattle.model.specs.Choice.{pick}
use Rattle.model.specs.Images.{id_before}
use Rattle.model.specs.Decisions.{insert_entry}
use Rattle.model_laws.specs.Bytes.{All}
use Rattle.model_invariants.specs.Sound.{Before}
use Rattle.model_invariants.proofs.Images.{before, before-test}
use Rattle.state_image.specs.Slots.{entry_in, entries_in}

-- ---- inserting

-- before all others
insert_first : (e : ImageEntry) (es : List ImageEntry) → All (Before e) es → insert_entry e es ≡ e ∷ es
unfolding insert_entry
insert_first e [] h = refl
insert_first e (f ∷ fs) h = rw (before-test e f h.0)

-- behind the first
insert_behind : (e f : ImageEntry) (fs : List ImageEntry) → Before f e → insert_entry e (f ∷ fs) ≡ f ∷ insert_entry e fs
unfolding insert_entry
insert_behind e f fs b = go (id_before e.client e.call f.client f.call) refl
  where
    go : (t : Bool) → id_before e.client e.call f.client f.call ≡ t → pick t (e ∷ (f ∷ fs)) (f ∷ insert_entry e fs) ≡ f ∷ insert_entry e fs
    go true q =
        let a : Before e f = before e f q in
        let c : e.client ≡ f.client = omega (arith, a.client, b.client) in
        absurd (omega (arith, a.call c, b.call (sym c)))
    go false q = refl

-- ---- slots

module _ (rs : List Completion) where
  pub entries_all : (P : ImageEntry → Type 0) (t : List ℕ) → ((j : ℕ) → get_or t j 0 ≢ 0 → P (entry_in rs (get_or t j 0))) → All P (entries_in rs t)
  unfolding entries_in
  entries_all P [] h = tt
  entries_all P (v ∷ t) h = go (eqb v 0) refl (entries_all P t (λ (j : ℕ). h (suc j)))
    where
      go : (b : Bool) → eqb v 0 ≡ b → All P (entries_in rs t) → All P (pick b (entries_in rs t) (entry_in rs v ∷ entries_in rs t))
      go true e k = k
      go false e k = (h zero (eqb-false v 0 e), k)

  pub entries-set : (t : List ℕ) (k v : ℕ) → v ≢ 0 → k < length t → get_or t k 0 ≡ 0
      → ((j : ℕ) → j < k → get_or t j 0 ≢ 0 → Before (entry_in rs (get_or t j 0)) (entry_in rs v))
      → ((j : ℕ) → k < j → get_or t j 0 ≢ 0 → Before (entry_in rs v) (entry_in rs (get_or t j 0)))
      → entries_in rs (set t k v) ≡ insert_entry (entry_in rs v) (entries_in rs t)
  unfolding entries_in
  entries-set [] k v n l z f g = absurd (omega arith)
  entries-set (u ∷ t) zero v n l z f g =
      rw (ne_eqb v 0 n, eq-eqb u 0 z)
      (sym (insert_first (entry_in rs v) (entries_in rs t) (entries_all (Before (entry_in rs v)) t (λ (j : ℕ). g (suc j) (omega arith)))))
  entries-set (u ∷ t) (suc k) v n l z f g =
      go (eqb u 0) refl
      (entries-set t k v n (omega arith) z (λ (j : ℕ) (h : j < k). f (suc j) (omega arith)) (λ (j : ℕ) (h : k < j). g (suc j) (omega arith)))
    where
      go : (b : Bool) → eqb u 0 ≡ b → entries_in rs (set t k v) ≡ insert_entry (entry_in rs v) (entries_in rs t)
          → pick b (entries_in rs (set t k v)) (entry_in rs u ∷ entries_in rs (set t k v)) ≡ insert_entry (entry_in rs v) (pick b (entries_in rs t) (entry_in rs u ∷ entries_in rs t))
      go true e h = h
      go false e h =
          ap (λ (x : List ImageEntry). entry_in rs u ∷ x) h
          ∙ sym (insert_behind (entry_in rs v) (entry_in rs u) (entries_in rs t) (f zero (omega arith) (eqb-false u 0 e)))

  pub entries_none : (t : List ℕ) → ((j : ℕ) → get_or t j 0 ≡ 0) → entries_in rs t ≡ []
  unfolding entries_in
  entries_none [] z = refl
  entries_none (v ∷ t) z = rw (eq-eqb v 0 (z zero)) (entries_none t (λ (j : ℕ). z (suc j)))

  pub entries-take : (n : ℕ) (t : List ℕ) → ((j : ℕ) → n ≤ j → get_or t j 0 ≡ 0) → entries_in rs (take n t) ≡ entries_in rs t
  unfolding entries_in
  entries-take zero t z = sym (entries_none t (λ (j : ℕ). z j (omega arith)))
  entries-take (suc n) [] z = refl
  entries-take (suc n) (v ∷ t) z = rw (entries-take n t (λ (j : ℕ) (h : n ≤ j). z (suc j) (omega arith)))
