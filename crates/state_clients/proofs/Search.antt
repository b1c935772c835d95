-- The search for a client in a table of floors.
--     is-client, not-client                              the test of a row
--     floor-place                                        a client's floor stands at its place
--     floor-within, floor-past                           a floor by its index
--     place-within, floor-found, slot_found              as the callers of the search use it
-- Assumes nothing.
use Prim.Native.Nat.{ℕ, suc, ◌+◌, ◌-◌, ◌*◌, ◌≤◌, ◌<◌}
use mathlib.Core.Path.{◌≡◌, refl, ap, ◌∙◌}
use mathlib.Core.Bool.{Bool, true, false}
use mathlib.Core.List.{List, [], ◌∷◌}
use native.Mathlib.Omega.{arith}
use lib.ListN.{drop, get_or, get_or-eq_default}
use lib.Seq.{drop-drop}
use lib.Dec.{eqb}
use borrow.Author.Tests.{eq-eqb, ne_eqb}
use Rattle.model.specs.declared.Floor.{Floor}
use Rattle.model.specs.Choice.{pick}
use Rattle.model.specs.Tables.{rows, index_of}
use Rattle.model.specs.Images.{floor_of, floor_of_bytes}
use Rattle.model.specs.Limits.{call_window, floor_row}
use Rattle.model_laws.proofs.Tables.{length-rows, get_d_rows}
use Rattle.model_laws.proofs.Searches.{index_most}
use Rattle.state_clients.specs.Places.{place_of, slot_of, no_floor}

-- the client of a row that was read
pub is-client : {f g : Floor} {x : ℕ} → f ≡ g → f.client ≡ x → eqb g.client x ≡ true
is-client {f} {g} {x} p q = rw (← p) (eq-eqb f.client x q)

pub not-client : {f g : Floor} {x : ℕ} → f ≡ g → (f.client ≡ x → ⊥) → eqb g.client x ≡ false
not-client {f} {g} {x} p q = rw (← p) (ne_eqb f.client x q)

pub floor-place : (x : ℕ) (fs : List Floor) → (get_or fs (place_of x fs) no_floor).floor ≡ floor_of x fs
unfolding place_of index_of floor_of
floor-place x [] = refl
floor-place x (f ∷ fs) = go (eqb f.client x) (floor-place x fs)
  where
    go : (b : Bool) → (get_or fs (place_of x fs) no_floor).floor ≡ floor_of x fs → (get_or (f ∷ fs) (pick b 0 (suc (place_of x fs))) no_floor).floor ≡ pick b f.floor (floor_of x fs)
    go true h = refl
    go false h = h

-- ---- a floor by its index

pub floor-past : (s : List ℕ) (k n i : ℕ) → n ≤ i → 0 ≡ (get_or (rows floor_of_bytes floor_row n (drop k s)) i no_floor).floor
floor-past s k n i h =
    rw (get_or-eq_default (rows floor_of_bytes floor_row n (drop k s)) no_floor {n = i} (rw (length-rows floor_of_bytes floor_row n (drop k s)) h))

pub floor-within : (s : List ℕ) (k n i : ℕ) {f : Floor} → i < n → f ≡ floor_of_bytes (drop (k + floor_row * i) s)
    → f.floor ≡ (get_or (rows floor_of_bytes floor_row n (drop k s)) i no_floor).floor
floor-within s k n i {f} h p = rw (get_d_rows floor_of_bytes floor_row n (drop k s) i no_floor h, drop-drop) (ap (λ (x : Floor). x.floor) p)

-- ---- as the callers use it

pub place-within : (x k : ℕ) (s : List ℕ) (n : ℕ) {i : ℕ} → i ≡ place_of x (rows floor_of_bytes floor_row n (drop k s)) → i ≤ n
unfolding place_of
place-within x k s n e =
    let fs : List Floor = rows floor_of_bytes floor_row n (drop k s) in
    omega (arith, index_most (λ (f : Floor). eqb f.client x) fs, length-rows floor_of_bytes floor_row n (drop k s))

pub floor-found : (x : ℕ) (fs : List Floor) {i v : ℕ} → i ≡ place_of x fs → v ≡ (get_or fs i no_floor).floor → v ≡ floor_of x fs
floor-found x fs p q = q ∙ ap (λ (j : ℕ). (get_or fs j no_floor).floor) p ∙ floor-place x fs

pub slot_found : (fs : List Floor) (client call : ℕ) {i v d : ℕ} → i ≡ place_of client fs → v ≡ (get_or fs i no_floor).floor → d ≡ call - v
    → call_window * i + d ≡ slot_of fs client call
unfolding slot_of
slot_found fs client call p q e = rw (e, floor-found client fs p q, p)
