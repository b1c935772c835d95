-- The place of a client among ascending floors.
--     place_at_lem     a client that stands at an index has that place
-- Assumes nothing.
use Prim.Native.Nat.{ℕ, zero, suc, ◌+◌, ◌*◌, ◌<◌}
use mathlib.Core.Path.{◌≡◌, refl, sym, ◌∙◌}
use mathlib.Core.Bool.{true, false}
use mathlib.Core.List.{List, [], ◌∷◌}
use native.Mathlib.Omega.{arith}
use lib.ListN.{length, drop, get_or}
use lib.Seq.{drop-drop}
use lib.Dec.{eqb}
use borrow.Author.Tests.{eq-eqb, ne_eqb}
use Rattle.model.specs.declared.Floor.{Floor}
use Rattle.model.specs.Tables.{rows, index_of}
use Rattle.model.specs.Images.{floor_of_bytes, clients_ascend}
use Rattle.model.specs.Limits.{floor_row}
use Rattle.model_laws.proofs.Tables.{length-rows, get_d_rows, all_get_d}
use Rattle.model_invariants.specs.Sound.{Ascending}
use Rattle.model_invariants.proofs.Tests.{ascends}
use Rattle.state_clients.specs.Places.{place_of, no_floor}

place_is : (fs : List Floor) → Ascending fs → (i : ℕ) → i < length fs → i ≡ place_of (get_or fs i no_floor).client fs
unfolding place_of index_of
place_is [] e i h = absurd (omega arith)
place_is (f ∷ fs) e zero h = rw (eq-eqb f.client f.client refl)
place_is (f ∷ fs) e (suc i) h =
    let l : f.client < (get_or fs i no_floor).client = all_get_d (λ (g : Floor). f.client < g.client) fs i no_floor e.0 (omega arith) in
    let n : eqb f.client (get_or fs i no_floor).client ≡ false = ne_eqb f.client (get_or fs i no_floor).client (λ q. omega arith) in
    rw n (omega (arith, place_is fs e.1 i (omega arith)))

pub place_at_lem : (s : List ℕ) (k n i x : ℕ) {f : Floor} → clients_ascend (rows floor_of_bytes floor_row n (drop k s)) ≡ true → i < n → f ≡ floor_of_bytes (drop (k + floor_row * i) s) → f.client ≡ x
    → i ≡ place_of x (rows floor_of_bytes floor_row n (drop k s))
place_at_lem s k n i x {f} e h p q =
    let fs : List Floor = rows floor_of_bytes floor_row n (drop k s) in
    let g : get_or fs i no_floor ≡ f = rw (get_d_rows floor_of_bytes floor_row n (drop k s) i no_floor h, drop-drop) (sym p) in
    let m : i ≡ place_of (get_or fs i no_floor).client fs = place_is fs (ascends fs e) i (rw (length-rows floor_of_bytes floor_row n (drop k s)) h) in
    m ∙ rw (g, q)
