-- Slots of calls that lie in their clients' windows, over floors that ascend by client.
--     place-known, place-order     a known client's place, and the places of two
--     slot_below                   16 slots for each floor
--     slot_order                   a lower slot is of a lower client, or of a lower call of the same
--     slot_id                      one slot, one id
-- Assumes nothing.
use Prim.Native.Nat.{ℕ, suc, ◌+◌, ◌*◌, ◌≤◌, ◌<◌}
use mathlib.Core.Path.{◌≡◌, refl, ap}
use mathlib.Core.Bool.{Bool, true, false}
use mathlib.Core.List.{List, [], ◌∷◌}
use native.Mathlib.Omega.{arith}
use lib.ListN.{length}
use lib.Dec.{eqb, ltb}
use borrow.Author.Tests.{eqb-true, ltb-true, ltb-false}
use Rattle.model.specs.declared.Floor.{Floor}
use Rattle.model.specs.Choice.{pick}
use Rattle.model.specs.Tables.{index_of}
use Rattle.model.specs.Images.{floor_of}
use Rattle.model.specs.Limits.{call_window}
use Rattle.model_invariants.specs.Sound.{Ascending, Above, InWindow}
use Rattle.model_invariants.proofs.Floors.{floor_above, above_from}
use Rattle.state_clients.specs.Places.{place_of, slot_of}

pub place-known : (x : ℕ) (fs : List Floor) → 1 ≤ floor_of x fs → place_of x fs < length fs
unfolding place_of index_of floor_of
place-known x [] h = absurd (omega arith)
place-known x (f ∷ fs) h = go (eqb f.client x) h (place-known x fs)
  where
    go : (b : Bool) → 1 ≤ pick b f.floor (floor_of x fs) → (1 ≤ floor_of x fs → place_of x fs < length fs) → pick b 0 (suc (place_of x fs)) < suc (length fs)
    go true k r = omega arith
    go false k r = omega (arith, r k)

-- a client among floors above y is above y
known_above : (x y : ℕ) (fs : List Floor) → Above y fs → 1 ≤ floor_of x fs → y < x
known_above x y fs a h = go (ltb y x) refl
  where
    go : (b : Bool) → ltb y x ≡ b → y < x
    go true e = ltb-true y x e
    go false e = absurd (omega (arith, floor_above x fs (above_from x y fs (ltb-false y x e) a)))

pub place-order : (x y : ℕ) (fs : List Floor) → Ascending fs → x < y → 1 ≤ floor_of x fs → 1 ≤ floor_of y fs → place_of x fs < place_of y fs
unfolding place_of index_of floor_of
place-order x y [] a l h k = absurd (omega arith)
place-order x y (f ∷ fs) a l h k =
    go (eqb f.client x) refl (eqb f.client y) refl h k (place-order x y fs a.1 l)
  where
    go : (s : Bool) → eqb f.client x ≡ s → (t : Bool) → eqb f.client y ≡ t → 1 ≤ pick s f.floor (floor_of x fs) → 1 ≤ pick t f.floor (floor_of y fs)
        → (1 ≤ floor_of x fs → 1 ≤ floor_of y fs → place_of x fs < place_of y fs) → pick s 0 (suc (place_of x fs)) < pick t 0 (suc (place_of y fs))
    go true p true q m n r = absurd (omega (arith, eqb-true f.client x p, eqb-true f.client y q))
    go true p false q m n r = omega arith
    go false p true q m n r = absurd (omega (arith, eqb-true f.client y q, known_above x f.client fs a.0 m))
    go false p false q m n r = omega (arith, r m n)

pub slot_below : (fs : List Floor) (x c : ℕ) → InWindow (floor_of x fs) c → slot_of fs x c < call_window * length fs
unfolding slot_of
slot_below fs x c w = omega (arith, w.low, w.high, place-known x fs w.known)

module _ (fs : List Floor) (a : Ascending fs) (x c y d : ℕ) (v : InWindow (floor_of x fs) c) (w : InWindow (floor_of y fs) d) where
  -- a later client has later slots
  slot_client : x < y → slot_of fs x c < slot_of fs y d
  unfolding slot_of
  slot_client l = omega (arith, v.low, v.high, w.low, place-order x y fs a l v.known w.known)

  -- of one client, slots are in the order of calls
  slot_call : x ≡ y → slot_of fs x c + d ≡ slot_of fs y d + c
  unfolding slot_of
  slot_call e =
      let k : floor_of x fs ≡ floor_of y fs = ap (λ (z : ℕ). floor_of z fs) e in
      let p : place_of x fs ≡ place_of y fs = ap (λ (z : ℕ). place_of z fs) e in
      omega (arith, v.low, w.low)

pub slot_order : (fs : List Floor) → Ascending fs → (x c y d : ℕ) → InWindow (floor_of x fs) c → InWindow (floor_of y fs) d → slot_of fs x c < slot_of fs y d
    → (x ≤ y) × (x ≡ y → c < d)
slot_order fs a x c y d v w l = (go (ltb y x) refl, λ (e : x ≡ y). omega (arith, slot_call fs a x c y d v w e))
  where
    go : (b : Bool) → ltb y x ≡ b → x ≤ y
    go true e = absurd (omega (arith, slot_client fs a y d x c w v (ltb-true y x e)))
    go false e = ltb-false y x e

pub slot_id : (fs : List Floor) → Ascending fs → (x c y d : ℕ) → InWindow (floor_of x fs) c → InWindow (floor_of y fs) d → slot_of fs x c ≡ slot_of fs y d
    → (x ≡ y) × (c ≡ d)
slot_id fs a x c y d v w l = let e : x ≡ y = go (ltb x y) refl (ltb y x) refl in (e, omega (arith, slot_call fs a x c y d v w e))
  where
    go : (b : Bool) → ltb x y ≡ b → (t : Bool) → ltb y x ≡ t → x ≡ y
    go true p t q = absurd (omega (arith, slot_client fs a x c y d v w (ltb-true x y p)))
    go false p true q = absurd (omega (arith, slot_client fs a y d x c w v (ltb-true y x q)))
    go false p false q = omega (arith, ltb-false x y p, ltb-false y x q)
