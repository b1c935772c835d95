-- Floors under the changes of replay: the floor of a client, the order by client, the fields, the number of clients.
--     floor_above                                       a client under all others has no floor
--     raise-same, raise-other                           floor_of after raise: the greater of the two; of another client as before
--     raise-ascending, raise-good, raise-length, raise-known
--     merge_floor                                       floor_of after mergeFloors: the greater of the two
--     merge_ascending, merge_good, merge_length
--     without_same, without_other, ascending-keep       floors without a client
-- Assumes nothing.
use Prim.Native.Nat.{ℕ, suc, ◌+◌, ◌≤◌, ◌<◌, max}
use mathlib.Core.Path.{◌≡◌, refl, sym, ap, ◌∙◌, subst}
use mathlib.Core.Bool.{Bool, true, false, not}
use mathlib.Core.List.{List, [], ◌∷◌}
use mathlib.Core.Logic.{◌≢◌}
use native.Mathlib.Omega.{arith}
use lib.ListN.{length}
use lib.Dec.{eqb, ltb}
use borrow.Author.Tests.{eqb-true, eqb-false, ltb-true, ltb-false, leb-true, leb-false, eq-eqb, ne_eqb}
use Rattle.model.specs.declared.Floor.{Floor}
use Rattle.model.specs.Choice.{pick}
use Rattle.model.specs.Tables.{keep}
use Rattle.model.specs.Images.{floor_of}
use Rattle.model.specs.Apply.{raise, merge_floors, is_not_client}
use Rattle.model_laws.specs.Bytes.{All}
use Rattle.model_invariants.specs.Sound.{GoodFloor, Above, Ascending}
use Rattle.model_laws.proofs.Tables.{all_keep}
use Rattle.model_invariants.proofs.Lists.{all_to}

pub eqb_same : (a : ℕ) → eqb a a ≡ true
eqb_same a = eq-eqb a a refl

pub eqb_no : (a b : ℕ) → eqb a b ≡ false → a ≢ b
eqb_no a b e q = eqb-false a b e q

pub ruleset tests = (eqb-true, eqb_no, leb-true, leb-false, ltb-true, ltb-false)

pub above_from : (x y : ℕ) (fs : List Floor) → x ≤ y → Above y fs → Above x fs
above_from x y fs h k = all_to fs (λ (f : Floor) (l : y < f.client). omega arith) k

pub floor_above : (x : ℕ) (fs : List Floor) → Above x fs → floor_of x fs ≡ 0
unfolding floor_of
floor_above x [] h = refl
floor_above x (f ∷ fs) h = rw (ne_eqb f.client x (λ (e : f.client ≡ x). omega (arith, h.0))) (floor_above x fs h.1)

-- ---- raise

pub raise-same : (x n : ℕ) (fs : List Floor) → Ascending fs → floor_of x (raise x n fs) ≡ max (floor_of x fs) n
unfolding floor_of raise
raise-same x n [] a = rw (eqb_same x) (omega arith)
raise-same x n (f ∷ fs) a = go (eqb f.client x) refl (ltb x f.client) refl (raise-same x n fs a.1)
  where
    go : (b : Bool) → eqb f.client x ≡ b → (d : Bool) → ltb x f.client ≡ d → floor_of x (raise x n fs) ≡ max (floor_of x fs) n
        → floor_of x
        (pick b (record { client = x; floor = max f.floor n } ∷ fs)
        (pick d (record { client = x; floor = n } ∷ (f ∷ fs)) (f ∷ raise x n fs)))
        ≡ max (pick b f.floor (floor_of x fs)) n
    go true e d l ih = rw (eqb_same x)
    go false e true l ih =
        let z : floor_of x fs ≡ 0 = floor_above x fs (above_from x f.client fs (omega (arith, tests)) a.0) in
        rw (eqb_same x) (omega arith)
    go false e false l ih = rw e ih

pub raise-other : (x y n : ℕ) (fs : List Floor) → x ≢ y → floor_of x (raise y n fs) ≡ floor_of x fs
unfolding floor_of raise
raise-other x y n [] h = rw (ne_eqb y x (λ (e : y ≡ x). h (sym e)))
raise-other x y n (f ∷ fs) h = go (eqb f.client y) refl (ltb y f.client) (raise-other x y n fs h)
  where
    no_y : eqb y x ≡ false
    no_y = ne_eqb y x (λ (e : y ≡ x). h (sym e))

    go : (b : Bool) → eqb f.client y ≡ b → (d : Bool) → floor_of x (raise y n fs) ≡ floor_of x fs
        → floor_of x
        (pick b (record { client = y; floor = max f.floor n } ∷ fs)
        (pick d (record { client = y; floor = n } ∷ (f ∷ fs)) (f ∷ raise y n fs)))
        ≡ pick (eqb f.client x) f.floor (floor_of x fs)
    go true e d ih = rw (no_y, ne_eqb f.client x (λ (k : f.client ≡ x). h (sym k ∙ eqb-true _ _ e)))
    go false e true ih = rw no_y
    go false e false ih = rw ih

pub raise_above : (z x n : ℕ) (fs : List Floor) → z < x → Above z fs → Above z (raise x n fs)
unfolding raise
raise_above z x n [] h k = (h, tt)
raise_above z x n (f ∷ fs) h k = go (eqb f.client x) (ltb x f.client) (raise_above z x n fs h k.1)
  where
    go : (b d : Bool) → Above z (raise x n fs)
        → Above z
        (pick b (record { client = x; floor = max f.floor n } ∷ fs)
        (pick d (record { client = x; floor = n } ∷ (f ∷ fs)) (f ∷ raise x n fs)))
    go true d ih = (h, k.1)
    go false true ih = (h, k)
    go false false ih = (k.0, ih)

pub raise-ascending : (x n : ℕ) (fs : List Floor) → Ascending fs → Ascending (raise x n fs)
unfolding raise
raise-ascending x n [] a = (tt, tt)
raise-ascending x n (f ∷ fs) a = go (eqb f.client x) refl (ltb x f.client) refl (raise-ascending x n fs a.1)
  where
    go : (b : Bool) → eqb f.client x ≡ b → (d : Bool) → ltb x f.client ≡ d → Ascending (raise x n fs)
        → Ascending
        (pick b (record { client = x; floor = max f.floor n } ∷ fs)
        (pick d (record { client = x; floor = n } ∷ (f ∷ fs)) (f ∷ raise x n fs)))
    go true e d l ih = (above_from x f.client fs (omega (arith, tests)) a.0, a.1)
    go false e true l ih = ((ltb-true _ _ l, above_from x f.client fs (omega (arith, tests)) a.0), a)
    go false e false l ih = (raise_above f.client x n fs (omega (arith, tests)) a.0, ih)

pub raise-good : (x n : ℕ) (fs : List Floor) → GoodFloor (record { client = x; floor = n }) → All GoodFloor fs → All GoodFloor (raise x n fs)
unfolding raise
raise-good x n [] g h = (g, tt)
raise-good x n (f ∷ fs) g h = go (eqb f.client x) (ltb x f.client) (raise-good x n fs g h.1)
  where
    go : (b d : Bool) → All GoodFloor (raise x n fs)
        → All GoodFloor
        (pick b (record { client = x; floor = max f.floor n } ∷ fs)
        (pick d (record { client = x; floor = n } ∷ (f ∷ fs)) (f ∷ raise x n fs)))
    go true d ih =
        let k : GoodFloor f = h.0 in
        (record { client = g.client; floor = omega (arith, g.floor, k.floor); client-fits = g.client-fits; floor-fits = omega (arith, g.floor-fits, k.floor-fits) }, h.1)
    go false true ih = (g, h)
    go false false ih = (h.0, ih)

pub raise-length : (x n : ℕ) (fs : List Floor) → length (raise x n fs) ≤ suc (length fs)
unfolding raise
raise-length x n [] = omega arith
raise-length x n (f ∷ fs) = go (eqb f.client x) (ltb x f.client) (raise-length x n fs)
  where
    go : (b d : Bool) → length (raise x n fs) ≤ suc (length fs)
        → length
        (pick b (record { client = x; floor = max f.floor n } ∷ fs)
        (pick d (record { client = x; floor = n } ∷ (f ∷ fs)) (f ∷ raise x n fs)))
        ≤ suc (suc (length fs))
    go true d ih = omega arith
    go false true ih = omega arith
    go false false ih = omega arith

-- a known client takes no further place
pub raise-known : (x n : ℕ) (fs : List Floor) → Ascending fs → floor_of x fs ≢ 0 → length (raise x n fs) ≡ length fs
unfolding floor_of raise
raise-known x n [] a h = absurd (h refl)
raise-known x n (f ∷ fs) a h = go (eqb f.client x) refl (ltb x f.client) refl h (raise-known x n fs a.1)
  where
    go : (b : Bool) → eqb f.client x ≡ b → (d : Bool) → ltb x f.client ≡ d → pick b f.floor (floor_of x fs) ≢ 0
        → (floor_of x fs ≢ 0 → length (raise x n fs) ≡ length fs)
        → length
        (pick b (record { client = x; floor = max f.floor n } ∷ fs)
        (pick d (record { client = x; floor = n } ∷ (f ∷ fs)) (f ∷ raise x n fs)))
        ≡ suc (length fs)
    go true e d l k ih = refl
    go false e true l k ih = absurd (k (floor_above x fs (above_from x f.client fs (omega (arith, tests)) a.0)))
    go false e false l k ih = ap suc (ih k)

-- ---- merge_floors

pub merge_ascending : (gs fs : List Floor) → Ascending fs → Ascending (merge_floors gs fs)
unfolding merge_floors
merge_ascending [] fs a = a
merge_ascending (g ∷ gs) fs a = merge_ascending gs (raise g.client g.floor fs) (raise-ascending g.client g.floor fs a)

pub merge_good : (gs fs : List Floor) → All GoodFloor gs → All GoodFloor fs → All GoodFloor (merge_floors gs fs)
unfolding merge_floors
merge_good [] fs h k = k
merge_good (g ∷ gs) fs h k = merge_good gs (raise g.client g.floor fs) h.1 (raise-good g.client g.floor fs h.0 k)

pub merge_length : (gs fs : List Floor) → length (merge_floors gs fs) ≤ length gs + length fs
unfolding merge_floors
merge_length [] fs = omega arith
merge_length (g ∷ gs) fs = omega (arith, merge_length gs (raise g.client g.floor fs), raise-length g.client g.floor fs)

-- the greater of the two
pub merge_floor : (x : ℕ) (gs fs : List Floor) → Ascending gs → Ascending fs
    → floor_of x (merge_floors gs fs) ≡ max (floor_of x gs) (floor_of x fs)
unfolding merge_floors floor_of
merge_floor x [] fs a b = omega arith
merge_floor x (g ∷ gs) fs a b =
    go (eqb g.client x) refl (merge_floor x gs (raise g.client g.floor fs) a.1 (raise-ascending g.client g.floor fs b))
  where
    go : (t : Bool) → eqb g.client x ≡ t
        → floor_of x (merge_floors gs (raise g.client g.floor fs)) ≡ max (floor_of x gs) (floor_of x (raise g.client g.floor fs))
        → floor_of x (merge_floors gs (raise g.client g.floor fs)) ≡ max (pick t g.floor (floor_of x gs)) (floor_of x fs)
    go true e ih =
        let s : g.client ≡ x = eqb-true _ _ e in
        let z : floor_of x gs ≡ 0 = floor_above x gs (above_from x g.client gs (omega arith) a.0) in
        let m : floor_of x (raise g.client g.floor fs) ≡ max (floor_of x fs) g.floor
        = subst (λ (y : ℕ). floor_of x (raise y g.floor fs) ≡ max (floor_of x fs) g.floor) (sym s) (raise-same x g.floor fs b) in
        omega arith
    go false e ih =
        let m : floor_of x (raise g.client g.floor fs) ≡ floor_of x fs
        = raise-other x g.client g.floor fs (λ (q : x ≡ g.client). eqb-false _ _ e (sym q)) in
        omega arith

-- ---- a client gone

pub ascending-keep : (t : Floor → Bool) (fs : List Floor) → Ascending fs → Ascending (keep t fs)
unfolding keep
ascending-keep t [] a = tt
ascending-keep t (f ∷ fs) a = go (t f) (ascending-keep t fs a.1)
  where
    go : (b : Bool) → Ascending (keep t fs) → Ascending (pick b (f ∷ keep t fs) (keep t fs))
    go true k = (all_keep _ t fs a.0, k)
    go false k = k

pub without_same : (x : ℕ) (fs : List Floor) → floor_of x (keep (is_not_client x) fs) ≡ 0
unfolding keep floor_of is_not_client
without_same x [] = refl
without_same x (f ∷ fs) = go (eqb f.client x) refl (without_same x fs)
  where
    go : (b : Bool) → eqb f.client x ≡ b → floor_of x (keep (is_not_client x) fs) ≡ 0
        → floor_of x (pick (not b) (f ∷ keep (is_not_client x) fs) (keep (is_not_client x) fs)) ≡ 0
    go true e ih = ih
    go false e ih = rw e ih

pub without_other : (x y : ℕ) (fs : List Floor) → x ≢ y → floor_of x (keep (is_not_client y) fs) ≡ floor_of x fs
unfolding keep floor_of is_not_client
without_other x y [] h = refl
without_other x y (f ∷ fs) h = go (eqb f.client y) refl (without_other x y fs h)
  where
    go : (b : Bool) → eqb f.client y ≡ b → floor_of x (keep (is_not_client y) fs) ≡ floor_of x fs
        → floor_of x (pick (not b) (f ∷ keep (is_not_client y) fs) (keep (is_not_client y) fs)) ≡ pick (eqb f.client x) f.floor (floor_of x fs)
    go true e ih = rw (ne_eqb f.client x (λ (k : f.client ≡ x). h (sym k ∙ eqb-true _ _ e))) ih
    go false e ih = rw ih
