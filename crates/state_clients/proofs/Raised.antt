-- Floors raised, entered and merged, by the places of clients.
--     place-below                   a place is at most the number of rows
--     raise-known, raise_new        raise, of a client that is known and of another
--     found-..                      by what a search for the place and a test of its client gave
--     raise-fits                    floors that fit
--     length-raise, merge_grows     how many clients there are then
--     known-other, merge_count      the clients of ascending floors that are not known, each once
--     inserted-end, -length, -read, -moved, -set, -all     rows moved up by one
--     moved-start, -length, -read, -next, -all, -added     one after the other
--     packed_read, packed-next      rows moved to the front
-- Assumes nothing.
use Prim.Native.Nat.{ℕ, zero, suc, ◌+◌, ◌≤◌, ◌<◌, max}
use mathlib.Core.Path.{◌≡◌, refl, sym, ap, ◌∙◌}
use mathlib.Core.Bool.{Bool, true, false, ◌&&◌, not}
use mathlib.Core.List.{List, [], ◌∷◌, ◌++◌}
use mathlib.Core.Logic.{◌≢◌}
use native.Mathlib.Omega.{arith}
use lib.ListN.{length, get_or, set, take, drop, length-set}
use lib.Seq.{take_all, take-suc, take_at, get_or-take, length-take-le}
use lib.Dec.{eqb, ltb}
use borrow.Author.Tests.{eqb-true, eqb-false, ltb-true, ltb-false, ne_eqb, lt-ltb, le-ltb}
use Rattle.model.specs.declared.Floor.{Floor}
use Rattle.model.specs.Choice.{pick}
use Rattle.model.specs.Tables.{keep, index_of}
use Rattle.model.specs.Apply.{raise, merge_floors}
use Rattle.model_laws.specs.Bytes.{All}
use Rattle.model_laws.specs.Fits.{FloorFits}
use Rattle.model_invariants.specs.Sound.{Above, Ascending}
use Rattle.model_invariants.proofs.Lists.{all_to}
use Rattle.model_laws.proofs.Tests.{and_left}
use Rattle.model_laws.proofs.Tables.{all_get_d}
use Rattle.model_laws.proofs.Searches.{index_most}
use Rattle.state_clients.specs.Places.{no_floor}
use Rattle.state_clients.proofs.Changed.{all_take}
use Rattle.state_clients.specs.Ordered.{ordered_place, is_at, is_known, inserted, raised_at, moved_up}

pub place-below : (x : ℕ) (fs : List Floor) → ordered_place x fs ≤ length fs
unfolding ordered_place
place-below x fs = index_most (λ (f : Floor). not (ltb f.client x)) fs

-- ---- a client in its place

-- the tests of a client against that of a row: below it, the same, or above
data Order (a x : ℕ) : Type 0 where
  below : ltb a x ≡ true → eqb a x ≡ false → ltb x a ≡ false → Order a x
  same : ltb a x ≡ false → eqb a x ≡ true → Order a x
  above : ltb a x ≡ false → eqb a x ≡ false → ltb x a ≡ true → Order a x

order : (a x : ℕ) → Order a x
order a x = go (ltb a x) refl (eqb a x) refl
  where
    go : (b : Bool) → ltb a x ≡ b → (d : Bool) → eqb a x ≡ d → Order a x
    go true p d q = let h : a < x = ltb-true a x p in below p (ne_eqb a x (λ (e : a ≡ x). omega arith)) (le-ltb x a (omega arith))
    go false p true q = same p q
    go false p false q = above p q (lt-ltb x a (omega (arith, ltb-false a x p, eqb-false a x q)))

ltb_suc : (a b : ℕ) → ltb (suc a) (suc b) ≡ ltb a b
ltb_suc a b = go (ltb a b) refl
  where
    go : (t : Bool) → ltb a b ≡ t → ltb (suc a) (suc b) ≡ t
    go true e = lt-ltb (suc a) (suc b) (omega (arith, ltb-true a b e))
    go false e = le-ltb (suc a) (suc b) (omega (arith, ltb-false a b e))

known-nil : (x : ℕ) → is_known x [] ≡ false
unfolding is_known is_at ordered_place index_of
known-nil x = rw (le-ltb 0 0 (omega arith))

known-cons : (x : ℕ) (f : Floor) (fs : List Floor) → is_known x (f ∷ fs) ≡ pick (ltb f.client x) (is_known x fs) (eqb f.client x)
unfolding is_known is_at ordered_place index_of
known-cons x f fs = go (ltb f.client x)
  where
    go : (b : Bool)
        → (ltb (pick (not b) 0 (suc (ordered_place x fs))) (suc (length fs)) && eqb (get_or (f ∷ fs) (pick (not b) 0 (suc (ordered_place x fs))) no_floor).client x)
        ≡ pick b (ltb (ordered_place x fs) (length fs) && eqb (get_or fs (ordered_place x fs) no_floor).client x) (eqb f.client x)
    go true = rw (ltb_suc (ordered_place x fs) (length fs))
    go false = rw (lt-ltb 0 (suc (length fs)) (omega arith))

-- raise, by the place
abbrev raised : ℕ → ℕ → List Floor → List Floor
raised x n fs = pick (is_known x fs) (raised_at (ordered_place x fs) x n fs) (inserted (ordered_place x fs) (record { client = x; floor = n }) fs)

raise-placed : (x n : ℕ) (fs : List Floor) → raise x n fs ≡ raised x n fs
unfolding raise ordered_place index_of raised_at inserted
raise-placed x n [] = rw (known-nil x)
raise-placed x n (f ∷ fs) = rw (known-cons x f fs) (go (order f.client x) (raise-placed x n fs))
  where
    more : (b : Bool) → f ∷ pick b (raised_at (ordered_place x fs) x n fs) (inserted (ordered_place x fs) (record { client = x; floor = n }) fs)
        ≡ pick b (raised_at (suc (ordered_place x fs)) x n (f ∷ fs)) (inserted (suc (ordered_place x fs)) (record { client = x; floor = n }) (f ∷ fs))
    more true = refl
    more false = refl

    go : Order f.client x → raise x n fs ≡ raised x n fs
        → pick (eqb f.client x) (record { client = x; floor = max f.floor n } ∷ fs)
        (pick (ltb x f.client) (record { client = x; floor = n } ∷ (f ∷ fs)) (f ∷ raise x n fs))
        ≡ pick (pick (ltb f.client x) (is_known x fs) (eqb f.client x)) (raised_at (pick (not (ltb f.client x)) 0 (suc (ordered_place x fs))) x n (f ∷ fs))
        (inserted (pick (not (ltb f.client x)) 0 (suc (ordered_place x fs))) (record { client = x; floor = n }) (f ∷ fs))
    go (below p q r) ih = rw (p, q, r, ih) (more (is_known x fs))
    go (same p q) ih = rw (p, q)
    go (above p q r) ih = rw (p, q, r)

pub raise-known : (x n : ℕ) (fs : List Floor) → is_known x fs ≡ true → raise x n fs ≡ raised_at (ordered_place x fs) x n fs
raise-known x n fs e = raise-placed x n fs ∙ rw e

pub raise_new : (x n : ℕ) (fs : List Floor) → is_known x fs ≡ false → raise x n fs ≡ inserted (ordered_place x fs) (record { client = x; floor = n }) fs
raise_new x n fs e = raise-placed x n fs ∙ rw e

-- by what a search and a test found
module _ (x : ℕ) (fs : List Floor) {i : ℕ} {t : Bool} (p : i ≡ ordered_place x fs) (q : t ≡ is_at x i fs) where
  tested : t ≡ is_known x fs
  unfolding is_known
  tested = q ∙ ap (λ (k : ℕ). is_at x k fs) p

  pub found_below : i ≤ length fs
  found_below = omega (arith, place-below x fs)

  pub found-there : t ≡ true → i < length fs
  unfolding is_at
  found-there e = ltb-true i (length fs) (and_left (ltb i (length fs)) (eqb (get_or fs i no_floor).client x) (sym q ∙ e))

  pub found-raise : (n : ℕ) → t ≡ true → raised_at i x n fs ≡ raise x n fs
  found-raise n e = ap (λ (k : ℕ). raised_at k x n fs) p ∙ sym (raise-known x n fs (sym tested ∙ e))

  pub found_enter : (n : ℕ) → t ≡ false → inserted i (record { client = x; floor = n }) fs ≡ raise x n fs
  found_enter n e = ap (λ (k : ℕ). inserted k (record { client = x; floor = n }) fs) p ∙ sym (raise_new x n fs (sym tested ∙ e))

-- ---- rows moved up by one

pub inserted-length : (i : ℕ) (f : Floor) (fs : List Floor) → length (inserted i f fs) ≡ suc (length fs)
unfolding inserted
inserted-length zero f fs = refl
inserted-length (suc i) f [] = refl
inserted-length (suc i) f (g ∷ fs) = ap suc (inserted-length i f fs)

pub inserted_all : (P : Floor → Type 0) (i : ℕ) (f : Floor) (fs : List Floor) → P f → All P fs → All P (inserted i f fs)
unfolding inserted
inserted_all P zero f fs h a = (h, a)
inserted_all P (suc i) f [] h a = (h, tt)
inserted_all P (suc i) f (g ∷ fs) h a = (a.0, inserted_all P i f fs h a.1)

-- behind the last
pub inserted-end : (n : ℕ) (f : Floor) (fs : List Floor) → length fs ≡ n → inserted n f fs ≡ fs ++ (f ∷ [])
unfolding inserted
inserted-end zero f [] e = refl
inserted-end zero f (g ∷ fs) e = absurd (omega arith)
inserted-end (suc n) f [] e = refl
inserted-end (suc n) f (g ∷ fs) e = ap (λ (x : List Floor). g ∷ x) (inserted-end n f fs (omega arith))

-- a row before the one that entered
pub inserted_read : (j : ℕ) (f : Floor) (fs : List Floor) (d : Floor) → j < length fs → get_or (inserted (suc j) f fs) j d ≡ get_or fs j d
unfolding inserted
inserted_read j f [] d h = absurd (omega arith)
inserted_read zero f (g ∷ fs) d h = refl
inserted_read (suc j) f (g ∷ fs) d h = inserted_read j f fs d (omega arith)

-- it moves up
pub inserted-moved : (j : ℕ) (f : Floor) (fs : List Floor) (d : Floor) → j < length fs → set (inserted (suc j) f fs) (suc j) (get_or fs j d) ≡ inserted j (get_or fs j d) fs
unfolding inserted
inserted-moved j f [] d h = absurd (omega arith)
inserted-moved zero f (g ∷ fs) d h = refl
inserted-moved (suc j) f (g ∷ fs) d h = ap (λ (x : List Floor). g ∷ x) (inserted-moved j f fs d (omega arith))

-- another in its place
pub inserted-set : (i : ℕ) (f g : Floor) (fs : List Floor) → i ≤ length fs → set (inserted i f fs) i g ≡ inserted i g fs
unfolding inserted
inserted-set zero f g fs h = refl
inserted-set (suc i) f g [] h = absurd (omega arith)
inserted-set (suc i) f g (k ∷ fs) h = ap (λ (x : List Floor). k ∷ x) (inserted-set i f g fs (omega arith))

module _ (n : ℕ) (gs : List Floor) (e : length gs ≡ suc n) where
  front : length (take n gs) ≡ n
  front = length-take-le n gs (omega arith)

  pub moved-start : moved_up n n gs ≡ gs
  unfolding moved_up
  moved-start = inserted-end n (get_or gs n no_floor) (take n gs) front ∙ sym (take-suc gs n no_floor (omega arith)) ∙ take_all (suc n) gs (omega arith)

  pub moved_length : (j : ℕ) → length (moved_up j n gs) ≡ suc n
  unfolding moved_up
  moved_length j = inserted-length j (get_or gs j no_floor) (take n gs) ∙ ap suc front

  pub moved_read : (j : ℕ) → j < n → get_or (moved_up (suc j) n gs) j no_floor ≡ get_or gs j no_floor
  unfolding moved_up
  moved_read j h = inserted_read j (get_or gs (suc j) no_floor) (take n gs) no_floor (omega (arith, front)) ∙ get_or-take n gs j no_floor h

  pub moved-next : (j : ℕ) → j < n → set (moved_up (suc j) n gs) (suc j) (get_or gs j no_floor) ≡ moved_up j n gs
  unfolding moved_up
  moved-next j h =
      rw (sym (get_or-take n gs j no_floor h)) (inserted-moved j (get_or gs (suc j) no_floor) (take n gs) no_floor (omega (arith, front)))

pub moved_all : (P : Floor → Type 0) (n : ℕ) (gs : List Floor) → length gs ≡ suc n → (j : ℕ) → j ≤ n → All P gs → All P (moved_up j n gs)
unfolding moved_up
moved_all P n gs e j h a = inserted_all P j (get_or gs j no_floor) (take n gs) (all_get_d P gs j no_floor a (omega arith)) (all_take P n gs a)

-- a row added behind the last, those before it moved up, and the row they leave replaced
pub moved_added : (i : ℕ) (f : Floor) (fs : List Floor) → i ≤ length fs → set (moved_up i (length fs) (fs ++ (f ∷ []))) i f ≡ inserted i f fs
unfolding moved_up
moved_added i f fs h =
    rw (take_at fs (f ∷ []) (length fs) refl) (inserted-set i (get_or (fs ++ (f ∷ [])) i no_floor) f fs h)

-- ---- rows moved to the front

pub packed_read : (ks fs : List Floor) (i : ℕ) (d : Floor) → length ks ≤ i → i < length fs → get_or (ks ++ drop (length ks) fs) i d ≡ get_or fs i d
packed_read [] fs i d h l = refl
packed_read (k ∷ ks) [] i d h l = absurd (omega arith)
packed_read (k ∷ ks) (f ∷ fs) zero d h l = absurd (omega arith)
packed_read (k ∷ ks) (f ∷ fs) (suc i) d h l = packed_read ks fs i d (omega arith) (omega arith)

pub packed-next : (ks fs : List Floor) (r : Floor) → length ks < length fs → set (ks ++ drop (length ks) fs) (length ks) r ≡ (ks ++ (r ∷ [])) ++ drop (length (ks ++ (r ∷ []))) fs
packed-next [] [] r h = absurd (omega arith)
packed-next [] (f ∷ fs) r h = refl
packed-next (k ∷ ks) [] r h = absurd (omega arith)
packed-next (k ∷ ks) (f ∷ fs) r h = ap (λ (x : List Floor). k ∷ x) (packed-next ks fs r (omega arith))

-- ---- floors that fit

pub raise-fits : (g : Floor) (fs : List Floor) → FloorFits g → All FloorFits fs → All FloorFits (raise g.client g.floor fs)
unfolding raise
raise-fits g [] h a = (record { client = h.client; floor = h.floor }, tt)
raise-fits g (f ∷ fs) h a = go (eqb f.client g.client) (ltb g.client f.client) (raise-fits g fs h a.1)
  where
    go : (b d : Bool) → All FloorFits (raise g.client g.floor fs)
        → All FloorFits
        (pick b (record { client = g.client; floor = max f.floor g.floor } ∷ fs)
        (pick d (record { client = g.client; floor = g.floor } ∷ (f ∷ fs)) (f ∷ raise g.client g.floor fs)))
    go true d ih = let k : FloorFits f = a.0 in (record { client = h.client; floor = omega (arith, h.floor, k.floor) }, a.1)
    go false true ih = (record { client = h.client; floor = h.floor }, a)
    go false false ih = (a.0, ih)

-- ---- how many clients there are

pub length-raise : (x n : ℕ) (fs : List Floor) → length (raise x n fs) ≡ pick (is_known x fs) (length fs) (suc (length fs))
unfolding raised_at
length-raise x n fs = ap length (raise-placed x n fs) ∙ go (is_known x fs)
  where
    go : (b : Bool) → length (pick b (raised_at (ordered_place x fs) x n fs) (inserted (ordered_place x fs) (record { client = x; floor = n }) fs)) ≡ pick b (length fs) (suc (length fs))
    go true = length-set fs (ordered_place x fs) _
    go false = inserted-length (ordered_place x fs) _ fs

-- a client that is not known takes a place
pub found-room : (x n : ℕ) (fs : List Floor) {i : ℕ} {t : Bool} → i ≡ ordered_place x fs → t ≡ is_at x i fs → t ≡ false → suc (length fs) ≡ length (raise x n fs)
found-room x n fs p q e = sym (length-raise x n fs ∙ rw (sym (tested x fs p q) ∙ e))

raise_grows : (x n : ℕ) (fs : List Floor) → length fs ≤ length (raise x n fs)
raise_grows x n fs = rw (length-raise x n fs) (go (is_known x fs))
  where
    go : (b : Bool) → length fs ≤ pick b (length fs) (suc (length fs))
    go true = omega arith
    go false = omega arith

pub merge_grows : (gs fs : List Floor) → length fs ≤ length (merge_floors gs fs)
unfolding merge_floors
merge_grows [] fs = omega arith
merge_grows (g ∷ gs) fs = omega (arith, raise_grows g.client g.floor fs, merge_grows gs (raise g.client g.floor fs))

-- another client is known as before
pub known-other : (x y n : ℕ) (fs : List Floor) → x ≢ y → is_known x (raise y n fs) ≡ is_known x fs
unfolding raise
known-other x y n [] h = known-cons x (record { client = y; floor = n }) [] ∙ rw (known-nil x, ne_eqb y x (λ (e : y ≡ x). h (sym e))) (go (ltb y x))
  where
    go : (b : Bool) → pick b false false ≡ false
    go true = refl
    go false = refl
known-other x y n (f ∷ fs) h = go (order f.client y) (known-other x y n fs h)
  where
    no : eqb y x ≡ false
    no = ne_eqb y x (λ (e : y ≡ x). h (sym e))

    past : (b : Bool) → ltb y x ≡ b → ltb y f.client ≡ true → pick b (is_known x (f ∷ fs)) false ≡ is_known x (f ∷ fs)
    past true p q = refl
    past false p q =
        let l : x < f.client = omega (arith, ltb-false y x p, ltb-true y f.client q) in
        sym (known-cons x f fs ∙ rw (le-ltb f.client x (omega arith), ne_eqb f.client x (λ (e : f.client ≡ x). omega arith)))

    go : Order f.client y → is_known x (raise y n fs) ≡ is_known x fs
        → is_known x
        (pick (eqb f.client y) (record { client = y; floor = max f.floor n } ∷ fs)
        (pick (ltb y f.client) (record { client = y; floor = n } ∷ (f ∷ fs)) (f ∷ raise y n fs)))
        ≡ is_known x (f ∷ fs)
    go (below p q r) ih = rw (q, r) (known-cons x f (raise y n fs) ∙ rw ih (sym (known-cons x f fs)))
    go (same p q) ih =
        rw q
        (known-cons x (record { client = y; floor = max f.floor n }) fs
        ∙ ap (λ (k : ℕ). pick (ltb k x) (is_known x fs) (eqb k x)) (sym (eqb-true f.client y q))
        ∙ sym (known-cons x f fs))
    go (above p q r) ih = rw (q, r) (known-cons x (record { client = y; floor = n }) (f ∷ fs) ∙ rw no (past (ltb y x) refl r))

-- a floor of a client that is not known
abbrev pub is_new : List Floor → Floor → Bool
is_new fs g = not (is_known g.client fs)

keep_agree : (t u : Floor → Bool) (gs : List Floor) → All (λ (g : Floor). t g ≡ u g) gs → keep t gs ≡ keep u gs
unfolding keep
keep_agree t u [] a = refl
keep_agree t u (g ∷ gs) a = rw (a.0, keep_agree t u gs a.1)

-- those above a client that is raised are new as before
new_above : (x n : ℕ) (fs gs : List Floor) → Above x gs → keep (is_new (raise x n fs)) gs ≡ keep (is_new fs) gs
new_above x n fs gs a =
    keep_agree (is_new (raise x n fs)) (is_new fs) gs
    (all_to gs (λ (g : Floor) (l : x < g.client). ap not (known-other g.client x n fs (λ (e : g.client ≡ x). omega arith))) a)

pub merge_count : (gs fs : List Floor) → Ascending gs → length (merge_floors gs fs) ≡ length fs + length (keep (is_new fs) gs)
unfolding merge_floors keep
merge_count [] fs a = omega arith
merge_count (g ∷ gs) fs a =
    go (is_known g.client fs)
    (length-raise g.client g.floor fs)
    (merge_count gs (raise g.client g.floor fs) a.1 ∙ rw (new_above g.client g.floor fs gs a.0))
  where
    go : (b : Bool) → length (raise g.client g.floor fs) ≡ pick b (length fs) (suc (length fs))
        → length (merge_floors gs (raise g.client g.floor fs)) ≡ length (raise g.client g.floor fs) + length (keep (is_new fs) gs)
        → length (merge_floors gs (raise g.client g.floor fs)) ≡ length fs + length (pick (not b) (g ∷ keep (is_new fs) gs) (keep (is_new fs) gs))
    go true e h = omega arith
    go false e h = omega arith
