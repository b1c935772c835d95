-- What the loops over the clients' table keep, and what a call in them needs and leaves.
--     not-below, is_below     the test in the search for a client's place
--     is-behind, is-there     the client of an index
--     placed_here, placed_new, stands, stands_not, known_ok     the answer of that search
--     Moving, moving-..       rows moved up by one, the last but one first
--     Packing, packing-..     the rows that a test keeps moved to the front
--     entered-..              a row added, those before it moved up, and the row they leave replaced
--     raised-..               a client found, and its floor raised; or none found, and a row entered
--     stays-other, goes_same  the test that keeps every client but one
--     Cutting, cutting-..     rows taken away, the last first
--     removed_cut, removed_end     moved to the front, and the others taken away
--     Merging, merging-..     an image's floors merged, one by one
--     Counting, counting-..   those of an image's clients that are not known, counted
-- Assumes nothing.
use Prim.Native.Nat.{ℕ, suc, ◌+◌, ◌-◌, ◌*◌, ◌≤◌, ◌<◌}
use mathlib.Core.Path.{◌≡◌, refl, sym, ap, ◌∙◌}
use mathlib.Core.Bool.{Bool, true, false, not}
use mathlib.Core.List.{List, [], ◌∷◌, ◌++◌}
use native.Mathlib.Omega.{arith}
use native.Mathlib.Nat.{add-zero, sub-zero}
use native.Mathlib.Numerals.{add-one}
use lib.ListN.{length, get_or, set, take, drop, length-drop, length-append}
use lib.Seq.{take_all, take-suc, take-take, length-take-le, take_at}
use lib.Dec.{eqb, ltb}
use borrow.Author.Tests.{lt-ltb, le-ltb, eq-eqb, ne_eqb}
use Rattle.std.specs.Prelude.{Result, Ok, Err, is_ok}
use Rattle.model.specs.declared.Floor.{Floor}
use Rattle.model.specs.Limits.{client_count, floor_row, least_image}
use Rattle.model.specs.Choice.{pick}
use Rattle.model.specs.Tables.{keep, rows}
use Rattle.model.specs.Images.{floor_of_bytes, clients_ascend}
use Rattle.model.specs.States.{load}
use Rattle.model.specs.Apply.{raise, merge_floors, is_not_client}
use Rattle.model.specs.Operations.{stored}
use Rattle.model_laws.specs.Bytes.{Bytes, All}
use Rattle.model_laws.specs.Fits.{FloorFits}
use Rattle.model_laws.specs.Layout.{with_floors}
use Rattle.model_laws.proofs.Tables.{all_get_d, all_append, all_keep, keep_yes, keep_no, length-keep, rows-cons}
use Rattle.model_laws.proofs.Numbers.{bytes_drop}
use Rattle.model_laws.proofs.Images.{floor_codec}
use Rattle.model_invariants.proofs.Tests.{ascends}
use Rattle.state_rows.specs.Canonical.{Canonical}
use Rattle.state_clients.specs.Places.{no_floor}
use Rattle.state_clients.proofs.Changed.{Holds, holds-start, holds-next, holds-set, holds-add, holds-drop, holds-canonical, holds-floors, all_drop}
use Rattle.state_clients.specs.Ordered.{ordered_place, placed, is_at, is_known, inserted, raised_at, moved_up, packed}
use Rattle.state_clients.proofs.Raised as Floors

-- ---- a client's place

-- the test of a row that was read
pub not-below : {f g : Floor} {x : ℕ} → f ≡ g → x ≤ f.client → not (ltb g.client x) ≡ true
not-below {f} {g} {x} p q = rw (← p, le-ltb f.client x q)

pub is_below : {f g : Floor} {x : ℕ} → f ≡ g → f.client < x → not (ltb g.client x) ≡ false
is_below {f} {g} {x} p q = rw (← p, lt-ltb f.client x q)

-- the client of an index
pub is-behind : (x i : ℕ) (fs : List Floor) → length fs ≤ i → is_at x i fs ≡ false
unfolding is_at
is-behind x i fs h = rw (le-ltb i (length fs) h)

pub is-there : (x i : ℕ) (fs : List Floor) {f : Floor} → i < length fs → f ≡ get_or fs i no_floor → is_at x i fs ≡ eqb f.client x
unfolding is_at
is-there x i fs h e = rw (lt-ltb i (length fs) h, ← e)

-- where a client stands, or would, and what that says
module _ (x : ℕ) (fs : List Floor) {i : ℕ} where
  pub placed_here : i ≡ ordered_place x fs → is_at x i fs ≡ true → Ok i ≡ placed x fs
  unfolding placed
  placed_here p q = rw (← p, q)

  pub placed_new : i ≡ ordered_place x fs → is_at x i fs ≡ false → Err i ≡ placed x fs
  unfolding placed
  placed_new p q = rw (← p, q)

  pub stands : Ok i ≡ placed x fs → (i ≡ ordered_place x fs) × (true ≡ is_at x i fs)
  unfolding placed
  stands e = step (is_at x (ordered_place x fs) fs) refl e
    where
      step : (b : Bool) → is_at x (ordered_place x fs) fs ≡ b → Ok i ≡ pick b (Ok (ordered_place x fs)) (Err (ordered_place x fs)) → (i ≡ ordered_place x fs) × (true ≡ is_at x i fs)
      step true q r = let same : i ≡ ordered_place x fs = cc in (same, rw same (sym q))
      step false q r = cc

  pub stands_not : Err i ≡ placed x fs → (i ≡ ordered_place x fs) × (false ≡ is_at x i fs)
  unfolding placed
  stands_not e = step (is_at x (ordered_place x fs) fs) refl e
    where
      step : (b : Bool) → is_at x (ordered_place x fs) fs ≡ b → Err i ≡ pick b (Ok (ordered_place x fs)) (Err (ordered_place x fs)) → (i ≡ ordered_place x fs) × (false ≡ is_at x i fs)
      step true q r = cc
      step false q r = let same : i ≡ ordered_place x fs = cc in (same, rw same (sym q))

pub known_ok : (x : ℕ) (fs : List Floor) {r : Result ℕ ℕ} → r ≡ placed x fs → is_ok r ≡ is_known x fs
unfolding placed is_known
known_ok x fs p = rw p (step (is_at x (ordered_place x fs) fs))
  where
    step : (b : Bool) → is_ok (pick b (Ok (ordered_place x fs)) (Err (ordered_place x fs))) ≡ b
    step true = refl
    step false = refl

-- ---- rows moved up by one

-- those from j on have moved
pub record Moving (s₀ : List ℕ) (i n : ℕ) (s : List ℕ) (j : ℕ) : Type 0 where
  pub low : i ≤ j
  pub high : j ≤ n
  pub holds : Holds s₀ s (moved_up j n (load s₀).floors)

module _ {s₀ : List ℕ} (w : Canonical s₀) where
  module _ {n : ℕ} (e : length (load s₀).floors ≡ suc n) where
    pub moving_start : (i : ℕ) → i ≤ n → Moving s₀ i n s₀ n
    moving_start i h = record { low = h; high = omega arith; holds = rw (Floors.moved-start n (load s₀).floors e) (holds-start w) }

    module _ {i j : ℕ} {s : List ℕ} (o : Moving s₀ i n s j) (h : i < j) where
      pub moving_read : Canonical s × (j - 1 < length (load s).floors)
      moving_read = (holds-canonical w o.holds, rw (holds-floors w o.holds, Floors.moved_length n (load s₀).floors e j) (omega (arith, o.high)))

      pub moving_write : Canonical s × (j - 1 + 1 < length (load s).floors)
      moving_write = (holds-canonical w o.holds, rw (holds-floors w o.holds, Floors.moved_length n (load s₀).floors e j) (omega (arith, o.high)))

      pub moving_next : {f : Floor} {s' : List ℕ} → f ≡ get_or (load s).floors (j - 1) no_floor → s' ≡ stored s (with_floors (set (load s).floors (j - 1 + 1) f) (load s)) → Moving s₀ i n s' (j - 1)
      moving_next {f} {s'} p q =
          let gs : List Floor = (load s₀).floors in
          let k : ℕ = j - 1 in
          let up : j ≡ suc k = omega arith in
          let last : k + 1 ≡ j = omega arith in
          let row : f ≡ get_or gs k no_floor =
          p
          ∙ ap (λ (x : List Floor). get_or x k no_floor) (holds-floors w o.holds)
          ∙ ap (λ (m : ℕ). get_or (moved_up m n gs) k no_floor) up
          ∙ Floors.moved_read n gs e k (omega (arith, o.high)) in
          let fit : FloorFits f = rw row (all_get_d FloorFits gs k no_floor w.fits.floors (omega (arith, o.high))) in
          let all : set (moved_up j n gs) j f ≡ moved_up k n gs =
          ap (λ (m : ℕ). set (moved_up m n gs) m f) up ∙ ap (λ (x : Floor). set (moved_up (suc k) n gs) (suc k) x) row ∙ Floors.moved-next n gs e k (omega (arith, o.high)) in
          record { low = omega arith; high = omega (arith, o.high); holds = rw (← all) (holds-set w o.holds j (rw last at q) fit) }

-- ---- a row entered

module _ {s₀ : List ℕ} (w : Canonical s₀) {i n : ℕ} {f : Floor} {s₁ : List ℕ} (low : i ≤ length (load s₀).floors) (room : length (load s₀).floors < client_count)
    (fit : FloorFits f) (count : n ≡ length (load s₀).floors)
    (added : s₁ ≡ stored s₀ (with_floors ((load s₀).floors ++ (f ∷ [])) (load s₀))) where
  abbrev fs : List Floor
  fs = (load s₀).floors

  abbrev gs : List Floor
  gs = (load s₀).floors ++ (f ∷ [])

  one : Holds s₀ s₁ gs
  one = holds-add w (holds-start w) added fit room

  more : length gs ≡ suc n
  more = omega (arith, length-append fs (f ∷ []))

  pub entered-move : Canonical s₁ × (length (load s₁).floors ≡ suc n) × (i ≤ n)
  entered-move = (holds-canonical w one, rw (holds-floors w one) more, omega arith)

  module _ {s₂ : List ℕ} (moved : s₂ ≡ stored s₁ (with_floors (moved_up i n (load s₁).floors) (load s₁))) where
    two : Holds s₀ s₂ (moved_up i n gs)
    two =
        let size : length (moved_up i n gs) ≡ suc n = Floors.moved_length n gs more i in
        let fits : All FloorFits gs = all_append FloorFits fs (f ∷ []) w.fits.floors (fit, tt) in
        let all : All FloorFits (moved_up i n gs) = Floors.moved_all FloorFits n gs more i (omega arith) fits in
        holds-next w one (moved_up i n gs) (moved ∙ ap (λ (x : List Floor). stored s₁ (with_floors (moved_up i n x) (load s₁))) (holds-floors w one)) all (omega arith)

    pub entered-set : Canonical s₂ × (i < length (load s₂).floors)
    entered-set = (holds-canonical w two, rw (holds-floors w two, Floors.moved_length n gs more i) (omega arith))

    pub entered-end : {s₃ : List ℕ} → s₃ ≡ stored s₂ (with_floors (set (load s₂).floors i f) (load s₂)) → s₃ ≡ stored s₀ (with_floors (inserted i f (load s₀).floors) (load s₀))
    entered-end {s₃} e =
        (holds-set w two i e fit).same
        ∙ ap (λ (x : List Floor). stored s₀ (with_floors x (load s₀))) (ap (λ (m : ℕ). set (moved_up i m gs) i f) count ∙ Floors.moved_added i f fs low)

-- ---- a floor raised

module _ {s : List ℕ} (w : Canonical s) (x n : ℕ) {i : ℕ} {t : Bool} (p : i ≡ ordered_place x (load s).floors) (q : t ≡ is_at x i (load s).floors) where
  pub raised_at_lem : t ≡ true → Canonical s × (i < length (load s).floors)
  raised_at_lem e = (w, Floors.found-there x (load s).floors p q e)

  pub raised_room : length (raise x n (load s).floors) ≤ client_count → t ≡ false → Canonical s × (i ≤ length (load s).floors) × (length (load s).floors < client_count)
  raised_room h e = (w, Floors.found_below x (load s).floors p q, omega (arith, Floors.found-room x n (load s).floors p q e))

  module _ {s' : List ℕ} where
    pub raised_known : t ≡ true → s' ≡ stored s (with_floors (raised_at i x n (load s).floors) (load s)) → s' ≡ stored s (with_floors (raise x n (load s).floors) (load s))
    raised_known e r = r ∙ ap (λ (y : List Floor). stored s (with_floors y (load s))) (Floors.found-raise x (load s).floors p q n e)

    pub raised_new : t ≡ false → s' ≡ stored s (with_floors (inserted i (record { client = x; floor = n }) (load s).floors) (load s)) → s' ≡ stored s (with_floors (raise x n (load s).floors) (load s))
    raised_new e r = r ∙ ap (λ (y : List Floor). stored s (with_floors y (load s))) (Floors.found_enter x (load s).floors p q n e)

-- ---- rows moved to the front

-- of the first i rows those that the test keeps
abbrev kept : List ℕ → (Floor → Bool) → ℕ → List Floor
kept s₀ t i = keep t (take i (load s₀).floors)

pub record Packing (s₀ : List ℕ) (t : Floor → Bool) (s : List ℕ) (i j : ℕ) : Type 0 where
  pub below : i ≤ length (load s₀).floors
  pub count : j ≡ length (kept s₀ t i)
  pub behind : j ≤ i
  pub holds : Holds s₀ s (kept s₀ t i ++ drop (length (kept s₀ t i)) (load s₀).floors)

module _ {s₀ : List ℕ} (w : Canonical s₀) (t : Floor → Bool) where
  pub packing_start : Packing s₀ t s₀ 0 0
  unfolding keep
  packing_start = record { below = omega arith; count = refl; behind = omega arith; holds = holds-start w }

  module _ {s : List ℕ} {i j : ℕ} (o : Packing s₀ t s i j) where
    size : length (kept s₀ t i ++ drop (length (kept s₀ t i)) (load s₀).floors) ≡ length (load s₀).floors
    size = omega (arith, length-append (kept s₀ t i) (drop (length (kept s₀ t i)) (load s₀).floors), length-drop (length (kept s₀ t i)) (load s₀).floors, o.count, o.behind, o.below)

    pub packing_end : length (load s₀).floors ≤ i → (j ≡ length (keep t (load s₀).floors)) × (s ≡ stored s₀ (with_floors (packed t (load s₀).floors) (load s₀)))
    unfolding packed
    packing_end h =
        let all : take i (load s₀).floors ≡ (load s₀).floors = take_all i (load s₀).floors h in (
          o.count ∙ ap (λ (x : List Floor). length (keep t x)) all,
          o.holds.same ∙ ap (λ (x : List Floor). stored s₀ (with_floors (keep t x ++ drop (length (keep t x)) (load s₀).floors) (load s₀))) all,
        )

    module _ (h : i < length (load s₀).floors) where
      pub packing_read : Canonical s × (i < length (load s).floors)
      packing_read = (holds-canonical w o.holds, rw (holds-floors w o.holds, size) h)

      pub packing_write : Canonical s × (j < length (load s).floors)
      packing_write = (holds-canonical w o.holds, rw (holds-floors w o.holds, size) (omega (arith, o.behind)))

      module _ {f : Floor} (p : f ≡ get_or (load s).floors i no_floor) where
        its_row : f ≡ get_or (load s₀).floors i no_floor
        its_row =
            p
            ∙ ap (λ (x : List Floor). get_or x i no_floor) (holds-floors w o.holds)
            ∙ Floors.packed_read (kept s₀ t i) (load s₀).floors i no_floor (omega (arith, o.count, o.behind)) h

        next-rows : take (i + 1) (load s₀).floors ≡ take i (load s₀).floors ++ (f ∷ [])
        next-rows = rw (add-one, its_row) (take-suc (load s₀).floors i no_floor h)

        pub packing_drop : t f ≡ false → Packing s₀ t s (i + 1) j
        packing_drop q =
            let e : kept s₀ t (i + 1) ≡ kept s₀ t i = ap (keep t) next-rows ∙ keep_no t (take i (load s₀).floors) f q in
            record { below = omega arith; count = rw e o.count; behind = omega (arith, o.behind); holds = rw e o.holds }

        pub packing_keep : {s' : List ℕ} → t f ≡ true → s' ≡ stored s (with_floors (set (load s).floors j f) (load s)) → Packing s₀ t s' (i + 1) (j + 1)
        packing_keep {s'} q r =
            let e : kept s₀ t (i + 1) ≡ kept s₀ t i ++ (f ∷ []) = ap (keep t) next-rows ∙ keep_yes t (take i (load s₀).floors) f q in
            let fit : FloorFits f = rw its_row (all_get_d FloorFits (load s₀).floors i no_floor w.fits.floors h) in
            let row : set (kept s₀ t i ++ drop (length (kept s₀ t i)) (load s₀).floors) j f ≡ (kept s₀ t i ++ (f ∷ [])) ++ drop (length (kept s₀ t i ++ (f ∷ []))) (load s₀).floors =
            ap (λ (m : ℕ). set (kept s₀ t i ++ drop (length (kept s₀ t i)) (load s₀).floors) m f) o.count ∙ Floors.packed-next (kept s₀ t i) (load s₀).floors f
            (omega (arith, o.count, o.behind)) in
            record {
              below = omega arith;
              count = rw (e, length-append, ← o.count);
              behind = omega (arith, o.behind);
              holds = rw (e, ← row) (holds-set w o.holds j r fit);
            }

-- a client and another
pub stays-other : (x : ℕ) (f : Floor) → (f.client ≡ x → ⊥) → is_not_client x f ≡ true
unfolding is_not_client
stays-other x f h = rw (ne_eqb f.client x h)

pub goes_same : (x : ℕ) (f : Floor) → f.client ≡ x → is_not_client x f ≡ false
unfolding is_not_client
goes_same x f e = rw (eq-eqb f.client x e)

-- ---- rows taken away

pub record Cutting (s₀ : List ℕ) (k : ℕ) (s : List ℕ) (n : ℕ) : Type 0 where
  pub low : k ≤ n
  pub high : n ≤ length (load s₀).floors
  pub holds : Holds s₀ s (take n (load s₀).floors)

module _ {s₀ : List ℕ} (w : Canonical s₀) where
  pub cutting-start : {k n : ℕ} → k ≤ length (load s₀).floors → n ≡ length (load s₀).floors → Cutting s₀ k s₀ n
  cutting-start {k} {n} h e = record { low = omega arith; high = omega arith; holds = rw (take_all n (load s₀).floors (omega arith)) (holds-start w) }

  module _ {k n : ℕ} {s : List ℕ} (o : Cutting s₀ k s n) where
    pub cutting-drop : k < n → Canonical s × (length (load s).floors ≡ suc (n - 1))
    cutting-drop h = (holds-canonical w o.holds, rw (holds-floors w o.holds, length-take-le n (load s₀).floors o.high) (omega arith))

    pub cutting-next : {s' : List ℕ} → k < n → s' ≡ stored s (with_floors (take (n - 1) (load s).floors) (load s)) → Cutting s₀ k s' (n - 1)
    cutting-next {s'} h e =
        record {
          low = omega arith;
          high = omega (arith, o.high);
          holds = rw (← take-take (n - 1) n (load s₀).floors (omega arith)) (holds-drop w o.holds (n - 1) e);
        }

-- ---- a client removed

module _ {s₀ : List ℕ} (w : Canonical s₀) (t : Floor → Bool) {k : ℕ} {s₁ : List ℕ} (count : k ≡ length (keep t (load s₀).floors))
    (front : s₁ ≡ stored s₀ (with_floors (packed t (load s₀).floors) (load s₀))) where
  packed-length : length (packed t (load s₀).floors) ≡ length (load s₀).floors
  unfolding packed
  packed-length =
      let fs : List Floor = (load s₀).floors in
      omega (arith, length-append (keep t fs) (drop (length (keep t fs)) fs), length-drop (length (keep t fs)) fs, length-keep t fs)

  packed-fits : All FloorFits (packed t (load s₀).floors)
  unfolding packed
  packed-fits =
      let fs : List Floor = (load s₀).floors in
      all_append FloorFits (keep t fs) (drop (length (keep t fs)) fs) (all_keep FloorFits t fs w.fits.floors) (all_drop FloorFits (length (keep t fs)) fs w.fits.floors)

  packed-holds : Holds s₀ s₁ (packed t (load s₀).floors)
  packed-holds = record { same = front; fit = packed-fits; few = omega (arith, packed-length, w.fits.floors-count) }

  pub removed_cut : Canonical s₁ × (k ≤ length (load s₁).floors)
  removed_cut = (holds-canonical w packed-holds, rw (holds-floors w packed-holds) (omega (arith, packed-length, length-keep t (load s₀).floors)))

  packed-front : take k (packed t (load s₀).floors) ≡ keep t (load s₀).floors
  unfolding packed
  packed-front = take_at (keep t (load s₀).floors) (drop (length (keep t (load s₀).floors)) (load s₀).floors) k (sym count)

  pub removed_end : {s₂ : List ℕ} → s₂ ≡ stored s₁ (with_floors (take k (load s₁).floors) (load s₁)) → s₂ ≡ stored s₀ (with_floors (keep t (load s₀).floors) (load s₀))
  removed_end {s₂} e = (holds-drop w packed-holds k e).same ∙ ap (λ (x : List Floor). stored s₀ (with_floors x (load s₀))) packed-front

-- ---- an image's floors

-- n floors from k on of the image, from index i on
abbrev floors_from : List ℕ → ℕ → ℕ → List Floor
floors_from image n i = rows floor_of_bytes floor_row (n - i) (drop (least_image + floor_row * i) image)

floors_all : (image : List ℕ) (n : ℕ) → rows floor_of_bytes floor_row (n - 0) (drop (least_image + floor_row * 0) image) ≡ rows floor_of_bytes floor_row n (drop least_image image)
floors_all image n = rw sub-zero

abbrev merged : List ℕ → List ℕ → ℕ → List Floor
merged s₀ image n = merge_floors (rows floor_of_bytes floor_row n (drop least_image image)) (load s₀).floors

-- the floors so far, and those still to come
pub record Merging (s₀ image : List ℕ) (n : ℕ) (s : List ℕ) (i : ℕ) : Type 0 where
  pub below : i ≤ n
  pub floors : List Floor
  pub holds : Holds s₀ s floors
  pub rest : merged s₀ image n ≡ merge_floors (floors_from image n i) floors

module _ {s₀ : List ℕ} (w : Canonical s₀) (image : List ℕ) (n : ℕ) where
  pub merging_start : Merging s₀ image n s₀ 0
  merging_start =
      record { below = omega arith; floors = (load s₀).floors; holds = holds-start w; rest = ap (λ (x : List Floor). merge_floors x (load s₀).floors) (sym (floors_all image n)) }

  module _ (few : length (merged s₀ image n) ≤ client_count) {s : List ℕ} {i : ℕ} (o : Merging s₀ image n s i) where
    module _ (h : i < n) {f : Floor} (p : f ≡ floor_of_bytes (drop (least_image + floor_row * i) image)) where
      onward : merged s₀ image n ≡ merge_floors (floors_from image n (i + 1)) (raise f.client f.floor o.floors)
      unfolding merge_floors
      onward = o.rest ∙ rw (rows-cons floor_of_bytes floor_row image least_image i n h, ← p)

      room : length (raise f.client f.floor o.floors) ≤ client_count
      room = omega (arith, ap length onward, Floors.merge_grows (floors_from image n (i + 1)) (raise f.client f.floor o.floors))

      pub merging_raise : Canonical s × (length (raise f.client f.floor (load s).floors) ≤ client_count)
      merging_raise = (holds-canonical w o.holds, rw (holds-floors w o.holds) room)

      pub merging_next : {s' : List ℕ} → Bytes image → s' ≡ stored s (with_floors (raise f.client f.floor (load s).floors) (load s)) → Merging s₀ image n s' (i + 1)
      merging_next {s'} b e =
          let fit : FloorFits f = rw p (floor_codec.dec-fit (drop (least_image + floor_row * i) image) (bytes_drop (least_image + floor_row * i) image b) refl) in
          record {
            below = omega arith;
            floors = raise f.client f.floor o.floors;
            holds =
                holds-next w o.holds (raise f.client f.floor o.floors)
                (e ∙ ap (λ (x : List Floor). stored s (with_floors (raise f.client f.floor x) (load s))) (holds-floors w o.holds))
                (Floors.raise-fits f o.floors fit o.holds.fit)
                room;
            rest = onward;
          }

    pub merging_end : n ≤ i → s ≡ stored s₀ (with_floors (merged s₀ image n) (load s₀))
    unfolding merge_floors rows
    merging_end h =
        let e : n - i ≡ 0 = omega arith in
        o.holds.same ∙ ap (λ (x : List Floor). stored s₀ (with_floors x (load s₀))) (sym (o.rest ∙ rw e))

-- the count so far, and those still to come
pub record Counting (fs : List Floor) (image : List ℕ) (n count i : ℕ) : Type 0 where
  pub below : i ≤ n
  pub most : count ≤ length fs + i
  pub rest : length (merge_floors (rows floor_of_bytes floor_row n (drop least_image image)) fs) ≡ count + length (keep (Floors.is_new fs) (floors_from image n i))

module _ (fs : List Floor) (image : List ℕ) (n : ℕ) where
  pub counting-start : {count : ℕ} → count ≡ length fs → clients_ascend (rows floor_of_bytes floor_row n (drop least_image image)) ≡ true → Counting fs image n count 0
  counting-start {count} e a =
      record {
        below = omega arith;
        most = omega arith;
        rest = rw (e, floors_all image n) (Floors.merge_count (rows floor_of_bytes floor_row n (drop least_image image)) fs (ascends (rows floor_of_bytes floor_row n (drop least_image image)) a));
      }

  module _ {count i : ℕ} (o : Counting fs image n count i) where
    module _ (h : i < n) {f : Floor} (p : f ≡ floor_of_bytes (drop (least_image + floor_row * i) image)) {u : Bool} (q : u ≡ is_known f.client fs) where
      onward' : keep (Floors.is_new fs) (floors_from image n i) ≡ pick (not u) (f ∷ keep (Floors.is_new fs) (floors_from image n (i + 1))) (keep (Floors.is_new fs) (floors_from image n (i + 1)))
      unfolding keep
      onward' = rw (rows-cons floor_of_bytes floor_row image least_image i n h, ← p, q)

      pub counting_new : not u ≡ true → Counting fs image n (count + 1) (i + 1)
      counting_new e = record { below = omega arith; most = omega (arith, o.most); rest = o.rest ∙ rw (onward', e) (omega arith) }

      pub counting-known : not u ≡ false → Counting fs image n count (i + 1)
      counting-known e = record { below = omega arith; most = omega (arith, o.most); rest = o.rest ∙ rw (onward', e) }

    pub counting-end : n ≤ i → count ≡ length (merge_floors (rows floor_of_bytes floor_row n (drop least_image image)) fs)
    unfolding keep rows
    counting-end h = let e : n - i ≡ 0 = omega arith in sym (o.rest ∙ rw e (add-zero count))
