-- The two walks of the reader: over the floors, and over the completion records with a cursor into the floors.
--     floors_ordered, ids_ordered     the order of each table, the first row apart
--     floors-start     what the walk over the floors starts from
--     floor-last, floor-before, entry-last, entry-before     a step at the last row, at one before another
--     leading-count, leading-up, leading-from     floors below a client: at most all; more below a greater one; from an index on
--     seek_next, seek_stop, seek_end     the search for the next floor goes on, stops, ends
--     here-none, here_found, here-other     the floor of index j is the client's or not
--     floor-found     behind the floors below a client stands its own, if it has one
--     tables_stop, tables_ascend, tables_last     the walk through both
--     beside_start, beside_next, beside_false     the walk over the records, with the cursor
-- Assumes nothing.
use Prim.Native.Nat.{ℕ, zero, suc, ◌+◌, ◌-◌, ◌*◌, ◌≤◌, ◌<◌}
use mathlib.Core.Path.{◌≡◌, refl, sym, ◌∙◌}
use mathlib.Core.Bool.{Bool, true, false, ◌&&◌, ◌||◌, not, and_assoc, false≢true}
use mathlib.Core.List.{List, [], ◌∷◌}
use native.Mathlib.Omega.{arith}
use native.Mathlib.Nat.{sub-zero, zero-add}
use lib.ListN.{drop}
use lib.Seq.{drop-drop}
use lib.Dec.{eqb, ltb}
use borrow.Author.Tests.{not-false, eqb-true, eq-eqb, ne_eqb, ltb-true, ltb-false, lt-ltb, le-ltb}
use Rattle.model.specs.declared.Floor.{Floor}
use Rattle.model.specs.declared.ImageEntry.{ImageEntry}
use Rattle.model.specs.declared.ImageHead.{ImageHead}
use Rattle.model.specs.Choice.{pick}
use Rattle.model.specs.Tables.{rows, every_row, every}
use Rattle.model.specs.Images.{floor_of_bytes, image_entry_of, floor_of, floor_ok, clients_ascend, ids_ascend, id_before, entry_row_ok, image_entry_ok, image_tables_ok, image_at, entry_width, entries_start}
use Rattle.model.specs.Limits.{floor_row, least_image}
use Rattle.format_image_rows.specs.Order.{entry_before}
use Rattle.model_laws.proofs.Tests.{and_left, and_right}
use Rattle.model_laws.proofs.Tables.{row_next, rows-cons, every_row-rows}
use Rattle.format_image_reader.specs.Walks.{client_follows, floor_step, floors_ok, leading, floor_first, id_follows, entry_fields_ok, entry_step, entries_ok, rows_ok, floors_in}
use Rattle.model_laws.proofs.Loops.{Ordered, Walk, row_test, walk_start, walk-next, walk-false}

-- ---- the order of each table

pub floors_ordered : Ordered clients_ascend client_follows
unfolding clients_ascend client_follows
floors_ordered = record { none = refl; more = λ f fs. elim fs [ [] ↦ refl | g ∷ gs ↦ refl ] }

pub ids_ordered : Ordered ids_ascend id_follows
unfolding ids_ascend id_follows entry_before
ids_ordered = record { none = refl; more = λ e es. elim es [ [] ↦ refl | g ∷ gs ↦ refl ] }

pub floors-start : (s : List ℕ) (n : ℕ)
    → Walk floor_of_bytes clients_ascend (row_test floor_of_bytes floor_ok) floor_row least_image (floors_ok (floors_in s n)) s n 0
unfolding floors_ok
floors-start s n =
    walk_start floor_of_bytes clients_ascend (row_test floor_of_bytes floor_ok) floor_row least_image (floors_ok (floors_in s n)) s n
    (rw (every_row-rows floor_of_bytes floor_ok (row_test floor_of_bytes floor_ok) (λ x. refl) floor_row n (drop least_image s)))

-- ---- one row, and the first behind it

some_left : (left : ℕ) → (left ≡ 0 → ⊥) → left ≡ suc (left - 1)
some_left left h = omega arith

module _ (s : List ℕ) (k left : ℕ) {u : Bool} where
  pub floor-last : left ≡ 0 → u ≡ floor_ok (floor_of_bytes (drop k s)) → u ≡ floor_step left (drop k s)
  unfolding floor_step client_follows rows
  floor-last z p = rw z p

  pub floor-before : (left ≡ 0 → ⊥) → {v : Bool} → u ≡ floor_ok (floor_of_bytes (drop k s)) → v ≡ ltb (floor_of_bytes (drop k s)).client (floor_of_bytes (drop (k + floor_row) s)).client
      → (v && u) ≡ floor_step left (drop k s)
  unfolding floor_step client_follows rows
  floor-before z p q = rw (some_left left z, p, q, drop-drop)

  module _ (timed : Bool) (p floor w : ℕ) {e : ImageEntry} {fields : Bool} (r : e ≡ image_entry_of timed (drop k s)) (t : u ≡ entry_row_ok (drop k s)) (f : fields ≡ entry_fields_ok p floor e) where
    pub entry-last : left ≡ 0 → (u && fields) ≡ entry_step timed p floor w left (drop k s)
    unfolding entry_step id_follows rows
    entry-last z = rw (z, t, f, r)

    pub entry-before : (left ≡ 0 → ⊥) → {v : Bool} → v ≡ entry_before (image_entry_of timed (drop k s)) (image_entry_of timed (drop (k + w) s))
        → (v && (u && fields)) ≡ entry_step timed p floor w left (drop k s)
    unfolding entry_step id_follows rows
    entry-before z q = rw (some_left left z, t, f, r, q, drop-drop)

-- ---- floors below a client

pub leading-count : (x n : ℕ) (t : List ℕ) → leading x (rows floor_of_bytes floor_row n t) ≤ n
unfolding leading rows
leading-count x zero t = omega arith
leading-count x (suc n) t = step (ltb (floor_of_bytes t).client x) (leading-count x n (drop floor_row t))
  where
    step : (b : Bool) → leading x (rows floor_of_bytes floor_row n (drop floor_row t)) ≤ n → pick b (suc (leading x (rows floor_of_bytes floor_row n (drop floor_row t)))) 0 ≤ suc n
    step true h = omega arith
    step false h = omega arith

pub leading-up : (x y : ℕ) (fs : List Floor) → x ≤ y → leading x fs ≤ leading y fs
unfolding leading
leading-up x y [] h = omega arith
leading-up x y (f ∷ fs) h = step (ltb f.client x) (ltb f.client y) refl refl (leading-up x y fs h)
  where
    step : (a b : Bool) → ltb f.client x ≡ a → ltb f.client y ≡ b → leading x fs ≤ leading y fs
        → pick a (suc (leading x fs)) 0 ≤ pick b (suc (leading y fs)) 0
    step true true p q r = omega arith
    step true false p q r = absurd (omega (arith, ltb-true f.client x p, ltb-false f.client y q))
    step false b p q r = omega arith

-- the first j floors have a client below x: the others decide
pub leading-from : (x j n : ℕ) (t : List ℕ) → j ≤ leading x (rows floor_of_bytes floor_row n t)
    → leading x (rows floor_of_bytes floor_row n t) ≡ j + leading x (rows floor_of_bytes floor_row (n - j) (drop (floor_row * j) t))
unfolding leading rows
leading-from x zero n t h = rw (sub-zero, zero-add)
leading-from x (suc j) zero t h = absurd (omega arith)
leading-from x (suc j) (suc n) t h = step (ltb (floor_of_bytes t).client x) h (leading-from x j n (drop floor_row t))
  where
    more : ℕ
    more = leading x (rows floor_of_bytes floor_row n (drop floor_row t))

    step : (b : Bool) → suc j ≤ pick b (suc more) 0 → (j ≤ more → more ≡ j + leading x (rows floor_of_bytes floor_row (n - j) (drop (floor_row * j) (drop floor_row t))))
        → pick b (suc more) 0 ≡ suc j + leading x (rows floor_of_bytes floor_row (suc n - suc j) (drop (floor_row * suc j) t))
    step true k r =
        let e : suc n - suc j ≡ n - j = omega arith in
        let p : floor_row + floor_row * j ≡ floor_row * suc j = omega arith in
        let q : drop (floor_row * j) (drop floor_row t) ≡ drop (floor_row * suc j) t = rw (drop-drop, p) in
        rw (e, ← q) (omega (arith, r (omega arith)))
    step false k r = absurd (omega arith)

-- ---- the search for the next floor

pub record Seek (x : ℕ) (s : List ℕ) (n j : ℕ) : Type 0 where
  pub within : j ≤ n
  pub rest : leading x (floors_in s n) ≡ j + leading x (rows floor_of_bytes floor_row (n - j) (drop (least_image + floor_row * j) s))

pub seek_start : (x : ℕ) (s : List ℕ) (n j : ℕ) → j ≤ leading x (floors_in s n) → Seek x s n j
seek_start x s n j h =
    record { within = omega (arith, leading-count x n (drop least_image s)); rest = rw drop-drop at (leading-from x j n (drop least_image s) h) }

module _ {x : ℕ} {s : List ℕ} {n j : ℕ} (o : Seek x s n j) where
  pub seek_next : {f : Floor} → j < n → f ≡ floor_of_bytes (drop (least_image + floor_row * j) s) → f.client < x → Seek x s n (j + 1)
  unfolding leading
  seek_next {f} h p q =
      record {
        within = omega arith;
        rest = o.rest ∙ rw (rows-cons floor_of_bytes floor_row s least_image j n h, ← p, lt-ltb f.client x q) (omega arith);
      }

  pub seek_stop : {f : Floor} → j < n → f ≡ floor_of_bytes (drop (least_image + floor_row * j) s) → x ≤ f.client → j ≡ leading x (floors_in s n)
  unfolding leading
  seek_stop {f} h p q = sym (o.rest ∙ rw (rows-cons floor_of_bytes floor_row s least_image j n h, ← p, le-ltb f.client x q) (omega arith))

  pub seek_end : n ≤ j → n ≡ leading x (floors_in s n)
  unfolding leading rows
  seek_end h = let e : n - j ≡ 0 = omega arith in sym (o.rest ∙ rw e (omega (arith, o.within)))

-- ---- the floor of index j

pub here-none : (x : ℕ) (s : List ℕ) (n j : ℕ) → n ≤ j → 0 ≡ floor_first x (rows floor_of_bytes floor_row (n - j) (drop (least_image + floor_row * j) s))
unfolding floor_first rows
here-none x s n j h = let e : n - j ≡ 0 = omega arith in rw e

module _ (x : ℕ) (s : List ℕ) (n j : ℕ) {f : Floor} (h : j < n) (p : f ≡ floor_of_bytes (drop (least_image + floor_row * j) s)) where
  pub here_found : f.client ≡ x → f.floor ≡ floor_first x (rows floor_of_bytes floor_row (n - j) (drop (least_image + floor_row * j) s))
  unfolding floor_first
  here_found q = rw (rows-cons floor_of_bytes floor_row s least_image j n h, ← p, eq-eqb f.client x q)

  pub here-other : (f.client ≡ x → ⊥) → 0 ≡ floor_first x (rows floor_of_bytes floor_row (n - j) (drop (least_image + floor_row * j) s))
  unfolding floor_first
  here-other q = rw (rows-cons floor_of_bytes floor_row s least_image j n h, ← p, ne_eqb f.client x q)

-- ---- behind the floors below a client stands its own, if it has one

absent : (x : ℕ) (f : Floor) (fs : List Floor) → clients_ascend (f ∷ fs) ≡ true → x ≤ f.client → floor_of x fs ≡ 0
unfolding clients_ascend floor_of
absent x f [] a h = refl
absent x f (g ∷ gs) a h =
    let l : f.client < g.client = ltb-true f.client g.client (and_left (ltb f.client g.client) (clients_ascend (g ∷ gs)) a) in
    rw (ne_eqb g.client x (λ e. omega arith)) (absent x g gs (and_right (ltb f.client g.client) (clients_ascend (g ∷ gs)) a) (omega arith))

tail_ascends : (f : Floor) (fs : List Floor) → clients_ascend (f ∷ fs) ≡ true → clients_ascend fs ≡ true
unfolding clients_ascend
tail_ascends f [] a = refl
tail_ascends f (g ∷ gs) a = and_right (ltb f.client g.client) (clients_ascend (g ∷ gs)) a

pub floor-found : (x n : ℕ) (t : List ℕ) → clients_ascend (rows floor_of_bytes floor_row n t) ≡ true → (j : ℕ) → j ≡ leading x (rows floor_of_bytes floor_row n t)
    → floor_of x (rows floor_of_bytes floor_row n t) ≡ floor_first x (rows floor_of_bytes floor_row (n - j) (drop (floor_row * j) t))
unfolding leading rows floor_of floor_first
floor-found x zero t a j e = rw e
floor-found x (suc n) t a j e =
    step (ltb (floor_of_bytes t).client x) refl e
    (floor-found x n (drop floor_row t) (tail_ascends (floor_of_bytes t) (rows floor_of_bytes floor_row n (drop floor_row t)) a) (leading x (rows floor_of_bytes floor_row n (drop floor_row t))) refl)
  where
    f : Floor
    f = floor_of_bytes t

    fs : List Floor
    fs = rows floor_of_bytes floor_row n (drop floor_row t)

    step : (b : Bool) → ltb f.client x ≡ b → j ≡ pick b (suc (leading x fs)) 0
        → floor_of x fs ≡ floor_first x (rows floor_of_bytes floor_row (n - leading x fs) (drop (floor_row * leading x fs) (drop floor_row t)))
        → floor_of x (f ∷ fs) ≡ floor_first x (rows floor_of_bytes floor_row (suc n - j) (drop (floor_row * j) t))
    step true p q i =
        let e' : suc n - j ≡ n - leading x fs = omega arith in
        let m : floor_row + floor_row * leading x fs ≡ floor_row * j = omega arith in
        let r : drop (floor_row * leading x fs) (drop floor_row t) ≡ drop (floor_row * j) t = rw (drop-drop, m) in
        let l : f.client < x = ltb-true f.client x p in
        rw (ne_eqb f.client x (λ z. omega arith), e', ← r) i
    step false p q i = rw (q, sub-zero) (last (eqb f.client x))
      where
        last : (b : Bool) → pick b f.floor (floor_of x fs) ≡ pick b f.floor 0
        last true = refl
        last false = absent x f fs a (omega (arith, ltb-false f.client x p))

-- ---- the walk over the records

abbrev pub entry_test : Bool → ℕ → List Floor → List ℕ → Bool
entry_test timed p fs t = entry_row_ok t && image_entry_ok p fs (image_entry_of timed t)

pub record Beside (timed : Bool) (p n w at m : ℕ) (s : List ℕ) (i j : ℕ) : Type 0 where
  pub walk : Walk (image_entry_of timed) ids_ascend (entry_test timed p (floors_in s n)) w at (entries_ok timed p (floors_in s n) w m (drop at s)) s m i
  pub cursor : i < m → j ≤ leading (image_entry_of timed (drop (at + w * i) s)).client (floors_in s n)

each_both : (t u : List ℕ → Bool) (w n : ℕ) (s : List ℕ) → every_row (λ x. t x && u x) w n s ≡ (every_row t w n s && every_row u w n s)
unfolding every_row
each_both t u w zero s = refl
each_both t u w (suc n) s = rw (each_both t u w n (drop w s)) (both (t s) (u s) (every_row t w n (drop w s)) (every_row u w n (drop w s)))
  where
    both : (a b c d : Bool) → ((a && b) && (c && d)) ≡ ((a && c) && (b && d))
    both true true c d = refl
    both true false true d = refl
    both true false false d = refl
    both false b c d = refl

pub beside_start : (timed : Bool) (p n w at m : ℕ) (s : List ℕ) → Beside timed p n w at m s 0 0
unfolding entries_ok
beside_start timed p n w at m s =
    let fs : List Floor = floors_in s n in
    let es : List ImageEntry = rows (image_entry_of timed) w m (drop at s) in
    let u : List ℕ → Bool = row_test (image_entry_of timed) (image_entry_ok p fs) in
    record {
      walk =
          walk_start (image_entry_of timed) ids_ascend (entry_test timed p fs) w at (entries_ok timed p fs w m (drop at s)) s m
          (rw (each_both entry_row_ok u w m (drop at s), every_row-rows (image_entry_of timed) (image_entry_ok p fs) u (λ x. refl) w m (drop at s))
          (sym (and_assoc (every_row entry_row_ok w m (drop at s)) (every (image_entry_ok p fs) es) (ids_ascend es))));
      cursor = λ h. omega arith;
    }

-- a record behind another has no lower client
before-up : (x c y d : ℕ) → id_before x c y d ≡ true → x ≤ y
unfolding id_before
before-up x c y d e = step (ltb x y) refl e
  where
    step : (b : Bool) → ltb x y ≡ b → (b || (eqb x y && ltb c d)) ≡ true → x ≤ y
    step true p q = omega (arith, ltb-true x y p)
    step false p q = omega (arith, eqb-true x y (and_left (eqb x y) (ltb c d) q))

follows-up : (timed : Bool) (e : ImageEntry) (w n : ℕ) (t : List ℕ) → 0 < n → id_follows e (rows (image_entry_of timed) w n t) ≡ true → e.client ≤ (image_entry_of timed t).client
unfolding id_follows rows entry_before
follows-up timed e w zero t h b = absurd (omega arith)
follows-up timed e w (suc n) t h b = before-up e.client e.call (image_entry_of timed t).client (image_entry_of timed t).call b

-- a step of the walk, with the floor that the cursor finds
module _ {timed : Bool} {p n w at m : ℕ} {s : List ℕ} {i j : ℕ} (o : Beside timed p n w at m s i j) (a : clients_ascend (floors_in s n) ≡ true)
    {e : ImageEntry} {k floor : ℕ} {u : Bool}
    (h : i < m)
    (r : e ≡ image_entry_of timed (drop (at + w * i) s))
    (c : k ≡ leading e.client (floors_in s n))
    (g : floor ≡ floor_first e.client (rows floor_of_bytes floor_row (n - k) (drop (least_image + floor_row * k) s)))
    (q : u ≡ entry_step timed p floor w (m - (i + 1)) (drop (at + w * i) s)) where
  found : floor ≡ floor_of e.client (floors_in s n)
  found = g ∙ sym (rw drop-drop at (floor-found e.client n (drop least_image s) a k c))

  tested : u ≡ (id_follows (image_entry_of timed (drop (at + w * i) s)) (rows (image_entry_of timed) w (m - (i + 1)) (drop w (drop (at + w * i) s)))
      && entry_test timed p (floors_in s n) (drop (at + w * i) s))
  unfolding entry_step entry_fields_ok image_entry_ok
  tested = q ∙ rw (found, r)

  pub beside_false : not u ≡ true → false ≡ entries_ok timed p (floors_in s n) w m (drop at s)
  beside_false z = walk-false o.walk ids_ordered h tested z

  pub beside_next : not u ≡ false → Beside timed p n w at m s (i + 1) k
  beside_next z = record { walk = walk-next o.walk ids_ordered h tested z; cursor = onward }
    where
      onward : i + 1 < m → k ≤ leading (image_entry_of timed (drop (at + w * (i + 1)) s)).client (floors_in s n)
      onward l =
          let t : List ℕ = drop (at + w * i) s in
          let b : id_follows (image_entry_of timed t) (rows (image_entry_of timed) w (m - (i + 1)) (drop w t)) ≡ true = and_left _ _ (sym tested ∙ not-false u z) in
          let place : at + w * i + w ≡ at + w * (i + 1) = omega (arith, row_next w i) in
          let up : (image_entry_of timed t).client ≤ (image_entry_of timed
          (drop (at + w * (i + 1)) s)).client = rw (drop-drop, place) at (follows-up timed (image_entry_of timed t) w (m - (i + 1)) (drop w t) (omega arith) b) in
          rw c (leading-up e.client (image_entry_of timed (drop (at + w * (i + 1)) s)).client (floors_in s n) (rw r up))

-- ---- both tables

tests_stop : (z a b r : Bool) → (a && b) ≡ false → false ≡ (z && (a && (b && r)))
tests_stop true true b r e = rw e
tests_stop true false b r e = refl
tests_stop false a b r e = refl

tests_go : (z a b r : Bool) → (a && b) ≡ true → (z && r) ≡ (z && (a && (b && r)))
tests_go z true b r e = rw e
tests_go z false b r e = absurd (false≢true e)

module _ (h : ImageHead) (s : List ℕ) {u : Bool} (p : u ≡ floors_ok (floors_in s h.floors)) where
  fs : List Floor
  fs = floors_in s h.floors

  es : List ImageEntry
  es = rows (image_entry_of h.timed) (entry_width h) h.entries (drop (entries_start h.floors) s)

  zeros : Bool
  zeros = every_row entry_row_ok (entry_width h) h.entries (drop (entries_start h.floors) s)

  rest : Bool
  rest = every (image_entry_ok h.point fs) es && ids_ascend es

  pub tables_stop : u ≡ false → false ≡ rows_ok h s
  unfolding rows_ok floors_ok image_tables_ok image_at zeros rest fs es
  tables_stop e = tests_stop zeros (every floor_ok fs) (clients_ascend fs) rest (sym p ∙ e)

  pub tables_ascend : u ≡ true → clients_ascend (floors_in s h.floors) ≡ true
  unfolding floors_ok fs
  tables_ascend e = and_right (every floor_ok fs) (clients_ascend fs) (sym p ∙ e)

  pub tables_last : u ≡ true → {v : Bool} → v ≡ entries_ok h.timed h.point (floors_in s h.floors) (entry_width h) h.entries (drop (entries_start h.floors) s) → v ≡ rows_ok h s
  unfolding rows_ok floors_ok image_tables_ok image_at entries_ok zeros rest fs es
  tables_last e q = q ∙ tests_go zeros (every floor_ok fs) (clients_ascend fs) rest (sym p ∙ e)
