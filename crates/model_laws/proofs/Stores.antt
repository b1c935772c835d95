-- Stores into a state's buffer: what each leaves is the state with one part replaced. The counts and the tables are stored apart, so
-- these laws are about a layout, which is the state's bytes once count and table agree (layout-state).
--     put-heard, put-clients, put_count, put-size, put-mark     the head's fields; put-clients and put_count: the two counts
--     put-point                     a point
--     put-floors                    a run of stores inside the clients' table
--     records-replaced, floors-stored     rows of a table and their count: the state with that table replaced
--     stored-over, stored-own       one state stored over another
--     bytes_of-set, padded-set       one row of a table replaced
--     padded-from                   the rows from an index on replaced by at least as many: rows added, or inserted
-- Assumes nothing.
use Prim.Native.Nat.{ℕ, zero, suc, ◌+◌, ◌-◌, ◌*◌, ◌≤◌, ◌<◌}
use mathlib.Core.Path.{◌≡◌, refl, sym, ap, ◌∙◌}
use mathlib.Core.List.{List, [], ◌∷◌, ◌++◌, append_assoc, append-nil}
use native.Mathlib.Omega.{arith}
use lib.Seq.{drop-length, drop_at, drop-append-add, length-take-le}
use native.Mathlib.Nat.{mul-zero, mul-suc, mul-add, mul-le-mul_left, add-zero}
use lib.ListN.{length, set, take, drop, replicate, replicate-append-replicate, take-append-drop, length-drop, length-append, length-replicate, length-set}
use Rattle.model.specs.declared.Floor.{Floor}
use Rattle.model.specs.declared.Point.{Point}
use Rattle.model.specs.declared.Completion.{Completion}
use Rattle.model.specs.Numbers.{le32, le64}
use Rattle.model.specs.Tables.{bytes_of, written}
use Rattle.model.specs.Plan.{plan_bytes}
use Rattle.model.specs.Images.{floor_bytes}
use Rattle.model.specs.States.{State, state_head_bytes, state_bytes, padded, point_bytes, completion_bytes, state_head, points_start, floors_start, records_start, records_end, point_row}
use Rattle.model.specs.Apply.{with_mark}
use Rattle.model.specs.Limits.{point_count, client_count, floor_row, plan_size}
use Rattle.model_laws.specs.Codec.{Codec}
use Rattle.model_laws.specs.Fits.{StateFits}
use Rattle.model_laws.specs.Layout.{head_with, layout, with_heard, with_size, with_point, with_floors, with_records}
use Rattle.model_laws.proofs.Written.{nested_front, written-first, written-second, written-front, written_none, written-append, written_comm, written_cover, written_prefix, written_suffix}
use Rattle.model_laws.proofs.Tables.{length-bytes_of, bytes_of-append}
use Rattle.model_laws.proofs.States.{point_codec, completion_codec, padded-length, state-length}
use Rattle.model_laws.proofs.Images.{floor_codec}
use Rattle.model_laws.proofs.Plans.{plan-length}

pub layout-state : (st : State)
    → layout st (length st.floors) (length st.records) (padded floor_bytes floor_row client_count st.floors) (bytes_of completion_bytes st.records) ≡ state_bytes st
unfolding layout head_with state_bytes state_head_bytes
layout-state st = refl

-- ---- tables

length-zeros : (a : ℕ) → length (replicate {A = ℕ} a 0) ≡ a
length-zeros a = length-replicate a 0

drop-zeros : (a b : ℕ) → drop a (replicate {A = ℕ} (a + b) 0) ≡ replicate b 0
drop-zeros a b = rw (← replicate-append-replicate a b) (drop_at (replicate a 0) (replicate b 0) a (length-zeros a))

-- a run over the second of two lists and some of the zeros behind it
over-end : (one two new : List ℕ) (k p q : ℕ) → length one ≡ k → length new ≡ length two + p
    → written ((one ++ two) ++ replicate (p + q) 0) k new ≡ one ++ (new ++ replicate q 0)
over-end one two new k p q e l =
    let z : List ℕ = replicate (p + q) 0 in
    let fits : length new ≤ length (two ++ z) = omega (arith, length-append two z, length-zeros (p + q)) in
    let tail : drop (length new) (two ++ z) ≡ replicate q 0 = rw (l, drop-append-add two z p) (drop-zeros p q) in
    rw append_assoc
    (ap (λ (x : ℕ). written (one ++ (two ++ z)) x new) (sym (add-zero k))
    ∙ written-second one (two ++ z) k 0 new e
    ∙ ap (λ (x : List ℕ). one ++ x) (written-front (two ++ z) new fits ∙ ap (λ (x : List ℕ). new ++ x) tail))

module _ {A : Type 0} (C : Codec A) where
  -- one row replaced
  pub bytes_of-set : (ts : List A) (i : ℕ) (r : A) → i < length ts → written (bytes_of C.enc ts) (C.width * i) (C.enc r) ≡ bytes_of C.enc (set ts i r)
  unfolding bytes_of
  bytes_of-set [] i r h = absurd (omega arith)
  bytes_of-set (t ∷ ts) zero r h =
      let n : length (C.enc r) ≡ length (C.enc t) = C.enc-width r ∙ sym (C.enc-width t) in
      let one : written (C.enc t) 0 (C.enc r) ≡ C.enc r =
      written-front (C.enc t) (C.enc r) (omega arith)
      ∙ rw (n, drop-length (C.enc t), append-nil) in
      rw (mul-zero, written-first (C.enc t) (bytes_of C.enc ts) 0 (C.enc r) (omega arith), one)
  bytes_of-set (t ∷ ts) (suc i) r h =
      let e : C.width * suc i ≡ C.width + C.width * i = omega (arith, mul-suc C.width i) in
      rw (e, written-second (C.enc t) (bytes_of C.enc ts) C.width (C.width * i) (C.enc r) (C.enc-width t), bytes_of-set ts i r (omega arith))

  module _ (n : ℕ) where
    pub padded-set : (ts : List A) (i : ℕ) (r : A) → i < length ts
        → written (padded C.enc C.width n ts) (C.width * i) (C.enc r) ≡ padded C.enc C.width n (set ts i r)
    unfolding padded
    padded-set ts i r h =
        let w : ℕ = C.width in
        let fits : w * i + length (C.enc r) ≤ length (bytes_of C.enc ts) =
        omega (arith, C.enc-width r, length-bytes_of C ts, mul-suc w i, mul-le-mul_left w h) in
        rw (written-first (bytes_of C.enc ts) (replicate (w * (n - length ts)) 0) (w * i) (C.enc r) fits, bytes_of-set ts i r h, length-set)

    -- the rows from index i on replaced, by at least as many
    pub padded-from : (ts : List A) (i : ℕ) (us : List A) → i ≤ length ts → length ts ≤ i + length us → i + length us ≤ n
        → written (padded C.enc C.width n ts) (C.width * i) (bytes_of C.enc us) ≡ padded C.enc C.width n (take i ts ++ us)
    unfolding padded
    padded-from ts i us a b c =
        let w : ℕ = C.width in
        let x : ℕ = i + length us - length ts in
        let y : ℕ = n - (i + length us) in
        let split : bytes_of C.enc ts ≡ bytes_of C.enc (take i ts) ++ bytes_of C.enc (drop i ts) =
        ap (bytes_of C.enc) (sym (take-append-drop i ts)) ∙ bytes_of-append C.enc (take i ts) (drop i ts) in
        let kept : length (bytes_of C.enc (take i ts)) ≡ w * i = length-bytes_of C (take i ts) ∙ ap (λ (k : ℕ). w * k) (length-take-le i ts a) in
        let count : length (take i ts ++ us) ≡ i + length us = length-append (take i ts) us ∙ ap (λ (k : ℕ). k + length us) (length-take-le i ts a) in
        let more : length us ≡ length (drop i ts) + x = omega (arith, length-drop i ts) in
        let new : length (bytes_of C.enc us) ≡ length (bytes_of C.enc (drop i ts)) + w * x =
        rw (length-bytes_of C us, length-bytes_of C (drop i ts), ← mul-add) (ap (λ (k : ℕ). w * k) more) in
        let left : n - length ts ≡ x + y = omega arith in
        let rooms : w * (n - length ts) ≡ w * x + w * y = rw left (mul-add w x y) in
        rw (split, rooms, over-end (bytes_of C.enc (take i ts)) (bytes_of C.enc (drop i ts)) (bytes_of C.enc us) (w * i) (w * x) (w * y) kept new, count, bytes_of-append, append_assoc)

-- ---- the head

module _ (s : List ℕ) (st : State) (m n : ℕ) (fs rs : List ℕ) where
  pub put-heard : (t : ℕ) → written (written s 0 (layout st m n fs rs)) 8 (le32 t) ≡ written s 0 (layout (with_heard t st) m n fs rs)
  unfolding layout head_with with_heard le64 written
  put-heard t = nested_front s (layout st m n fs rs) 8 (le32 t) (omega arith)

  pub put-clients : (k : ℕ) → written (written s 0 (layout st m n fs rs)) 12 (le32 k) ≡ written s 0 (layout st k n fs rs)
  unfolding layout head_with le64 written
  put-clients k = nested_front s (layout st m n fs rs) 12 (le32 k) (omega arith)

  pub put_count : (k : ℕ) → written (written s 0 (layout st m n fs rs)) 16 (le32 k) ≡ written s 0 (layout st m k fs rs)
  unfolding layout head_with le64 written
  put_count k = nested_front s (layout st m n fs rs) 16 (le32 k) (omega arith)

  pub put-size : (k : ℕ) → written (written s 0 (layout st m n fs rs)) 24 (le64 k) ≡ written s 0 (layout (with_size k st) m n fs rs)
  unfolding layout head_with with_size le64 written
  put-size k = nested_front s (layout st m n fs rs) 24 (le64 k) (omega arith)

  pub put-mark : (k : ℕ) → written (written s 0 (layout st m n fs rs)) 32 (le64 k) ≡ written s 0 (layout (with_mark k st) m n fs rs)
  unfolding layout head_with with_mark le64 written
  put-mark k =
      nested_front s (layout st m n fs rs) 32 (le64 k) (omega arith)
      ∙ ap (λ (x : List ℕ). written s 0 (head_with (with_mark k st) m n ++ x)) (written_none (plan_bytes st.plan ++ (bytes_of point_bytes st.points ++ (fs ++ rs))) 0)

  head-length : length (head_with st m n) ≡ state_head
  unfolding head_with le64
  head-length = refl

  module _ (p64 : length st.plan ≡ point_count) where
    layout-length : length (layout st m n fs rs) ≡ points_start + (length (bytes_of point_bytes st.points) + (length fs + length rs))
    unfolding layout
    layout-length = simp (length-append, head-length, plan-length st.plan p64) (omega arith)

    point-set : (p : ℕ) (x : Point) → p < length st.points
        → head_with st m n ++ (plan_bytes st.plan ++ (written (bytes_of point_bytes st.points) (point_row * p) (point_bytes x) ++ (fs ++ rs))) ≡ layout (with_point p x st) m n fs rs
    unfolding layout head_with with_point
    point-set p x h = rw (bytes_of-set point_codec st.points p x h)

    in_points : (i : ℕ) (vs : List ℕ) → i + length vs ≤ length (bytes_of point_bytes st.points)
        → written (layout st m n fs rs) (points_start + i) vs ≡ head_with st m n ++ (plan_bytes st.plan ++ (written (bytes_of point_bytes st.points) i vs ++ (fs ++ rs)))
    unfolding layout
    in_points i vs h =
        let e : points_start + i ≡ state_head + (plan_size + i) = omega arith in
        rw (
          e,
          written-second (head_with st m n) (plan_bytes st.plan ++ (bytes_of point_bytes st.points ++ (fs ++ rs))) state_head (plan_size + i) vs head-length,
          written-second (plan_bytes st.plan) (bytes_of point_bytes st.points ++ (fs ++ rs)) plan_size i vs (plan-length st.plan p64),
          written-first (bytes_of point_bytes st.points) (fs ++ rs) i vs h,
        )

    pub put-point : (p : ℕ) (x : Point) → p < length st.points
        → written (written s 0 (layout st m n fs rs)) (points_start + point_row * p) (point_bytes x) ≡ written s 0 (layout (with_point p x st) m n fs rs)
    put-point p x h =
        let size : length (point_bytes x) ≡ point_row = point_codec.enc-width x in
        let all : length (bytes_of point_bytes st.points) ≡ point_row * length st.points = length-bytes_of point_codec st.points in
        let fits : point_row * p + length (point_bytes x) ≤ length (bytes_of point_bytes st.points) = omega arith in
        nested_front s (layout st m n fs rs) (points_start + point_row * p) (point_bytes x) (rw layout-length (omega arith))
        ∙ ap (λ (y : List ℕ). written s 0 y) (in_points (point_row * p) (point_bytes x) fits ∙ point-set p x h)

    -- bytes of the two tables
    module _ (x64 : length st.points ≡ point_count) where
      points-length : length (bytes_of point_bytes st.points) ≡ point_row * point_count
      points-length = length-bytes_of point_codec st.points ∙ ap (λ (k : ℕ). point_row * k) x64

      in_tables : (i : ℕ) (vs : List ℕ)
          → written (layout st m n fs rs) (floors_start + i) vs ≡ head_with st m n ++ (plan_bytes st.plan ++ (bytes_of point_bytes st.points ++ written (fs ++ rs) i vs))
      unfolding layout
      in_tables i vs =
          let e : floors_start + i ≡ state_head + (plan_size + (point_row * point_count + i)) = omega arith in
          rw (
            e,
            written-second (head_with st m n) (plan_bytes st.plan ++ (bytes_of point_bytes st.points ++ (fs ++ rs))) state_head (plan_size + (point_row * point_count + i)) vs head-length,
            written-second (plan_bytes st.plan) (bytes_of point_bytes st.points ++ (fs ++ rs)) plan_size (point_row * point_count + i) vs (plan-length st.plan p64),
            written-second (bytes_of point_bytes st.points) (fs ++ rs) (point_row * point_count) i vs points-length,
          )

      pub put-floors : (i : ℕ) (vs : List ℕ) → i + length vs ≤ length fs
          → written (written s 0 (layout st m n fs rs)) (floors_start + i) vs ≡ written s 0 (layout st m n (written fs i vs) rs)
      unfolding layout
      put-floors i vs h =
          nested_front s (layout st m n fs rs) (floors_start + i) vs (rw (layout-length, points-length) (omega arith))
          ∙ ap (λ (y : List ℕ). written s 0 y) (in_tables i vs ∙ rw (written-first fs rs i vs h))

-- ---- whole changes of a table: its rows, then its count

module _ (s : List ℕ) (st : State) (f : StateFits st) where
  with_records_lem : (rs : List Completion) (k : ℕ) → length rs ≡ k
      → layout st (length st.floors) k (padded floor_bytes floor_row client_count st.floors) (bytes_of completion_bytes rs) ≡ state_bytes (with_records rs st)
  unfolding layout head_with state_bytes state_head_bytes with_records
  with_records_lem rs k e = rw (← e)

  with_floors_lem : (fs : List Floor) (k : ℕ) → length fs ≡ k
      → layout st k (length st.records) (padded floor_bytes floor_row client_count fs) (bytes_of completion_bytes st.records) ≡ state_bytes (with_floors fs st)
  unfolding layout head_with state_bytes state_head_bytes with_floors
  with_floors_lem fs k e = rw (← e)

  abbrev F : List ℕ
  F = padded floor_bytes floor_row client_count st.floors

  layout-split : (n : ℕ) (xs ys : List Completion)
      → layout st (length st.floors) n F (bytes_of completion_bytes (xs ++ ys)) ≡ layout st (length st.floors) n F (bytes_of completion_bytes xs) ++ bytes_of completion_bytes ys
  unfolding layout
  layout-split n xs ys = rw bytes_of-append (simp append_assoc)

  layout-end : (n : ℕ) (xs : List Completion) → length (layout st (length st.floors) n F (bytes_of completion_bytes xs)) ≡ records_end (length xs)
  layout-end n xs =
      let p : length (bytes_of point_bytes st.points) ≡ point_row * point_count = length-bytes_of point_codec st.points ∙ ap (λ (k : ℕ). point_row * k) f.points-count in
      let lf : length F ≡ floor_row * client_count = padded-length floor_codec client_count st.floors f.floors-count in
      layout-length s st (length st.floors) n F (bytes_of completion_bytes xs) f.plan-count ∙ rw (p, lf, length-bytes_of completion_codec xs) (omega arith)

  -- the rows from index i on replaced, by any number: rows added, inserted, left out. What lies behind the last of them is kept
  pub records-replaced : written s 0 (state_bytes st) ≡ s → (i : ℕ) (us : List Completion) → i ≤ length st.records
      → written (written s (records_end i) (bytes_of completion_bytes us)) 16 (le32 (i + length us)) ≡ written s 0 (state_bytes (with_records (take i st.records ++ us) st))
  records-replaced same i us h =
      let m : ℕ = length st.floors in
      let n : ℕ = length st.records in
      let ts : List Completion = take i st.records in
      let kept : length ts ≡ i = length-take-le i st.records h in
      let A : List ℕ = layout st m n F (bytes_of completion_bytes ts) in
      let whole : written s 0 (A ++ bytes_of completion_bytes (drop i st.records)) ≡ s =
      ap (λ (x : List ℕ). written s 0 x)
      (sym (layout-split n ts (drop i st.records)) ∙ ap (λ (x : List Completion). layout st m n F (bytes_of completion_bytes x)) (take-append-drop i st.records) ∙ layout-state st)
      ∙ same in
      let front : written s 0 A ≡ s = written_prefix s A (bytes_of completion_bytes (drop i st.records)) whole in
      let count : length (ts ++ us) ≡ i + length us = length-append ts us ∙ ap (λ (k : ℕ). k + length us) kept in
      let end : records_end i ≡ 0 + length (layout st m (i + length us) F (bytes_of completion_bytes ts)) = omega (arith, layout-end (i + length us) ts, kept) in
      sym (written_comm s 16 (le32 (i + length us)) (records_end i) (bytes_of completion_bytes us) (omega arith))
      ∙ ap (λ (x : List ℕ). written x (records_end i) (bytes_of completion_bytes us))
      (ap (λ (x : List ℕ). written x 16 (le32 (i + length us))) (sym front) ∙ put_count s st m n F (bytes_of completion_bytes ts) (i + length us))
      ∙ ap (λ (k : ℕ). written (written s 0 (layout st m (i + length us) F (bytes_of completion_bytes ts))) k (bytes_of completion_bytes us)) end
      ∙ sym (written-append s 0 (layout st m (i + length us) F (bytes_of completion_bytes ts)) (bytes_of completion_bytes us))
      ∙ ap (λ (x : List ℕ). written s 0 x) (sym (layout-split (i + length us) ts us) ∙ with_records_lem (ts ++ us) (i + length us) count)

  -- the same for the clients' table
  pub floors-stored : (fs : List Floor) (i : ℕ) (vs : List ℕ) → i + length vs ≤ floor_row * client_count
      → written (padded floor_bytes floor_row client_count st.floors) i vs ≡ padded floor_bytes floor_row client_count fs
      → written (written (written s 0 (state_bytes st)) (floors_start + i) vs) 12 (le32 (length fs)) ≡ written s 0 (state_bytes (with_floors fs st))
  floors-stored fs i vs h e =
      let m : ℕ = length st.floors in
      let n : ℕ = length st.records in
      let R : List ℕ = bytes_of completion_bytes st.records in
      let lf : length F ≡ floor_row * client_count = padded-length floor_codec client_count st.floors f.floors-count in
      ap (λ (x : List ℕ). written (written (written s 0 x) (floors_start + i) vs) 12 (le32 (length fs))) (sym (layout-state st))
      ∙ ap (λ (x : List ℕ). written x 12 (le32 (length fs))) (put-floors s st m n F R f.plan-count f.points-count i vs (omega arith) ∙ ap (λ (x : List ℕ). written s 0 (layout st m n x R)) e)
      ∙ put-clients s st m n (padded floor_bytes floor_row client_count fs) R (length fs)
      ∙ ap (λ (x : List ℕ). written s 0 x) (with_floors_lem fs (length fs) refl)

-- ---- one state over another

-- a longer one, or one of as many rows
pub stored-over : (s : List ℕ) (a b : State) → StateFits a → StateFits b → length a.records ≤ length b.records
    → written (written s 0 (state_bytes a)) 0 (state_bytes b) ≡ written s 0 (state_bytes b)
stored-over s a b f g h = written_cover s 0 (state_bytes a) (state_bytes b) (omega (arith, state-length a f, state-length b g))

-- any one, where the first has the buffer's own rows: what it stored past the other's last row stood there
pub stored-own : (s : List ℕ) (st a b : State) → StateFits st → StateFits a → StateFits b → written s 0 (state_bytes st) ≡ s → a.records ≡ st.records
    → written (written s 0 (state_bytes a)) 0 (state_bytes b) ≡ written s 0 (state_bytes b)
stored-own s st a b f fa fb same own =
    let R : List ℕ = bytes_of completion_bytes st.records in
    let A : List ℕ = layout a (length a.floors) (length a.records) (padded floor_bytes floor_row client_count a.floors) (bytes_of completion_bytes []) in
    let S : List ℕ = layout st (length st.floors) (length st.records) (padded floor_bytes floor_row client_count st.floors) (bytes_of completion_bytes []) in
    let la : length A ≡ records_start = layout-end s a fa (length a.records) [] ∙ omega arith in
    let ls : length S ≡ records_start = layout-end s st f (length st.records) [] ∙ omega arith in
    let ea : state_bytes a ≡ A ++ R = sym (layout-state a) ∙ layout-split s a fa (length a.records) [] a.records ∙ ap (λ (x : List Completion). A ++ bytes_of completion_bytes x) own in
    let es : state_bytes st ≡ S ++ R = sym (layout-state st) ∙ layout-split s st f (length st.records) [] st.records in
    let rows : written s records_start R ≡ s = written_suffix s S R records_start ls (ap (λ (x : List ℕ). written s 0 x) (sym es) ∙ same) in
    let first : written s 0 (state_bytes a) ≡ written s 0 A =
    ap (λ (x : List ℕ). written s 0 x) ea
    ∙ written-append s 0 A R
    ∙ ap (λ (k : ℕ). written (written s 0 A) k R) (ap (λ (k : ℕ). 0 + k) la)
    ∙ written_comm s 0 A records_start R (omega arith)
    ∙ ap (λ (x : List ℕ). written x 0 A) rows in
    ap (λ (x : List ℕ). written x 0 (state_bytes b)) first ∙ written_cover s 0 A (state_bytes b) (omega (arith, state-length b fb))
