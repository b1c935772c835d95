-- A state's parts, at their places in the buffer; and one part stored.
--     floors-count, records-count                  the counts in the head are the tables' lengths
--     point-there, entry-there, client-there, record-there     a row of a table, by its index
--     heard-put, size-put, mark-put, point-put     one store into a canonical buffer
-- Assumes nothing.
use Prim.Native.Nat.{ℕ, ◌+◌, ◌*◌, ◌<◌}
use mathlib.Core.Path.{◌≡◌, sym, ap, ◌∙◌}
use mathlib.Core.List.{List}
use native.Mathlib.Omega.{arith}
use lib.ListN.{length, drop, get_or}
use lib.Seq.{drop-drop}
use Rattle.model.specs.declared.Floor.{Floor}
use Rattle.model.specs.declared.Point.{Point}
use Rattle.model.specs.declared.Completion.{Completion}
use Rattle.model.specs.Limits.{point_count, plan_row, floor_row, client_count}
use Rattle.model.specs.Numbers.{le32, le64}
use Rattle.model.specs.Tables.{bytes_of, rows, written}
use Rattle.model.specs.Plan.{entry_at, no_entry, plan_entry_of}
use Rattle.model.specs.Images.{floor_of_bytes, floor_bytes}
use Rattle.model.specs.States.{load, clients_in, records_in, point_at, no_point, point_of, point_bytes, completion_of, completion_bytes, padded, state_head, points_start, floors_start, records_start, point_row, record_row}
use Rattle.model.specs.Apply.{with_mark}
use Rattle.model.specs.Operations.{stored}
use Rattle.model_laws.specs.Layout.{layout, with_heard, with_size, with_point}
use Rattle.model_laws.proofs.Tables.{length-rows, get_d_rows}
use Rattle.model_laws.proofs.Stores.{layout-state, put-heard, put-size, put-mark, put-point}
use Rattle.state_rows.specs.Canonical.{Canonical}

-- ---- reads

pub floors-count : (s : List ℕ) → length (load s).floors ≡ clients_in s
unfolding load
floors-count s = length-rows floor_of_bytes floor_row (clients_in s) (drop floors_start s)

pub records-count : (s : List ℕ) → length (load s).records ≡ records_in s
unfolding load
records-count s = length-rows completion_of record_row (records_in s) (drop records_start s)

row : {A : Type 0} (dec : List ℕ → A) (w n k i : ℕ) (s : List ℕ) (d : A) → i < n → get_or (rows dec w n (drop k s)) i d ≡ dec (drop (k + w * i) s)
row dec w n k i s d h = get_d_rows dec w n (drop k s) i d h ∙ ap dec (drop-drop (w * i) k s)

pub point-there : (s : List ℕ) (p : ℕ) → p < point_count → point_at (load s) p ≡ point_of (drop (points_start + point_row * p) s)
unfolding load point_at
point-there s p h = row point_of point_row point_count points_start p s no_point h

pub entry-there : (s : List ℕ) (p : ℕ) → p < point_count → entry_at (load s).plan p ≡ plan_entry_of (drop (state_head + plan_row * p) s)
unfolding load entry_at
entry-there s p h = row plan_entry_of plan_row point_count state_head p s no_entry h

pub client-there : (s : List ℕ) (i : ℕ) (d : Floor) → i < length (load s).floors → get_or (load s).floors i d ≡ floor_of_bytes (drop (floors_start + floor_row * i) s)
client-there s i d h = let k : i < clients_in s = omega (arith, floors-count s) in unfold load in row floor_of_bytes floor_row (clients_in s) floors_start i s d k

pub record-there : (s : List ℕ) (i : ℕ) (d : Completion) → i < length (load s).records → get_or (load s).records i d ≡ completion_of (drop (records_start + record_row * i) s)
record-there s i d h = let k : i < records_in s = omega (arith, records-count s) in unfold load in row completion_of record_row (records_in s) records_start i s d k

-- ---- stores

module _ (s : List ℕ) (w : Canonical s) where
  abbrev m : ℕ
  m = length (load s).floors

  abbrev n : ℕ
  n = length (load s).records

  abbrev F : List ℕ
  F = padded floor_bytes floor_row client_count (load s).floors

  abbrev R : List ℕ
  R = bytes_of completion_bytes (load s).records

  -- a store into the bytes of the state
  in_layout : (k : ℕ) (vs : List ℕ) → written s k vs ≡ written (written s 0 (layout (load s) m n F R)) k vs
  in_layout k vs = ap (λ (x : List ℕ). written x k vs) (sym (rw (layout-state (load s)) w.same))

  pub heard-put : (t : ℕ) → written s 8 (le32 t) ≡ stored s (with_heard t (load s))
  unfolding stored with_heard
  heard-put t = in_layout 8 (le32 t) ∙ put-heard s (load s) m n F R t ∙ ap (λ (x : List ℕ). written s 0 x) (layout-state (with_heard t (load s)))

  pub size-put : (k : ℕ) → written s 24 (le64 k) ≡ stored s (with_size k (load s))
  unfolding stored with_size
  size-put k = in_layout 24 (le64 k) ∙ put-size s (load s) m n F R k ∙ ap (λ (x : List ℕ). written s 0 x) (layout-state (with_size k (load s)))

  pub mark-put : (k : ℕ) → written s 32 (le64 k) ≡ stored s (with_mark k (load s))
  unfolding stored with_mark
  mark-put k = in_layout 32 (le64 k) ∙ put-mark s (load s) m n F R k ∙ ap (λ (x : List ℕ). written s 0 x) (layout-state (with_mark k (load s)))

  pub point-put : (p : ℕ) (x : Point) → p < point_count → written s (points_start + point_row * p) (point_bytes x) ≡ stored s (with_point p x (load s))
  unfolding stored with_point
  point-put p x h =
      in_layout (points_start + point_row * p) (point_bytes x)
      ∙ put-point s (load s) m n F R w.fits.plan-count p x (rw w.fits.points-count h)
      ∙ ap (λ (y : List ℕ). written s 0 y) (layout-state (with_point p x (load s)))
