-- Runs of stores that restore a state.
--     point-runs, record-runs       a row and its ends
--     Filled, filled-..             a loop that stores rows
--     client-runs                   the clients, and zeros past their rows
--     head-runs, restored-runs      the head; head and tables, one behind the other
-- Assumes nothing.
use Prim.Native.Nat.{ℕ, ◌+◌, ◌-◌, ◌*◌, ◌/◌, ◌≤◌, ◌<◌}
use mathlib.Core.Path.{◌≡◌, refl, sym, ap, ◌∙◌}
use mathlib.Core.List.{List, ◌++◌, append_assoc}
use native.Mathlib.Omega.{arith}
use native.Mathlib.Nat.{add-zero}
use lib.ListN.{length, get_or, take, drop, replicate, length-drop, length-replicate}
use lib.Seq.{get_or-drop, drop-drop}
use lib.Dec.{eqb, leb}
use Rattle.model.specs.Choice.{pick}
use Rattle.model.specs.Numbers.{le32_at, le32, le64, quad}
use Rattle.model.specs.Limits.{head_size, plan_size, point_count, client_count, floor_row, checkpoint_head, checkpoint_point, checkpoint_record}
use Rattle.model.specs.Tables.{rows, bytes_of, written}
use Rattle.model.specs.States.{given, state_magic, clients_place, records_place, length_place, mark_place, state_head, points_start, floors_start, records_start, point_row, padded}
use Rattle.model.specs.Checkpoints.{plan_part, points_part, clients_part, records_part, record_width, clients_of, records_size_in, records_of, point_whole, record_whole, fronts, restored_bytes}
use Rattle.model_laws.specs.Bytes.{part}
use Rattle.model_laws.specs.Runs.{last, run, stored_by, bytes_by}
use Rattle.model_laws.proofs.Numbers.{le32-drop, length-le64}
use Rattle.model_laws.proofs.Written.{length-written, written_none, run-behind, runs-stored}
use Rattle.model_laws.proofs.Tables.{rows_snoc, bytes_of-append, bytes_of-one}
use Rattle.model_laws.proofs.Fronts.{fronts-take, length-fronts, point-whole-width}
use Rattle.model_laws.proofs.Checkpoints.{Framed}
use Rattle.state_restore.specs.Parts.{head_restored}
use Rattle.state_restore.proofs.Lengths.{length_part, rows-length, padded-length, head-length}

-- ---- rows

pub point-runs : (s : List ℕ) (to : ℕ) (t : List ℕ) (from : ℕ) {g h : ℕ} → from + checkpoint_point ≤ length t → g ≡ pick (leb given (get_or t from 0)) head_size 0
    → h ≡ pick (eqb (le32_at t (from + 12)) 0) 0 head_size
    → written (written (written s to (part from checkpoint_point t)) (to + 16) (le64 g)) (to + 24) (le64 h) ≡ written s to (point_whole (drop from t))
unfolding point_whole stored_by bytes_by
point-runs s to t from {g} {h} l p q =
    let status : get_or (drop from t) 0 0 ≡ get_or t from 0 = get_or-drop from t 0 0 ∙ ap (λ (k : ℕ). get_or t k 0) (add-zero from) in
    let front : to + length (part from checkpoint_point t) ≡ to + 16 = ap (λ (k : ℕ). to + k) (length_part from checkpoint_point t l) in
    let give : to + 16 + length (le64 g) ≡ to + 24 = rw length-le64 (omega arith) in
    runs-stored s to (run (part from checkpoint_point t) (to + 16) front (run (le64 g) (to + 24) give (last (le64 h))))
    ∙ rw (p, q, status, le32-drop from t 12)

pub record-runs : (s : List ℕ) (to : ℕ) (t : List ℕ) (from w : ℕ) → from + w ≤ length t → w ≤ checkpoint_record
    → written (written (written s to (part from w t)) (to + w) (replicate (to + checkpoint_record - (to + w)) 0)) (to + checkpoint_record) (le64 head_size)
    ≡ written s to (record_whole w (drop from t))
unfolding record_whole stored_by bytes_by
record-runs s to t from w l h =
    let gap : to + checkpoint_record - (to + w) ≡ checkpoint_record - w = omega arith in
    let zeros : List ℕ = replicate (checkpoint_record - w) 0 in
    let front : to + length (part from w t) ≡ to + w = ap (λ (k : ℕ). to + k) (length_part from w t l) in
    let fill : to + w + length zeros ≡ to + checkpoint_record = omega (arith, length-replicate {A = ℕ} (checkpoint_record - w) 0) in
    rw gap (runs-stored s to (run (part from w t) (to + w) front (run zeros (to + checkpoint_record) fill (last (le64 head_size)))))

-- ---- a loop over rows

-- the first i of n rows of v bytes from k of the slice t were stored from a on, w bytes each
pub record Filled (enc : List ℕ → List ℕ) (v w k a n : ℕ) (s₀ t s : List ℕ) (i : ℕ) : Type 0 where
  pub below : i ≤ n
  pub same : length s ≡ length s₀
  pub bytes : s ≡ written s₀ a (bytes_of enc (fronts v i (drop k t)))

module _ (enc : List ℕ → List ℕ) (v w : ℕ) (long : (s : List ℕ) → v ≤ length s → length (enc s) ≡ w) where
  pub filled-start : (k a n : ℕ) (s t : List ℕ) → Filled enc v w k a n s t s 0
  unfolding fronts rows bytes_of
  filled-start k a n s t = record { below = omega arith; same = refl; bytes = sym (written_none s a) }

  pub filled_next : {k a n : ℕ} {s₀ t s s' : List ℕ} {i : ℕ} → Filled enc v w k a n s₀ t s i → i < n → k + v * i ≤ length t → s' ≡ written s (a + w * i) (enc (drop (k + v * i) t))
      → Filled enc v w k a n s₀ t s' (i + 1)
  filled_next {k} {a} {n} {s₀} {t} {s} {s'} {i} o h b q =
      let rs : List (List ℕ) = fronts v i (drop k t) in
      let x : List ℕ = drop (k + v * i) t in
      let l : length (bytes_of enc rs) ≡ w * i = rows-length enc v w long i (drop k t) (rw length-drop (omega arith)) in
      let one : bytes_of enc rs ++ enc x ≡ bytes_of enc (fronts v (i + 1) (drop k t)) =
      unfold fronts in rw (rows_snoc (λ (r : List ℕ). r) v i (drop k t), bytes_of-append, bytes_of-one, drop-drop (v * i) k t) in
      record {
        below = omega arith;
        same = rw (q, length-written) o.same;
        bytes =
            q
            ∙ ap (λ (y : List ℕ). written y (a + w * i) (enc x)) o.bytes
            ∙ run-behind s₀ a (bytes_of enc rs) (enc x) l refl
            ∙ ap (λ (y : List ℕ). written s₀ a y) one;
      }

-- ---- tables

pub client-runs : (s t : List ℕ) (n : ℕ) → records_part n ≤ length t → n ≤ client_count
    → written (written s floors_start (part clients_part (floor_row * n) t)) (floors_start + floor_row * n) (replicate (records_start - (floors_start + floor_row * n)) 0)
    ≡ written s floors_start (padded (take floor_row) floor_row client_count (fronts floor_row n (drop clients_part t)))
unfolding padded
client-runs s t n h f =
    let us : List ℕ = part clients_part (floor_row * n) t in
    let k : records_start - (floors_start + floor_row * n) ≡ floor_row * (client_count - n) = omega arith in
    ap (λ (m : ℕ). written (written s floors_start us) (floors_start + floor_row * n) (replicate m 0)) k
    ∙ run-behind s floors_start us (replicate (floor_row * (client_count - n)) 0) (length_part clients_part (floor_row * n) t h) refl
    ∙ rw (length-fronts floor_row n (drop clients_part t), fronts-take)

-- ---- the head and the whole

pub head-runs : (s t : List ℕ) (n m : ℕ) → checkpoint_head ≤ length t
    → written (written (written (written (written (written (written s 0 state_magic) 4 (part 4 8 t)) 12 (le32 n)) 16 (le32 m)) 20 (quad 0 0 0 0)) 24 (le64 head_size)) 32 (le64 head_size)
    ≡ written s 0 (head_restored n m t)
unfolding head_restored stored_by bytes_by
head-runs s t n m h =
    let size : 24 + length (le64 head_size) ≡ 32 = rw length-le64 in
    runs-stored s 0
    (run state_magic 4 refl
    (run (part 4 8 t) clients_place (ap (λ (x : ℕ). 4 + x) (length_part 4 8 t (omega arith)))
    (run (le32 n) records_place refl (run (le32 m) 20 refl (run (quad 0 0 0 0) length_place refl (run (le64 head_size) mark_place size (last (le64 head_size))))))))

-- what follows the last of seven
regroup : (a b c d e f g x : List ℕ) → a ++ (b ++ (c ++ (d ++ (e ++ (f ++ (g ++ x)))))) ≡ (a ++ (b ++ (c ++ (d ++ (e ++ (f ++ g)))))) ++ x
regroup a b c d e f g x = rw (append_assoc, append_assoc, append_assoc, append_assoc, append_assoc, append_assoc)

module _ (t : List ℕ) (i : Framed t) where
  abbrev n : ℕ
  n = clients_of t

  abbrev m : ℕ
  m = records_of t

  abbrev plan_bytes : List ℕ
  plan_bytes = part plan_part plan_size t

  abbrev points : List ℕ
  points = bytes_of point_whole (fronts checkpoint_point point_count (drop points_part t))

  abbrev clients : List ℕ
  clients = padded (take floor_row) floor_row client_count (fronts floor_row n (drop clients_part t))

  abbrev records : List ℕ
  records = bytes_of (record_whole (record_width t)) (fronts (record_width t) m (drop (records_part n) t))

  parts : restored_bytes t ≡ head_restored n m t ++ (plan_bytes ++ (points ++ (clients ++ records)))
  unfolding restored_bytes head_restored
  parts = regroup state_magic (take 8 (drop 4 t)) (le32 n) (le32 m) (quad 0 0 0 0) (le64 head_size) (le64 head_size) (plan_bytes ++ (points ++ (clients ++ records)))

  plan-length : length plan_bytes ≡ plan_size
  plan-length = length_part plan_part plan_size t (omega (arith, i.whole))

  points-length : length points ≡ point_row * point_count
  points-length = rows-length point_whole checkpoint_point point_row point-whole-width point_count (drop points_part t) (rw length-drop (omega (arith, i.whole)))

  clients-length : length clients ≡ floor_row * client_count
  clients-length =
      padded-length (take floor_row) floor_row floor_row (length_part 0 floor_row) n client_count (drop clients_part t) i.few_clients (rw length-drop (omega (arith, i.whole)))

  -- as the calls leave it, with the width and the counts that were read
  pub restored-runs : (s : List ℕ) {c w k : ℕ} {s1 s2 s3 s4 s5 : List ℕ} → c ≡ n → w ≡ record_width t → k ≡ records_size_in t / w
      → s1 ≡ written s 0 (head_restored c k t) → s2 ≡ written s1 state_head plan_bytes
      → s3 ≡ written s2 points_start points → s4 ≡ written s3 floors_start (padded (take floor_row) floor_row client_count (fronts floor_row c (drop clients_part t)))
      → s5 ≡ written s4 records_start (bytes_of (record_whole w) (fronts w k (drop (records_part c) t))) → s5 ≡ written s 0 (restored_bytes t)
  unfolding stored_by bytes_by records_of
  restored-runs s p v q a b d e f =
      rw (f, e, d, b, a, p, q, v)
      (runs-stored s 0
      (run (head_restored n m t) state_head (omega (arith, head-length n m t (omega (arith, i.whole))))
      (run plan_bytes points_start (ap (λ (x : ℕ). state_head + x) plan-length)
      (run points floors_start (ap (λ (x : ℕ). points_start + x) points-length)
      (run clients records_start (ap (λ (x : ℕ). floors_start + x) clients-length) (last records)))))
      ∙ ap (λ (x : List ℕ). written s 0 x) (sym parts))
