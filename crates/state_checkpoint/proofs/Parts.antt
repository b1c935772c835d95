-- The parts of a sound state's checkpoint with times, as they stand in the state; and the whole.
--     plan-part, points-part, clients-part, records-part     the bytes that are copied
--     points-written, records-written       the loops' results, lent parts aside
--     frame_runs, pairs-runs                stores of the head
--     checkpoint-runs, checkpoint-size      head and parts, one behind the other
-- Assumes nothing.
use Prim.Native.Nat.{ℕ, ◌+◌, ◌-◌, ◌*◌}
use mathlib.Core.Path.{◌≡◌, refl, sym, ap, ◌∙◌}
use mathlib.Core.Bool.{true}
use mathlib.Core.List.{List, ◌++◌}
use native.Mathlib.Omega.{arith}
use borrow.Rule.Slice.PartMut.{put_mid, mid_of}
use lib.ListN.{length, take, drop, length-drop}
use Rattle.model.specs.Limits.{point_count, plan_row, plan_size, floor_row, checkpoint_pairs, checkpoint_point, checkpoint_record}
use Rattle.model.specs.Numbers.{le32, quad}
use Rattle.model.specs.Tables.{bytes_of, written}
use Rattle.model.specs.Plan.{plan_entry_of, plan_bytes}
use Rattle.model.specs.Images.{floor_bytes}
use Rattle.model.specs.States.{State, load, clients_in, records_in, state_head, points_start, floors_start, records_start, point_row, record_row}
use Rattle.model.specs.Checkpoints.{checkpoint_magic, checkpoint_magic_of, checkpoint_record_of, plan_part, points_part, clients_part, records_part, pairs_bytes, point_front, record_front, checkpoint_bytes, fronts}
use Rattle.model_laws.specs.Bytes.{Bytes, part}
use Rattle.model_laws.specs.Runs.{last, run, stored_by, bytes_by}
use Rattle.model_laws.specs.Fits.{Sound}
use Rattle.model_laws.proofs.Numbers.{bytes_drop}
use Rattle.model_laws.proofs.Written.{run-behind, runs-stored, tail-part, tail-back}
use Rattle.model_laws.proofs.Tables.{length-rows, length-bytes_of, rows-again, every_row-true}
use Rattle.model_laws.proofs.Plans.{plan_codec, plan-length}
use Rattle.model_laws.proofs.Images.{floor_codec}
use Rattle.model_laws.proofs.States.{point_codec, completion_codec, load_fits}
use Rattle.model_laws.proofs.Checkpoints.{checkpoint-bytes-length}
use Rattle.state_rows.proofs.Access.{floors-count, records-count}
use Rattle.state_checkpoint.proofs.Fronts.{fronts-length, fronts-again}

-- ---- the bytes that are copied

module _ (s : List ℕ) (h : Bytes s) (d : Sound s) where
  pub plan-part : part state_head plan_size s ≡ plan_bytes (load s).plan
  unfolding load plan_bytes
  plan-part = sym (rows-again plan_codec point_count (drop state_head s) (bytes_drop state_head s h) (rw length-drop (omega (arith, d.long))) d.plan-rows)

  pub points-part : bytes_of (take checkpoint_point) (fronts point_row point_count (drop points_start s)) ≡ bytes_of point_front (load s).points
  unfolding load point_front
  points-part =
      fronts-again point_codec checkpoint_point (omega arith) point_count (drop points_start s) (bytes_drop points_start s h) (rw length-drop (omega (arith, d.long))) d.point-rows

  pub clients-part : part floors_start (floor_row * clients_in s) s ≡ bytes_of floor_bytes (load s).floors
  unfolding load
  clients-part =
      sym (rows-again floor_codec (clients_in s) (drop floors_start s) (bytes_drop floors_start s h) (rw length-drop (omega (arith, d.long, d.few_clients)))
      (every_row-true floor_row (clients_in s) (drop floors_start s)))

  pub records-part : bytes_of (take checkpoint_record) (fronts record_row (records_in s) (drop records_start s)) ≡ bytes_of (record_front checkpoint_record) (load s).records
  unfolding load record_front
  records-part =
      fronts-again completion_codec checkpoint_record (omega arith) (records_in s) (drop records_start s) (bytes_drop records_start s h) (rw length-drop (omega (arith, d.long, d.few_records)))
      (every_row-true record_row (records_in s) (drop records_start s))

  -- into the checkpoint's slice from a place, from the state's slice from another
  pub points-written : (t : List ℕ)
      → put_mid points_part (length t - points_part) t
      (written (mid_of points_part (length t - points_part) t) 0 (bytes_of (take checkpoint_point) (fronts point_row point_count (mid_of points_start (length s - points_start) s))))
      ≡ written t points_part (bytes_of point_front (load s).points)
  points-written t =
      tail-back points_part t (bytes_of (take checkpoint_point) (fronts point_row point_count (mid_of points_start (length s - points_start) s)))
      ∙ ap (λ (x : List ℕ). written t points_part x) (rw (tail-part points_start s) points-part)

  pub records-written : (t : List ℕ) (k : ℕ)
      → put_mid k (length t - k) t (written (mid_of k (length t - k) t) 0 (bytes_of (take checkpoint_record) (fronts record_row (records_in s) (mid_of records_start (length s - records_start) s))))
      ≡ written t k (bytes_of (record_front checkpoint_record) (load s).records)
  records-written t k =
      tail-back k t (bytes_of (take checkpoint_record) (fronts record_row (records_in s) (mid_of records_start (length s - records_start) s)))
      ∙ ap (λ (x : List ℕ). written t k x) (rw (tail-part records_start s) records-part)

-- ---- the head

pub frame_runs : (s : List ℕ) (n t : ℕ) → written (written (written s 0 checkpoint_magic) 4 (quad n 0 0 0)) 8 (le32 t) ≡ written s 0 (checkpoint_magic ++ (quad n 0 0 0 ++ le32 t))
frame_runs s n t =
    ap (λ (x : List ℕ). written x 8 (le32 t)) (run-behind s 0 checkpoint_magic (quad n 0 0 0) refl refl)
    ∙ run-behind s 0 (checkpoint_magic ++ quad n 0 0 0) (le32 t) refl refl

abbrev pair : ℕ → ℕ → List ℕ
pair k n = le32 k ++ le32 n

pub pairs-runs : (s : List ℕ) (n k : ℕ)
    → written (written (written (written s 12 (pair plan_part plan_size)) 20 (pair points_part (checkpoint_point * point_count))) 28 (pair clients_part (floor_row * n))) 36
    (pair (records_part n) (checkpoint_record * k))
    ≡ written s 12 (pairs_bytes checkpoint_record n k)
unfolding pairs_bytes stored_by bytes_by
pairs-runs s n k =
    runs-stored s checkpoint_pairs
    (run (pair plan_part plan_size) 20 refl
    (run (pair points_part (checkpoint_point * point_count)) 28 refl
    (run (pair clients_part (floor_row * n)) 36 refl
    (last (pair (records_part n) (checkpoint_record * k))))))

-- ---- the whole

abbrev frame : State → List ℕ
frame st = checkpoint_magic ++ (quad st.server 0 0 0 ++ le32 st.heard)

-- with the numbers of clients and completion records as they stand in the state's head
whole : (s : List ℕ) → checkpoint_bytes true (load s) ≡ frame (load s) ++ (pairs_bytes checkpoint_record (clients_in s) (records_in s)
    ++ (plan_bytes (load s).plan ++ (bytes_of point_front (load s).points ++ (bytes_of floor_bytes (load s).floors ++ bytes_of (record_front checkpoint_record) (load s).records))))
unfolding checkpoint_bytes checkpoint_magic_of checkpoint_record_of
whole s = rw (floors-count s, records-count s)

pairs-length : (n k : ℕ) → length (pairs_bytes checkpoint_record n k) ≡ 32
unfolding pairs_bytes
pairs-length n k = refl

module _ (s : List ℕ) (h : Bytes s) (d : Sound s) where
  plan-long : length (plan_bytes (load s).plan) ≡ plan_size
  unfolding load
  plan-long = plan-length (load s).plan (length-rows plan_entry_of plan_row point_count (drop state_head s))

  points-long : length (bytes_of point_front (load s).points) ≡ checkpoint_point * point_count
  points-long = ap length (sym (points-part s h d)) ∙ fronts-length checkpoint_point point_row point_count (drop points_start s) (omega arith) (rw length-drop (omega (arith, d.long)))

  clients-long : length (bytes_of floor_bytes (load s).floors) ≡ floor_row * clients_in s
  clients-long = length-bytes_of floor_codec (load s).floors ∙ ap (λ (n : ℕ). floor_row * n) (floors-count s)

  pub checkpoint-runs : (t : List ℕ)
      → written (written (written (written (written (written t 0 (frame (load s))) 12 (pairs_bytes checkpoint_record (clients_in s) (records_in s))) plan_part (plan_bytes (load s).plan)) points_part
      (bytes_of point_front (load s).points)) clients_part (bytes_of floor_bytes (load s).floors)) (records_part (clients_in s)) (bytes_of (record_front checkpoint_record) (load s).records)
      ≡ written t 0 (checkpoint_bytes true (load s))
  unfolding stored_by bytes_by
  checkpoint-runs t =
      runs-stored t 0
      (run (frame (load s)) checkpoint_pairs refl
      (run (pairs_bytes checkpoint_record (clients_in s) (records_in s)) plan_part (ap (λ (n : ℕ). checkpoint_pairs + n) (pairs-length (clients_in s) (records_in s)))
      (run (plan_bytes (load s).plan) points_part (ap (λ (n : ℕ). plan_part + n) plan-long)
      (run (bytes_of point_front (load s).points) clients_part (ap (λ (n : ℕ). points_part + n) points-long)
      (run (bytes_of floor_bytes (load s).floors) (records_part (clients_in s)) (ap (λ (n : ℕ). clients_part + n) clients-long)
      (last (bytes_of (record_front checkpoint_record) (load s).records)))))))
      ∙ ap (λ (x : List ℕ). written t 0 x) (sym (whole s))

  pub checkpoint-size : records_part (clients_in s) + checkpoint_record * records_in s ≡ length (checkpoint_bytes true (load s))
  unfolding checkpoint_record_of
  checkpoint-size = rw (checkpoint-bytes-length true (load s) (load_fits s h d), floors-count s, records-count s)
