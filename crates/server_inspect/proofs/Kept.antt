-- The completion records of the state that a checkpoint keeps have the ids of the rows of its last part.
--     kept_index, kept-count     the index of an id among them; their number
--     kept-place                 where its row lies
-- Assumes nothing.
use Prim.Native.Nat.{ℕ, zero, suc, ◌+◌, ◌-◌, ◌*◌, ◌≤◌}
use mathlib.Core.Path.{◌≡◌, refl, sym, ap, ◌∙◌}
use mathlib.Core.List.{List, ◌++◌, append_assoc}
use native.Mathlib.Omega.{arith}
use native.Mathlib.Nat.{mul-suc}
use lib.ListN.{length, drop, replicate, length-drop}
use lib.Seq.{drop_at}
use lib.Dec.{ltb}
use borrow.Author.Tests.{le-leb}
use Rattle.model.specs.Choice.{pick}
use Rattle.model.specs.Refusals.{unknown}
use Rattle.model.specs.Numbers.{le32_at}
use Rattle.model.specs.Limits.{record_count, checkpoint_record}
use Rattle.model.specs.Tables.{rows, bytes_of, index_of}
use Rattle.model.specs.States.{records_start, record_row, records_in, completion_of, is_id, padded, load}
use Rattle.model.specs.Checkpoints.{records_part, record_width, clients_of, records_of, record_whole, fronts, restored}
use Rattle.model.specs.Checkpoints.{in_checkpoint, place_at, no_place, place_among, place_in_checkpoint}
use Rattle.model_laws.proofs.Numbers.{le32-take}
use Rattle.model_laws.proofs.Tables.{length-rows}
use Rattle.model_laws.proofs.Fronts.{record-whole-cut, record-whole-width, record-width}
use Rattle.model_laws.proofs.Checkpoints.{Framed}
use Rattle.model_laws.proofs.Restored.{restored-records, drop-floors}
use Rattle.server_inspect.specs.Places.{is_row_id}

-- ---- rows, and the state's rows made of them

-- the first bytes are the row's own
row_front : (w : ℕ) (s rest : List ℕ) (i : ℕ) → w ≤ length s → i + 4 ≤ w → le32_at (record_whole w s ++ rest) i ≡ le32_at s i
row_front w s rest i h l =
    sym (le32-take w (record_whole w s ++ rest) i l) ∙ ap (λ (x : List ℕ). le32_at x i) (record-whole-cut w s rest h) ∙ le32-take w s i l

module _ (w : ℕ) (low : 8 ≤ w) (high : w ≤ checkpoint_record) where
  index_wholes : (x c n : ℕ) (s rest : List ℕ) → w * n ≤ length s
      → index_of (is_id x c) (rows completion_of record_row n (bytes_of (record_whole w) (fronts w n s) ++ rest)) ≡ index_of (is_row_id x c) (fronts w n s)
  unfolding rows bytes_of fronts index_of is_id completion_of is_row_id
  index_wholes x c zero s rest h = refl
  index_wholes x c (suc n) s rest h =
      let m : w * suc n ≡ w + w * n = omega (arith, mul-suc w n) in
      let more : List ℕ = bytes_of (record_whole w) (fronts w n (drop w s)) ++ rest in
      let l : w ≤ length s = omega arith in
      rw (
        append_assoc,
        row_front w s more 0 l (omega arith),
        row_front w s more 4 l (omega arith),
        drop_at (record_whole w s) more record_row (record-whole-width w high s l),
      )
      (ap (λ (k : ℕ). pick (is_row_id x c s) 0 (suc k)) (index_wholes x c n (drop w s) rest (rw length-drop (omega arith))))

-- ---- in the restored bytes

module _ (t : List ℕ) (w : Framed t) where
  abbrev n : ℕ
  n = clients_of t

  abbrev m : ℕ
  m = records_of t

  abbrev own : List (List ℕ)
  own = fronts (record_width t) m (drop (records_part n) t)

  within-part : record_width t * m ≤ length (drop (records_part n) t)
  within-part = rw length-drop (omega (arith, w.whole))

  pub kept-count : length (load (restored t)).records ≡ m
  unfolding load
  kept-count = length-rows completion_of record_row (records_in (restored t)) (drop records_start (restored t)) ∙ restored-records t w

  pub kept_index : (x c : ℕ) → index_of (is_id x c) (load (restored t)).records ≡ index_of (is_row_id x c) own
  unfolding load padded
  kept_index x c =
      rw (restored-records t w, drop-floors t w)
      (index_wholes (record_width t) (record-width t).0 (record-width t).1 x c m (drop (records_part n) t) (replicate (record_row * (record_count - length own)) 0) within-part)

  pub kept-place : (x c : ℕ) {i : ℕ} → i ≡ index_of (is_row_id x c) own
      → pick (ltb i m) (place_at in_checkpoint (records_part n + record_width t * i) (record_width t)) (no_place unknown) ≡ place_in_checkpoint x c t
  unfolding place_in_checkpoint place_among
  kept-place x c e = rw (le-leb 1 (length t) (omega (arith, w.whole)), kept-count, kept_index x c, ← e)
