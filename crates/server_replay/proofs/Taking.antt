-- A take on the state in a buffer.
--     took-follows                  the tests of a take
--     imaged-size, imaged_ascend    what a well-formed image has
--     took-place, took-room         the point of a take; the tables have room for it
-- Assumes nothing.
use Prim.Native.Nat.{ℕ, ◌+◌, ◌*◌, ◌≤◌, ◌<◌}
use mathlib.Core.Path.{◌≡◌, ap, ◌∙◌}
use mathlib.Core.Bool.{true, ◌&&◌}
use mathlib.Core.List.{List}
use native.Mathlib.Omega.{arith}
use lib.ListN.{length, drop}
use lib.Dec.{eqb}
use borrow.Author.Tests.{le-ltb}
use Rattle.model.specs.declared.ImageHead.{ImageHead}
use Rattle.model.specs.Limits.{last_point, client_count, record_count, take_head, least_image, floor_row}
use Rattle.model.specs.Numbers.{word}
use Rattle.model.specs.Tables.{rows, every}
use Rattle.model.specs.Plan.{entry_at}
use Rattle.model.specs.Images.{Image, length_by, image_at, image_head_of, image_in_range, image_length, image_tables_ok, floor_of_bytes, floor_ok, clients_ascend, image_entry_ok, ids_ascend}
use Rattle.model.specs.Logs.{took}
use Rattle.model.specs.States.{State, load, point_at}
use Rattle.model.specs.Apply.{merge_floors, apply_took, apply_record}
use Rattle.model.specs.Decisions.{free_for, take_refusal, take_tests, follows}
use Rattle.model.specs.Choice.{passed}
use Rattle.model_laws.proofs.Tests.{and_left, and_right}
use Rattle.model_laws.proofs.Images.{tested}
use Rattle.model_invariants.specs.Sound.{Sound}
use Rattle.format_image_reader.proofs.Whole.{ok-size}
use Rattle.server_replay.specs.Standing.{Ready}
use Rattle.server_replay.proofs.Rooms.{ready_sound}
use Rattle.server_replay.specs.Imaged.{Imaged}

-- ---- the tests of a take

-- room for just the record, of whatever size
took-tests : (st : State) (i : Image) → take_refusal (point_at st i.point) st.server i.destination i.move_number (image_in_range (entry_at st.plan i.point) i)
    (every (free_for i.point st.records) i.entries) (length (merge_floors i.floors st.floors)) 0 0 ≡ take_tests st (take_head + image_length i) i
unfolding take_tests take_refusal
took-tests st i = let n : ℕ = take_head + image_length i in rw (le-ltb n n (omega arith))

module _ (st : State) (h : ImageHead) (image : List ℕ) where
  pub took-follows : {n : ℕ} → n ≡ take_refusal (point_at st h.point) st.server h.destination h.move_number (image_in_range (entry_at st.plan h.point) (image_at h image))
      (every (free_for h.point st.records) (image_at h image).entries) (length (merge_floors (image_at h image).floors st.floors)) 0 0
      → eqb n passed ≡ follows st (took (image_at h image))
  unfolding follows image_at
  took-follows e = ap (λ (k : ℕ). eqb k passed) (e ∙ took-tests st (image_at h image))

-- ---- a well-formed image

module _ (s : List ℕ) (h : ImageHead) (w : Imaged s h) where
  pub imaged-size : length_by h ≤ length s
  imaged-size = ok-size s w.ok w.head

  pub imaged_ascend : clients_ascend (rows floor_of_bytes floor_row h.floors (drop least_image s)) ≡ true
  unfolding image_tables_ok image_at
  imaged_ascend =
      let t = (tested s w.ok).tables in
      let j : Image = image_at (image_head_of s) s in
      let k = and_right (every floor_ok j.floors) (clients_ascend j.floors && (every (image_entry_ok j.point j.floors) j.entries && ids_ascend j.entries)) t in
      rw w.head (and_left (clients_ascend j.floors) (every (image_entry_ok j.point j.floors) j.entries && ids_ascend j.entries) k)

-- ---- a take that follows

module _ (s image : List ℕ) (h : ImageHead) (end : ℕ) (w : Ready s (took (image_at h image)) end) where
  pub took-place : h.point ≤ last_point
  unfolding image_at
  took-place = w.good.point

  pub took-room : end < word * word → true ≡ follows (load s) (took (image_at h image))
      → (length (apply_took (image_at h image) end (load s)).floors ≤ client_count) × (length (apply_took (image_at h image) end (load s)).records ≤ record_count)
  unfolding apply_record
  took-room z f = let S : Sound (apply_took (image_at h image) end (load s)) = ready_sound s (took (image_at h image)) end w z f in (S.clients, S.count)
