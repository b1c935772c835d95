-- What a take of an image with the head h rests on, and what its two parts leave. `end` is the log's length after its record.
-- Assumes nothing.
use Rattle.std.specs.Prelude.{ℕ, ◌≤◌, max, List, [], length}
use Rattle.model.specs.declared.ImageHead.{ImageHead}
use Rattle.model.specs.Limits.{last_point, client_count, record_count}
use Rattle.model.specs.Images.{image_at, length_by}
use Rattle.model.specs.States.{State, load}
use Rattle.model.specs.Apply.{took_point, apply_took}
use Rattle.model_laws.specs.Layout.{with_heard, with_size, with_point, with_floors, with_records}
use Rattle.state_rows.specs.Canonical.{Canonical}

-- the tables have room for what it leaves
abbrev pub RoomFor : List ℕ → List ℕ → ImageHead → ℕ → Type 0
RoomFor s image h end =
    Canonical s
    × (length_by h ≤ length image)
    × (length (apply_took (image_at h image) end (load s)).floors ≤ client_count)
    × (length (apply_took (image_at h image) end (load s)).records ≤ record_count)

-- and its point is one
abbrev pub TakesInto : List ℕ → List ℕ → ImageHead → ℕ → Type 0
TakesInto s image h end =
    Canonical s
    × (h.point ≤ last_point)
    × (length_by h ≤ length image)
    × (length (apply_took (image_at h image) end (load s)).floors ≤ client_count)
    × (length (apply_took (image_at h image) end (load s)).records ≤ record_count)

-- the state with the tables that it leaves
abbrev pub tabled : List ℕ → ImageHead → ℕ → State → State
tabled image h end st = with_records (apply_took (image_at h image) end st).records (with_floors (apply_took (image_at h image) end st).floors st)

-- the state with the point, heard time and log's length that it leaves
abbrev pub pointed : ImageHead → ℕ → State → State
pointed h end st = with_size end (with_heard (max st.heard h.heard) (with_point h.point (took_point (image_at h []) end) st))
