-- What a search of the completion records answers, and which of them a rule lets stay.
-- Assumes nothing.
use Rattle.std.specs.Prelude.{ℕ, ◌+◌, ◌*◌, ◌≤◌, ◌≡◌, Bool, ◌&&◌, not, List, map, length, Option, None, Some}
use Rattle.std.proofs.Math.Option.{Option as Maybe, none, some}
use Rattle.model.specs.declared.Floor.{Floor}
use Rattle.model.specs.declared.ImageHead.{ImageHead}
use Rattle.model.specs.declared.Completion.{Completion}
use Rattle.model.specs.Choice.{pick}
use Rattle.model.specs.Tables.{bytes_of, keep, index_of, written}
use Rattle.model.specs.Images.{image_at}
use Rattle.model.specs.States.{State, load, records_start, record_row, completion_bytes}
use Rattle.model.specs.Apply.{stays_over, stays_over_floors, is_of_other, is_on_other, taken_record}
use Rattle.state_records.specs.declared.Rule.{Rule}
use Rattle.state_records.specs.declared.Rule.TheVariants.{OverFloor, OfOther, OnOther, Beside}

-- the model's answer as the code's
unfoldable pub found_of : Maybe Completion → Option Completion
found_of none = None
found_of (some r) = Some r

-- a record stays, by a rule and the floors of the state
unfoldable pub stays_by : Rule → List Floor → Completion → Bool
stays_by (OverFloor x n) fs = stays_over x n
stays_by (OfOther x) fs = is_of_other x
stays_by (OnOther p) fs = is_on_other p
stays_by (Beside p) fs = λ r. is_on_other p r && stays_over_floors fs r

-- how many elements in front pass a test, before the first that does not
unfoldable pub front : {A : Type 0} → (A → Bool) → List A → ℕ
front t rs = index_of (λ r. not (t r)) rs

-- the completion records of a state that stay by a rule, in their order
abbrev pub kept_by : Rule → State → List Completion
kept_by rule st = keep (stays_by rule st.floors) st.records

-- the completion records that an image brings, those under a floor of the state apart; `end` is the end of the take's log record
abbrev pub brought : State → ImageHead → ℕ → List ℕ → List Completion
brought st h end image = keep (stays_over_floors st.floors) (map (taken_record h.point end) (image_at h image).entries)

-- ---- what a change of the table's bytes s leaves: t, and a number of rows

-- the record r as the row of index j, if it stays
abbrev pub PutKept : Bool → ℕ → Completion → List ℕ → List ℕ → ℕ → Type 0
PutKept stay j r s t n = (t ≡ pick stay (written s (records_start + record_row * j) (completion_bytes r)) s) × (n ≡ pick stay (j + 1) j)

-- those of n rows that stay, at the front
abbrev pub CompactedBy : Rule → ℕ → List ℕ → List ℕ → ℕ → Type 0
CompactedBy rule n s t j =
    (t ≡ written s records_start (bytes_of completion_bytes (kept_by rule (load s)))) × (j ≡ length (kept_by rule (load s))) × (j ≤ n)

-- what an image brings, behind n rows
abbrev pub PutEntries : ImageHead → ℕ → List ℕ → ℕ → List ℕ → List ℕ → ℕ → Type 0
PutEntries h end image n s t j =
    (t ≡ written s (records_start + record_row * n) (bytes_of completion_bytes (brought (load s) h end image)))
    × (j ≡ n + length (brought (load s) h end image))
