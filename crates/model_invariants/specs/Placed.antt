-- A server with checkpoints as one without them whose log places are renamed. With b the bytes of the records that its checkpoints replaced,
-- its state is that of the whole log since founding, each place seen from the tail.
-- Assumes nothing.
use Rattle.std.specs.Prelude.{ℕ, ◌+◌, ◌-◌, ◌≤◌, ◌≡◌, List, map, eqb}
use Rattle.model.specs.Choice.{pick, refuse, deny, reply, append, marks}
use Rattle.model.specs.Limits.{head_size}
use Rattle.model.specs.Logs.{Entry}
use Rattle.model.specs.States.{State, is_synced}
use Rattle.model.specs.Decisions.{Decided}
use Rattle.model.specs.Checkpoints.{placed}

-- a place e of the whole log in the tail behind b bytes of records: 8 where a checkpoint replaced it; 0 is no place
unfoldable pub local : ℕ → ℕ → ℕ
local b e = pick (eqb e 0) 0 (head_size + (e - (b + head_size)))

-- the state of the whole log as the tail has it
unfoldable pub seen_from : ℕ → State → State
seen_from b st = placed (local b) st

-- an entry of the tail in the whole log; its record is the same
abbrev pub later_entry : ℕ → Entry → Entry
later_entry b e = record { item = e.item; end = b + e.end }

unfoldable pub later : ℕ → List Entry → List Entry
later b es = map (later_entry b) es

-- a mark of the tail in the whole log; other decisions hold no place
unfoldable pub marks_from : ℕ → Decided → Decided
marks_from b (refuse n) = refuse n
marks_from b (deny n s) = deny n s
marks_from b (reply s) = reply s
marks_from b (append r) = append r
marks_from b (marks m) = marks (b + m)

-- with the mark there, f keeps which places are synced
abbrev pub KeepsSynced : (ℕ → ℕ) → ℕ → Type 0
KeepsSynced f mark = (e : ℕ) → is_synced (f mark) (f e) ≡ is_synced mark e

-- an entry ends behind the log's head
abbrev pub PastHead : Entry → Type 0
PastHead e = head_size ≤ e.end
