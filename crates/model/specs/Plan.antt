-- The plan: an entry of 16 bytes for each point: three signed numbers, low ≤ fallback ≤ high (in the order low, high, fallback), the home
-- server, three zeros.
-- Assumes nothing.
use Rattle.std.specs.Prelude.{ℕ, Bool, ◌&&◌, List, ◌++◌, length, get_or, eqb, leb}
use Rattle.model.specs.declared.PlanEntry.{PlanEntry}
use Rattle.model.specs.Numbers.{half, byte_at, signed_at, signed32, zeros3_at, quad}
use Rattle.model.specs.Tables.{rows, every_row, bytes_of}
use Rattle.model.specs.Limits.{last_server, point_count, plan_size, plan_row}

-- the entry at the front of s, and an entry's bytes
unfoldable pub plan_entry_of : List ℕ → PlanEntry
plan_entry_of s = record { low = signed_at s 0; high = signed_at s 4; fallback = signed_at s 8; home = byte_at s 12 }

unfoldable pub plan_entry_bytes : PlanEntry → List ℕ
plan_entry_bytes e = signed32 e.low ++ (signed32 e.high ++ (signed32 e.fallback ++ quad e.home 0 0 0))

unfoldable pub plan_entry_ok : PlanEntry → Bool
plan_entry_ok e = leb e.home last_server && (leb e.low e.fallback && leb e.fallback e.high)

-- the row at the front of s is an entry
unfoldable pub plan_row_ok : List ℕ → Bool
plan_row_ok s = zeros3_at s 13 && plan_entry_ok (plan_entry_of s)

-- 1,024 bytes, and every entry as it should be; a slice of another length is a bad plan
unfoldable pub plan_ok : List ℕ → Bool
plan_ok s = eqb (length s) plan_size && every_row plan_row_ok plan_row point_count s

unfoldable pub plan_of : List ℕ → List PlanEntry
plan_of s = rows plan_entry_of plan_row point_count s

unfoldable pub plan_bytes : List PlanEntry → List ℕ
plan_bytes es = bytes_of plan_entry_bytes es

-- what a lookup past a plan's end gives: the range of 0 alone
abbrev pub no_entry : PlanEntry
no_entry = record { low = half; high = half; fallback = half; home = 0 }

unfoldable pub entry_at : List PlanEntry → ℕ → PlanEntry
entry_at es p = get_or es p no_entry

unfoldable pub in_range : PlanEntry → ℕ → Bool
in_range e a = leb e.low a && leb a e.high
