-- The records of a log that are still to come.
-- Assumes nothing.
use Rattle.std.specs.Prelude.{ℕ, ◌+◌, ◌-◌, ◌≤◌, ◌≡◌, List, Option, None, Some}
use Rattle.std.specs.Iterator.{Count, at_most}
use Rattle.model.specs.Limits.{head_size}
use Rattle.model.specs.Logs.{spans}
use Rattle.format_log_ends.specs.declared.whole.Records.{Records}
use Rattle.format_log_ends.specs.Answers.{extent_from}
use Rattle.format_log_ends.specs.Walked.{end_at, end_from}

-- the last of them ends where the walk ends
abbrev pub Ahead : Records → Type 0
Ahead r = end_from r.log.now r.at ≡ end_at r.end

abbrev pub ahead : Records → Count
ahead r = at_most (r.end - r.at)

abbrev pub from_head : List ℕ → ℕ → Records → Type 0
from_head log end r = (r.log.now ≡ log) × (r.at ≡ head_size) × (r.end ≡ end)

-- none is left, or the next is given by its place and its size
abbrev pub Stepped : Records → Option (ℕ × ℕ) → Records → Type 0
Stepped r None r' = (r.end ≤ r.at) × (r' ≡ r)
Stepped r (Some x) r' = (x.0 ≡ r.at) × (extent_from r.log.now x.0 ≡ spans x.1) × (r'.at ≡ x.0 + x.1) × (r'.log ≡ r.log) × (r'.end ≡ r.end)
