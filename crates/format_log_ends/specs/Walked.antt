-- The first walk from a place of the log on: the ends of the records, and its answer.
-- Assumes nothing.
use Rattle.std.specs.Prelude.{ℕ, List, length, drop}
use Rattle.std.proofs.Math.Option.{Option, none, some}
use Rattle.model.specs.declared.LogEnd.{LogEnd}
use Rattle.model.specs.Refusals.{bad_log, no_refusal}
use Rattle.model.specs.Logs.{walk_ends, last_of}

abbrev pub ends_from : List ℕ → ℕ → Option (List ℕ)
ends_from log at = walk_ends (length log) at (drop at log)

-- the refusal's number, 0 for none, and the end
abbrev pub log_end : ℕ → ℕ → LogEnd
log_end n e = record { refusal = n; end = e }

abbrev pub refused_end : LogEnd
refused_end = log_end bad_log 0

abbrev pub end_at : ℕ → LogEnd
end_at e = log_end no_refusal e

-- by the ends behind place k
unfoldable pub end_by : ℕ → Option (List ℕ) → LogEnd
end_by k none = refused_end
end_by k (some es) = end_at (last_of k es)

unfoldable pub end_from : List ℕ → ℕ → LogEnd
end_from log at = end_by at (ends_from log at)
