-- The invariants of `format_log_ends::records_end`.
use Prim.Native.Nat.{◌-◌}
use mathlib.Core.Path.{◌≡◌}
use lib.ListN.{length}
use Rattle.model.specs.Limits.{head_size}
use Rattle.format_log_ends.specs.Walked.{end_from}
use Rattle.format_log_ends.proofs.records_end.Given as goal

abbrev pub invariant-loop-n : goal.invariant-loop-n
invariant-loop-n l = end_from l.log head_size ≡ end_from l.log l.at

abbrev pub decreases-loop-n : goal.decreases-loop-n
decreases-loop-n l = length l.log - l.at
