-- The invariants of `state_records::pass`.
use Prim.Native.Nat.{◌≤◌, ◌-◌, ◌+◌}
use lib.ListN.{drop}
use Rattle.model.specs.Tables.{rows}
use Rattle.model.specs.States.{records_start, record_row, completion_of, is_id}
use Rattle.model_laws.specs.Sought.{Sought}
use Rattle.state_records.proofs.pass.Given as goal

abbrev pub invariant-loop-i : goal.invariant-loop-i
invariant-loop-i l = (l.i ≤ l.n) × Sought (is_id l.client l.call) (rows completion_of record_row l.n (drop records_start l.s)) l.i

abbrev pub decreases-loop-i : goal.decreases-loop-i
decreases-loop-i l = l.n + 1 - l.i
