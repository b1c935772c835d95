-- The invariants of `state_records::front`.
use mathlib.Core.Bool.{not}
use lib.ListN.{drop}
use Rattle.model.specs.Tables.{rows}
use Rattle.model.specs.States.{load, records_start, record_row, completion_of}
use Rattle.model_laws.specs.Sought.{Sought}
use Rattle.state_records.specs.Rules.{stays_by}
use Rattle.state_records.proofs.front.Given as goal

abbrev pub invariant-loop-i : goal.invariant-loop-i
invariant-loop-i l = Sought (λ r. not (stays_by l.rule (load l.s).floors r)) (rows completion_of record_row l.n (drop records_start l.s)) l.i
