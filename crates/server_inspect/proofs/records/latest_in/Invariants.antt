-- The invariants of `server_inspect::records::latest_in`.
use Rattle.server_inspect.proofs.Latest.{Walking}
use Rattle.server_inspect.proofs.records.latest_in.Given as goal

abbrev pub invariant-loop-at : goal.invariant-loop-at
invariant-loop-at l = record {
  ahead : goal.iterator-loop-at.can_next l.at-iterator;
  finite : goal.iterator-loop-at.is_finite l.at-iterator;
  walking : Walking l.client l.call l.log l.initial.found l.at-iterator l.found;
}
