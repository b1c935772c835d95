-- The invariants of `server_recover::replay::replay_log`.
use Rattle.server_recover.proofs.Steps.{On}
use Rattle.server_recover.proofs.replay.replay_log.Given as goal

abbrev pub invariant-loop-at : goal.invariant-loop-at
invariant-loop-at l = record {
  ahead : goal.iterator-loop-at.can_next l.at-iterator;
  finite : goal.iterator-loop-at.is_finite l.at-iterator;
  on : On l.log l.initial.s l.s l.at-iterator;
}
