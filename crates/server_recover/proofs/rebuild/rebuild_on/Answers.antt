-- What is left to show of `server_recover::rebuild::rebuild_on`.
use Rattle.model.specs.States.{load}
use Rattle.format_log_ends.proofs.Walked.{log-end-refused, log-end-head, log-end-found}
use Rattle.server_recover.proofs.Rebuilding.{ended-standing, no_ends, no_replay, rebuilt_done}
use Rattle.server_recover.proofs.rebuild.rebuild_on.Goals as goal

pub returns-then-found-ne-NO_REFUSAL : goal.returns-then-found-ne-NO_REFUSAL
returns-then-found-ne-NO_REFUSAL c =
    let start = c.args in
    no_ends start.log.now (load start.work.now) start.work.now (log-end-refused _ c.log_end-found.ensures c.if-found-ne-NO_REFUSAL.true)

pub replay_log-requires : goal.replay_log-requires
replay_log-requires c =
    (c.requires.1, log-end-found _ c.log_end-found.ensures c.if-found-ne-NO_REFUSAL.false)

pub returns-then-not-replay_log : goal.returns-then-not-replay_log
returns-then-not-replay_log c =
    let start = c.args in
    no_replay start.work.now (log-end-head _ c.log_end-found.ensures c.if-found-ne-NO_REFUSAL.false) c.replay_log.ensures _ c.if-not-replay_log.true

pub set_mark-requires : goal.set_mark-requires
set_mark-requires c =
    (ended-standing _ _ _ _ c.replay_log.ensures c.if-not-replay_log.false).canonical

pub returns : goal.returns
returns c =
    rebuilt_done c.args.work.now (log-end-head _ c.log_end-found.ensures c.if-found-ne-NO_REFUSAL.false) c.replay_log.ensures c.if-not-replay_log.false
    c.size_of-size.ensures c.set_mark.ensures
