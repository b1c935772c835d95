-- What is left to show of `server_recover::replay::replay_log`.
use native.Mathlib.Omega.{arith}
use borrow.Author.Rules.{rules}
use Rattle.server_recover.proofs.Steps.{on_start, on_done, on_place, on_spans, on_stop, on_next}
use Rattle.server_recover.proofs.replay.replay_log.Goals as goal

pub loop-at-init : goal.loop-at-init
loop-at-init c = record {
  ahead = search rules;
  finite = search rules;
  on = rw c.into_iter-at-iterator.ensures.into_iter_gives (on_start _ c.requires.0 c.whole_records-at-items.ensures);
}

pub replay_record-requires : goal.replay_record-requires
replay_record-requires c =
    (on_place c.loop-at.invariant.on c.in-Some.ensures.steps, on_spans c.loop-at.invariant.on c.in-Some.ensures.steps)

pub returns-then-not-replay_record : goal.returns-then-not-replay_record
returns-then-not-replay_record c =
    on_stop c.loop-at.invariant.on c.in-Some.ensures.steps c.replay_record.ensures c.if-not-replay_record.true

pub loop-at-preserved : goal.loop-at-preserved
loop-at-preserved c = record {
  ahead = search rules;
  finite = search rules;
  on = on_next c.loop-at.invariant.on c.in-Some.ensures.steps c.replay_record.ensures
      (search rules) (omega arith) c.if-not-replay_record.false (search rules);
}

pub returns : goal.returns
returns c = on_done c.loop-at.invariant.on c.loop-at.invariant.ahead c.in-None.ensures.steps
