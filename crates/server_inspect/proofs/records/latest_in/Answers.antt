-- What is left to show of `server_inspect::records::latest_in`.
use borrow.Author.Rules.{rules}
use Rattle.server_inspect.proofs.Latest.{walking_start, walking_spans, walking_next, walking_done}
use Rattle.server_inspect.proofs.records.latest_in.Goals as goal

pub latest_of-found-requires : goal.latest_of-found-requires
latest_of-found-requires c = walking_spans c.loop-at.invariant.walking c.in-Some.ensures.steps

pub loop-at-init : goal.loop-at-init
loop-at-init c = record { ahead = search rules; finite = search rules; walking = rw c.into_iter-at-iterator.ensures.into_iter_gives (walking_start c.whole_records-at-items.ensures) }

pub loop-at-preserved : goal.loop-at-preserved
loop-at-preserved c = record {
  ahead = search rules;
  finite = search rules;
  walking = walking_next c.loop-at.invariant.walking c.in-Some.ensures.steps c.latest_of-found.ensures;
}

pub returns : goal.returns
returns c = walking_done c.loop-at.invariant.walking c.loop-at.invariant.ahead c.in-None.ensures.steps
