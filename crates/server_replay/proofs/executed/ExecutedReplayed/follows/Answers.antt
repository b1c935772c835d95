-- What is left to show of `server_replay::executed::ExecutedReplayed::follows`.
use Rattle.model.specs.Decisions.{follows}
use Rattle.refusals.proofs.Numbers.{ok-passed}
use Rattle.server_replay.proofs.Rooms.{executed-space}
use Rattle.server_replay.proofs.executed.ExecutedReplayed.follows.Goals as goal

pub returns : goal.returns
unfolding follows
returns c =
    rw (
      executed-space,
      c.in_range-in_range.ensures,
      c.is_ok-2.ensures.value,
      ok-passed c.new_refusal-new.result,
      c.new_refusal-new.ensures,
      c.is_ok.ensures.value,
      ok-passed c.request_refusal-asked.result,
      c.request_refusal-asked.ensures,
      c.clients_of-clients.ensures,
      c.is_missing-fresh.ensures,
      c.floor_in-floor.ensures,
      c.entry_at-e.ensures,
      c.point_at-x.ensures,
    )
