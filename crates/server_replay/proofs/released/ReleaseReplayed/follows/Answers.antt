-- What is left to show of `server_replay::released::ReleaseReplayed::follows`.
use Rattle.model.specs.Decisions.{follows}
use Rattle.refusals.proofs.Numbers.{ok-passed}
use Rattle.server_replay.proofs.released.ReleaseReplayed.follows.Goals as goal

pub returns : goal.returns
unfolding follows
returns c = rw (c.is_ok.ensures.value, ok-passed c.release_refusal-given.result, c.release_refusal-given.ensures, c.point_at-x.ensures)
