-- What is left to show of `server_replay::gone::NoticeReplayed::follows`.
use Rattle.model.specs.Decisions.{follows}
use Rattle.refusals.proofs.Numbers.{ok-passed}
use Rattle.server_replay.proofs.gone.NoticeReplayed.follows.Goals as goal

pub returns : goal.returns
unfolding follows
returns c = rw (c.is_ok.ensures.value, ok-passed c.notice_refusal.result, c.notice_refusal.ensures, c.floor_in-floor.ensures)
