-- What is left to show of `server_replay::gone::NoticeReplayed::apply`.
use Rattle.model.specs.Apply.{apply_record}
use Rattle.server_replay.proofs.gone.NoticeReplayed.apply.Goals as goal

pub returns : goal.returns
unfolding apply_record
returns c = c.apply_gone.ensures
