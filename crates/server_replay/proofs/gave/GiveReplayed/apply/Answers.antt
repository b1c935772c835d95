-- What is left to show of `server_replay::gave::GiveReplayed::apply`.
use Rattle.model.specs.Apply.{apply_record}
use Rattle.server_replay.proofs.gave.GiveReplayed.apply.Goals as goal

pub returns : goal.returns
unfolding apply_record
returns c = c.apply_gave.ensures
