-- What is left to show of `server_replay::executed::ExecutedReplayed::apply`.
use native.Mathlib.Omega.{arith}
use Rattle.model.specs.Apply.{apply_record}
use Rattle.server_replay.proofs.Rooms.{executed-place, executed-room}
use Rattle.server_replay.proofs.executed.ExecutedReplayed.apply.Goals as goal

pub apply_executed-requires : goal.apply_executed-requires
apply_executed-requires c = (
  c.requires.0.standing.canonical,
  executed-place c.args.self c.requires.0.good,
  executed-room c.args.s.now c.args.self c.args.end c.requires.0 (omega arith) c.requires.1,
)

pub returns : goal.returns
unfolding apply_record
returns c = c.apply_executed.ensures
