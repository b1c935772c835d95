-- What is left to show of `impl Replayed for Executed`: what its own clauses ask.
use Rattle.server_replay.proofs.Rooms.{executed-place}
use Rattle.server_replay.proofs.executed.ExecutedReplayed.TheImpl.Goals as goal

pub follows-asks : goal.follows-asks
follows-asks c = (c.requires.0.canonical, executed-place c.args.self c.requires.1)
