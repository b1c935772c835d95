-- What is left to show of `impl Replayed for Take`: what its own clauses ask.
use Rattle.model.specs.Images.{image_at}
use Rattle.server_replay.proofs.took.TakeReplayed.TheImpl.Goals as goal

pub follows-asks : goal.follows-asks
unfolding image_at
follows-asks g c = (c.requires.0, c.requires.1.point)
