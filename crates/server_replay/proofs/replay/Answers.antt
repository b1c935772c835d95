-- What is left to show of `server_replay::replay`.
use mathlib.Core.Path.{ap}
use mathlib.Core.Bool.{not}
use Rattle.server_replay.proofs.Following.{replayed_no, replayed_yes}
use Rattle.server_replay.proofs.replay.Goals as goal

pub returns-then-not-follows : goal.returns-then-not-follows
returns-then-not-follows g c = replayed_no _ _ _ c.follows.ensures (ap not c.if-not-follows.true)

pub returns : goal.returns
returns g c = replayed_yes _ _ _ c.follows.ensures (ap not c.if-not-follows.false) c.apply.ensures
