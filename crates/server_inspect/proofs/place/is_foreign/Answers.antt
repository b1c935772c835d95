-- What is left to show of `server_inspect::place::is_foreign`.
use mathlib.Core.Path.{ap}
use mathlib.Core.Bool.{not}
use Rattle.server_inspect.proofs.Refusing.{foreign-none, foreign-some}
use Rattle.server_inspect.proofs.place.is_foreign.Goals as goal

pub returns-then-not-restore_sound : goal.returns-then-not-restore_sound
returns-then-not-restore_sound c = foreign-none _ c.restore_sound.ensures (ap not c.if-not-restore_sound.true)

pub returns : goal.returns
returns c =
    foreign-some _ c.restore_sound.ensures (ap not c.if-not-restore_sound.false) c.head_server.ensures c.server_of-server.ensures
