-- What is left to show of `server_replay::took::replay_took`.
use mathlib.Core.Path.{refl}
use Rattle.format_image_reader.proofs.Whole.{ok-least}
use Rattle.server_replay.proofs.took.replay_took.Goals as goal

pub head_from-h-requires : goal.head_from-h-requires
head_from-h-requires c = ok-least c.args.image.now refl c.requires.1
