-- What is left to show of `state_image::head_for`.
use Rattle.state_image.proofs.Joined.{head_of}
use Rattle.state_image.proofs.head_for.Goals as goal

pub returns : goal.returns
returns c =
    head_of c.args.point c.args.s.now c.point_at-x.ensures c.server_of.ensures c.heard_of.ensures c.clients_in.ensures c.requires.2
