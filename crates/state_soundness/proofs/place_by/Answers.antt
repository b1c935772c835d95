-- What is left to show of `state_soundness::place_by`.
use Rattle.state_soundness.proofs.Places.{place_at_lem}
use Rattle.model.specs.States.{floors_start}
use Rattle.state_soundness.proofs.place_by.Goals as goal

pub returns-then-f-client : goal.returns-then-f-client
returns-then-f-client c =
    place_at_lem c.args.s.now floors_start c.args.n c.args.hint c.args.client c.requires.1 c.if-hint-n.true c.floor_from-f.ensures c.if-f-client.true
