-- What is left to show of `state_clients::raise`.
use mathlib.Core.Path.{refl}
use Rattle.model.specs.States.{load}
use Rattle.state_clients.proofs.Loops.{stands, stands_not, raised_at_lem, raised_room, raised_known, raised_new}
use Rattle.state_clients.proofs.raise.Goals as goal

pub raise_at-requires : goal.raise_at-requires
raise_at-requires c =
    let there = stands c.args.client (load c.args.s.now).floors c.in-Ok.ensures in
    raised_at_lem c.requires.0 c.args.client c.args.floor there.0 there.1 refl

pub returns-in-Ok : goal.returns-in-Ok
returns-in-Ok c =
    let there = stands c.args.client (load c.args.s.now).floors c.in-Ok.ensures in
    raised_known c.requires.0 c.args.client c.args.floor there.0 there.1 refl c.raise_at.ensures

pub insert-requires : goal.insert-requires
insert-requires c =
    let there = stands_not c.args.client (load c.args.s.now).floors c.in-Err.ensures in
    raised_room c.requires.0 c.args.client c.args.floor there.0 there.1 c.requires.1 refl

pub returns-in-Err : goal.returns-in-Err
returns-in-Err c =
    let there = stands_not c.args.client (load c.args.s.now).floors c.in-Err.ensures in
    raised_new c.requires.0 c.args.client c.args.floor there.0 there.1 refl c.insert.ensures
