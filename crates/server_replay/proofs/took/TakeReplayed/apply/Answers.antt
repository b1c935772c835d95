-- What is left to show of `server_replay::took::TakeReplayed::apply`.
use native.Mathlib.Omega.{arith}
use Rattle.model.specs.Apply.{apply_record}
use Rattle.server_replay.proofs.Taking.{imaged-size, took-place, took-room}
use Rattle.server_replay.proofs.took.TakeReplayed.apply.Goals as goal

pub apply_took-requires : goal.apply_took-requires
apply_took-requires c =
    let t = c.args.self in
    let ready = c.requires.0 in
    let room = took-room c.args.s.now t.image.now t.h c.args.end ready (omega arith) c.requires.1 in (
      ready.standing.canonical,
      took-place c.args.s.now t.image.now t.h c.args.end ready,
      imaged-size t.image.now t.h t.imaged,
      room.0,
      room.1,
    )

pub returns : goal.returns
unfolding apply_record
returns c = c.apply_took.ensures
