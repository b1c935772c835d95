-- What is left to show of `server_replay::gave::GiveReplayed::follows`.
use Rattle.model.specs.States.{load}
use Rattle.refusals.proofs.Numbers.{ok-passed}
use Rattle.server_replay.proofs.Following.{gave-tests}
use Rattle.server_replay.proofs.gave.GiveReplayed.follows.Goals as goal

pub returns : goal.returns
returns c =
    rw (c.is_ok.ensures.value, ok-passed c.give_refusal-given.result, c.give_refusal-given.ensures, c.server_of-server.ensures, c.point_at-x.ensures)
    (gave-tests (load c.args.s.now) c.args.self c.requires.1 c.requires.2)
