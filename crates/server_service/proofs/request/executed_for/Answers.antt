-- What is left to show of `server_service::request::executed_for`.
use Rattle.model.specs.States.{load}
use Rattle.model.specs.Decisions.{executed_for, with_time, time_for}
use Rattle.server_service.proofs.Requests.{request-point, executed-is}
use Rattle.server_service.proofs.request.executed_for.Goals as goal

pub entry_at-e-requires : goal.entry_at-e-requires
entry_at-e-requires c = (c.requires.0, request-point c.args.q c.requires.1)

pub point_at-x-requires : goal.point_at-x-requires
point_at-x-requires c = (c.requires.0, request-point c.args.q c.requires.1)

pub returns : goal.returns
unfolding executed_for with_time time_for
returns c =
    rw (
      c.heard_of-heard.ensures,
      executed-is c.args.q c.requires.1 (load c.args.s.now) c.entry_at-e.ensures c.point_at-x.ensures c.checked_rule-outcome.ensures,
    )
