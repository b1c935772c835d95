-- What is left to show of `server_service::request::request_decision`.
use mathlib.Core.Path.{◌∙◌}
use Rattle.model.specs.States.{load}
use Rattle.server_service.proofs.Requests.{request-decided, request-point, refused_by, passed_by, on_none, on_at}
use Rattle.server_service.proofs.request.request_decision.Goals as goal

pub point_at-x-requires : goal.point_at-x-requires
point_at-x-requires c = (c.requires.0.long, request-point c.args.q c.requires.1)

pub returns-in_err-request_refusal : goal.returns-in_err-request_refusal
returns-in_err-request_refusal c =
    let start = c.args in
    refused_by _ (request-decided (load start.s.now) start.q start.free) _
    (c.in_err-request_refusal.ensures ∙ rw (c.point_at-x.ensures, c.heard_of-heard.ensures, c.floor_in-floor.ensures)) _ c.from_residual.ensures.1

pub returns-in-None : goal.returns-in-None
returns-in-None c =
    let start = c.args in
    passed_by _ (request-decided (load start.s.now) start.q start.free)
    (c.in_ok-request_refusal.ensures ∙ rw (c.point_at-x.ensures, c.heard_of-heard.ensures, c.floor_in-floor.ensures))
    (on_none (load start.s.now) start.free start.q c.find.ensures c.in-None.is c.new_decision.ensures)

pub returns-in-Some : goal.returns-in-Some
returns-in-Some c =
    let start = c.args in
    passed_by _ (request-decided (load start.s.now) start.q start.free)
    (c.in_ok-request_refusal.ensures ∙ rw (c.point_at-x.ensures, c.heard_of-heard.ensures, c.floor_in-floor.ensures))
    (on_at (load start.s.now) start.free start.q c.find.ensures _ c.in-Some.is c.held_decision.ensures)
