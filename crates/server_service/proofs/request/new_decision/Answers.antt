-- What is left to show of `server_service::request::new_decision`.
use mathlib.Core.Path.{◌∙◌}
use Rattle.model.specs.States.{load}
use Rattle.server_service.specs.Decisions.{decided}
use Rattle.server_service.proofs.Requests.{new_decided, refused_by, passed_by}
use Rattle.server_service.proofs.request.new_decision.Goals as goal

pub returns-in_err-new_refusal : goal.returns-in_err-new_refusal
returns-in_err-new_refusal c =
    let start = c.args in
    refused_by _ (new_decided (load start.s.now) start.q start.free) _ (c.in_err-new_refusal.ensures ∙ rw (c.requires.2, c.clients_of-clients.ensures)) _ c.from_residual.ensures.1

pub returns : goal.returns
unfolding decided
returns c =
    let start = c.args in
    passed_by _ (new_decided (load start.s.now) start.q start.free) (c.in_ok-new_refusal.ensures ∙ rw (c.requires.2, c.clients_of-clients.ensures))
    (rw c.executed_for-executed.ensures)
