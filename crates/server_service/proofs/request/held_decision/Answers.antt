-- What is left to show of `server_service::request::held_decision`.
use Prim.Native.Nat.{ℕ}
use mathlib.Core.Path.{refl, ap, ◌∙◌}
use Rattle.model.specs.Decisions.{held_refusal}
use Rattle.model.specs.States.{load}
use Rattle.server_service.specs.Decisions.{decided}
use Rattle.server_service.proofs.Requests.{held-decided, refused_by, passed_by}
use Rattle.server_service.proofs.request.held_decision.Goals as goal

pub returns-in_err-held_refusal : goal.returns-in_err-held_refusal
returns-in_err-held_refusal c =
    let start = c.args in
    refused_by _ (held-decided (load start.s.now) start.q start.completion) _
    (c.in_err-held_refusal.ensures ∙ ap (λ (mark : ℕ). held_refusal mark start.q start.completion) c.mark_of-mark.ensures) _ c.from_residual.ensures.1

pub returns : goal.returns
unfolding decided
returns c =
    let start = c.args in
    passed_by _ (held-decided (load start.s.now) start.q start.completion)
    (c.in_ok-held_refusal.ensures ∙ ap (λ (mark : ℕ). held_refusal mark start.q start.completion) c.mark_of-mark.ensures) refl
