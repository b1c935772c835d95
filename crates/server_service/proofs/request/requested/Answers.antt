-- What is left to show of `server_service::request::requested`.
use Prim.Native.Nat.{◌+◌, ◌≤◌}
use mathlib.Core.Path.{ap, ◌∙◌}
use native.Mathlib.Omega.{arith}
use lib.ListN.{length}
use Rattle.std.specs.Prelude.{Ok}
use Rattle.model.specs.States.{load}
use Rattle.model.specs.Operations.{free_in}
use Rattle.model.specs.Limits.{executed_size}
use Rattle.model_invariants.proofs.Loaded.{loaded_sound}
use Rattle.state_rows.proofs.Chains.{canonical-sound}
use Rattle.server_service.proofs.Requests.{denies, replies, executes}
use Rattle.server_service.proofs.Passed.{request-number, request-space, request-timed, request-place, request-room}
use Rattle.server_service.proofs.request.requested.Goals as goal

pub request_decision-requires : goal.request_decision-requires
request_decision-requires c =
    (canonical-sound _ (λ i. (c.slice_known-1.given i).fits) c.requires.0.sound, c.requires.1)

pub deny-requires : goal.deny-requires
deny-requires c =
    (request-number (load c.args.s.now) _ c.args.q c.request_decision.ensures _ c.in-Err.is, omega (arith, c.requires.0.room))

pub execute-requires : goal.execute-requires
unfolding free_in
execute-requires c =
    let st = load c.args.s.now in
    let decision = c.request_decision.ensures in
    let told = c.in-Ok.is ∙ ap Ok c.in-Execute.is in
    let sound = loaded_sound c.args.s.now (λ i. (c.slice_known-1.given i).fits) c.requires.0.sound in
    let space : st.size + executed_size ≤ length c.args.log.now = omega (arith, c.requires.0.logged, c.free_in-free.ensures, request-space st _ c.args.q decision _ told) in (
      canonical-sound _ (λ i. (c.slice_known-1.given i).fits) c.requires.0.sound,
      request-place st _ c.args.q decision _ told sound c.requires.1,
      request-room st _ c.args.q decision _ told sound c.requires.1 (omega (arith, space, c.well_formed.1.0.1)),
      space,
      request-timed st _ c.args.q decision _ told,
    )

pub returns-in-Err : goal.returns-in-Err
returns-in-Err c =
    let start = c.args in
    denies start.s.now start.log.now start.out.now start.q (c.request_decision.ensures ∙ rw c.free_in-free.ensures) _ c.in-Err.is
    c.deny.ensures.0 c.deny.ensures.1

pub returns-in-Reply : goal.returns-in-Reply
returns-in-Reply c =
    let start = c.args in
    replies start.s.now start.log.now start.out.now start.q (c.request_decision.ensures ∙ rw c.free_in-free.ensures) _ (c.in-Ok.is ∙ ap Ok c.in-Reply.is)
    c.reply.ensures.0 c.reply.ensures.1

pub returns-in-Execute : goal.returns-in-Execute
returns-in-Execute c =
    let start = c.args in
    executes start.s.now start.log.now start.out.now start.q (c.request_decision.ensures ∙ rw c.free_in-free.ensures) _ (c.in-Ok.is ∙ ap Ok c.in-Execute.is)
    (request-timed (load start.s.now) _ start.q c.request_decision.ensures _ (c.in-Ok.is ∙ ap Ok c.in-Execute.is))
    c.execute.ensures.0 c.execute.ensures.1
