-- What is left to show of `server_service::request::request`.
use Rattle.std.specs.Prelude.{Some}
use mathlib.Core.Path.{sym, ap, ◌∙◌}
use Rattle.server_memory.proofs.Settled.{by_passed, passed-fit}
use Rattle.model_invariants.proofs.Formats.{parsed-request}
use Rattle.server_service.proofs.Requests.{denied_by, request-is, request-none, request-other, request-one}
use borrow.Enum.Refused.{opened}
use Rattle.server_service.proofs.request.request.Goals as goal

pub returns-in_err-lent_refusal : goal.returns-in_err-lent_refusal
returns-in_err-lent_refusal c =
    let start = c.args in
    denied_by start.s.now start.log.now start.out.now _ _ c.in_err-lent_refusal.ensures _ c.from_residual.ensures.1
    ∙ sym (request-is start.s.now start.log.now start.out.now start.packet.now)

pub returns-in_default : goal.returns-in_default
returns-in_default c =
    let start = c.args in
    rw c.into.ensures (by_passed start.s.now start.log.now start.out.now _ c.in_ok-lent_refusal.ensures
    (request-none start.s.now start.log.now start.out.now start.packet.now c.parse_packet.ensures c.in_default.is)
    ∙ sym (request-is start.s.now start.log.now start.out.now start.packet.now))

pub returns-in_default-parsed : goal.returns-in_default-parsed
returns-in_default-parsed c =
    let start = c.args in
    rw c.into-in_default-parsed.ensures (by_passed start.s.now start.log.now start.out.now _ c.in_ok-lent_refusal.ensures
    (request-other start.s.now start.log.now start.out.now start.packet.now c.parse_packet.ensures c.in-Some.is (opened c.in_default-parsed.in_default-parsed-own.keys2))
    ∙ sym (request-is start.s.now start.log.now start.out.now start.packet.now))

pub requested-requires : goal.requested-requires
requested-requires c = (
  passed-fit _ _ _ _ c.in_ok-lent_refusal.ensures,
  parsed-request c.args.packet.now _ (λ i. (c.shared_slice_known-1.given i).fits)
      (sym c.parse_packet.ensures ∙ (c.in-Some.is ∙ ap Some c.in-Requested.is)),
)

pub returns : goal.returns
returns c =
    let start = c.args in
    by_passed start.s.now start.log.now start.out.now _ c.in_ok-lent_refusal.ensures
    (request-one start.s.now start.log.now start.out.now start.packet.now _ c.parse_packet.ensures c.in-Some.is c.in-Requested.is c.requested.ensures)
    ∙ sym (request-is start.s.now start.log.now start.out.now start.packet.now)
