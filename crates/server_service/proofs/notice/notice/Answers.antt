-- What is left to show of `server_service::notice::notice`.
use mathlib.Core.Path.{sym, ◌∙◌}
use mathlib.Core.List.{[]}
use Rattle.server_memory.proofs.Settled.{by_refused, by_passed, passed-fit, passed-canonical}
use Rattle.server_service.proofs.Chains.{notice-is, notice-none, notice-other, notice-one}
use borrow.Enum.Refused.{opened}
use Rattle.server_service.proofs.notice.notice.Goals as goal

pub returns-in_err-lent_refusal : goal.returns-in_err-lent_refusal
returns-in_err-lent_refusal c =
    let start = c.args in
    by_refused start.s.now start.log.now [] _ _ c.in_err-lent_refusal.ensures _ c.from_residual.ensures.1 ∙ sym
    (notice-is start.s.now start.log.now start.packet.now)

pub returns-in_default : goal.returns-in_default
returns-in_default c =
    let start = c.args in
    by_passed start.s.now start.log.now [] _ c.in_ok-lent_refusal.ensures
    (notice-none start.s.now start.log.now start.packet.now c.parse_packet.ensures c.in_default.is)
    ∙ sym (notice-is start.s.now start.log.now start.packet.now)

pub returns-in_default-parsed : goal.returns-in_default-parsed
returns-in_default-parsed c =
    let start = c.args in
    by_passed start.s.now start.log.now [] _ c.in_ok-lent_refusal.ensures
    (notice-other start.s.now start.log.now start.packet.now c.parse_packet.ensures c.in-Some.is (opened c.in_default-parsed.in_default-parsed-own.keys2))
    ∙ sym (notice-is start.s.now start.log.now start.packet.now)

pub noticed-requires : goal.noticed-requires
noticed-requires c = (
  passed-canonical _ _ _ _ c.in_ok-lent_refusal.ensures (λ i. (c.slice_known-1.given i).fits),
  (passed-fit _ _ _ _ c.in_ok-lent_refusal.ensures).logged,
)

pub returns : goal.returns
returns c =
    let start = c.args in
    by_passed start.s.now start.log.now [] _ c.in_ok-lent_refusal.ensures
    (notice-one start.s.now start.log.now start.packet.now _ c.parse_packet.ensures c.in-Some.is c.in-Noticed.is c.noticed.ensures)
    ∙ sym (notice-is start.s.now start.log.now start.packet.now)
