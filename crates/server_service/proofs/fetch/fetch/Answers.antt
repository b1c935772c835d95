-- What is left to show of `server_service::fetch::fetch`.
use mathlib.Core.Path.{sym, ◌∙◌}
use Rattle.server_memory.proofs.Settled.{by_refused, by_passed, passed-fit, passed-canonical}
use Rattle.server_service.proofs.Chains.{fetch-is}
use Rattle.server_service.proofs.fetch.fetch.Goals as goal

pub returns-in_err-lent_refusal : goal.returns-in_err-lent_refusal
returns-in_err-lent_refusal c =
    let a = c.args in
    by_refused a.s.now a.log.now a.out.now _ _ c.in_err-lent_refusal.ensures _ c.from_residual.ensures.1
    ∙ sym (fetch-is a.s.now a.log.now a.out.now a.client a.call)

pub fetched-requires : goal.fetched-requires
fetched-requires c = (
  passed-canonical _ _ _ _ c.in_ok-lent_refusal.ensures (λ i. (c.shared_slice_known-1.given i).fits),
  (passed-fit _ _ _ _ c.in_ok-lent_refusal.ensures).room,
)

pub returns : goal.returns
returns c =
    let a = c.args in
    by_passed a.s.now a.log.now a.out.now _ c.in_ok-lent_refusal.ensures (c.fetched.ensures a.log.now)
    ∙ sym (fetch-is a.s.now a.log.now a.out.now a.client a.call)
