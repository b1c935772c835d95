-- What is left to show of `server_service::sync::sync`.
use mathlib.Core.Path.{sym, ◌∙◌}
use mathlib.Core.List.{[]}
use Rattle.server_memory.proofs.Settled.{by_refused, by_passed, passed-canonical}
use Rattle.server_service.proofs.Chains.{sync-is}
use Rattle.server_service.proofs.sync.sync.Goals as goal

pub returns-in_err-lent_refusal : goal.returns-in_err-lent_refusal
returns-in_err-lent_refusal c =
    let a = c.args in
    by_refused a.s.now a.log.now [] _ _ c.in_err-lent_refusal.ensures _ c.from_residual.ensures.1 ∙ sym (sync-is a.s.now a.log.now a.mark)

pub synced-requires : goal.synced-requires
synced-requires c = passed-canonical _ _ _ _ c.in_ok-lent_refusal.ensures (λ i. (c.slice_known-1.given i).fits)

pub returns : goal.returns
returns c =
    let a = c.args in
    by_passed a.s.now a.log.now [] _ c.in_ok-lent_refusal.ensures (c.synced.ensures a.log.now) ∙ sym (sync-is a.s.now a.log.now a.mark)
