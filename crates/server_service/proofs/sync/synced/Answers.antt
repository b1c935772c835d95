-- What is left to show of `server_service::sync::synced`.
use mathlib.Core.Path.{◌∙◌}
use mathlib.Core.List.{[]}
use Rattle.model.specs.Decisions.{on_sync}
use Rattle.server_memory.proofs.Settled.{by_refused, by_passed}
use Rattle.server_service.proofs.Chains.{sync-done}
use Rattle.server_service.proofs.sync.synced.Goals as goal

pub returns-in_err-sync_refusal : goal.returns-in_err-sync_refusal
unfolding on_sync
returns-in_err-sync_refusal c log =
    let a = c.args in
    by_refused a.s.now log [] _ _ (c.in_err-sync_refusal.ensures ∙ rw (c.size_of-size.ensures, c.mark_of-present.ensures)) _ c.from_residual.ensures.1

pub returns : goal.returns
unfolding on_sync
returns c log =
    let a = c.args in
    by_passed a.s.now log [] _ (c.in_ok-sync_refusal.ensures ∙ rw (c.size_of-size.ensures, c.mark_of-present.ensures))
    (sync-done a.s.now log a.mark c.set_mark.ensures)
