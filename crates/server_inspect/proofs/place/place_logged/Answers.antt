-- What is left to show of `server_inspect::place::place_logged`.
use Rattle.state_rows.proofs.Chains.{canonical-sound}
use Rattle.format_log_ends.proofs.Walked.{log-end-found}
use Rattle.server_inspect.proofs.Refusing.{logged-head, later-refused, later-found, walk-passed, place_ready}
use Rattle.server_inspect.proofs.place.place_logged.Goals as goal

pub checkpoint_bad-bad-requires : goal.checkpoint_bad-bad-requires
checkpoint_bad-bad-requires c =
    logged-head (λ i. (c.shared_slice_known-1.given i).fits) c.requires

pub is_missing-lacks-requires : goal.is_missing-lacks-requires
is_missing-lacks-requires c =
    canonical-sound _ (λ i. (c.shared_slice_known-1.given i).fits) c.requires.fit.sound

pub returns-in_err-inspect_refusal : goal.returns-in_err-inspect_refusal
returns-in_err-inspect_refusal c =
    let a = c.args in
    later-refused a.state.now a.checkpoint.now a.log.now a.client a.call c.requires c.log_end-walked.ensures c.checkpoint_bad-bad.ensures c.is_missing-lacks.ensures
    _ c.in_err-inspect_refusal.ensures _ c.from_residual.ensures.1

pub place_in_checkpoint-first-requires : goal.place_in_checkpoint-first-requires
place_in_checkpoint-first-requires c =
    let a = c.args in
    place_ready a.state.now a.checkpoint.now a.log.now a.client a.call c.requires c.log_end-walked.ensures c.checkpoint_bad-bad.ensures c.is_missing-lacks.ensures
    c.in_ok-inspect_refusal.ensures

pub latest_in-requires : goal.latest_in-requires
latest_in-requires c =
    let a = c.args in
    log-end-found a.log.now c.log_end-walked.ensures
    (walk-passed a.state.now a.checkpoint.now a.log.now a.client a.call c.requires c.log_end-walked.ensures c.checkpoint_bad-bad.ensures c.is_missing-lacks.ensures
    c.in_ok-inspect_refusal.ensures)

pub returns : goal.returns
returns c =
    let a = c.args in
    later-found a.state.now a.checkpoint.now a.log.now a.client a.call c.requires c.log_end-walked.ensures c.checkpoint_bad-bad.ensures c.is_missing-lacks.ensures
    c.in_ok-inspect_refusal.ensures c.place_in_checkpoint-first.ensures c.latest_in.ensures
