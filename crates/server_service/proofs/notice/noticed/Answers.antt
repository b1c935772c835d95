-- What is left to show of `server_service::notice::noticed`.
use mathlib.Core.Path.{◌∙◌}
use mathlib.Core.List.{[]}
use native.Mathlib.Omega.{arith}
use Rattle.model.specs.Logs.{gone, record_size}
use Rattle.model.specs.Apply.{apply_record}
use Rattle.model.specs.Operations.{free_in}
use Rattle.server_memory.proofs.Settled.{by_refused, by_passed, appended}
use Rattle.server_service.proofs.Chains.{notice_by, notice-room}
use Rattle.server_service.proofs.notice.noticed.Goals as goal

pub returns-in_err-notice_refusal : goal.returns-in_err-notice_refusal
returns-in_err-notice_refusal c =
    let start = c.args in
    notice_by start.s.now start.log.now start.notice
    (by_refused start.s.now start.log.now [] _ _ (c.in_err-notice_refusal.ensures ∙ rw (c.floor_in-floor.ensures, c.free_in-free.ensures)) _
    c.from_residual.ensures.1)

pub append-requires : goal.append-requires
unfolding free_in
append-requires c =
    omega (arith, c.requires.1, c.free_in-free.ensures, c.size_of-size.ensures, notice-room _ _ c.in_ok-notice_refusal.ensures)

pub returns : goal.returns
unfolding record_size apply_record
returns c =
    let start = c.args in
    notice_by start.s.now start.log.now start.notice
    (by_passed start.s.now start.log.now [] _ (c.in_ok-notice_refusal.ensures ∙ rw (c.floor_in-floor.ensures, c.free_in-free.ensures))
    (appended start.s.now start.log.now [] (gone start.notice) (c.apply_gone.ensures ∙ rw c.size_of-size.ensures)
    (c.append.ensures ∙ rw c.size_of-size.ensures)))
