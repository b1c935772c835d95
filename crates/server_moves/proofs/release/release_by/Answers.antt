-- What is left to show of `server_moves::release::release_by`.
use mathlib.Core.Path.{sym, ◌∙◌}
use mathlib.Core.List.{[]}
use Rattle.server_memory.proofs.Settled.{by_refused, by_passed}
use Rattle.server_moves.proofs.Chains.{release-chain, release-room}
use Rattle.server_moves.proofs.release.release_by.Goals as goal

pub returns-in_err-release_refusal : goal.returns-in_err-release_refusal
returns-in_err-release_refusal c =
    let a = c.args in
    by_refused a.s.now a.log.now [] _ _ (c.in_err-release_refusal.ensures ∙ rw (c.free_in-free.ensures, c.point_at-x.ensures)) _ c.from_residual.ensures.1
    ∙ sym (release-chain a.s.now a.log.now a.receipt.point a.receipt.move_number)

pub release_done-requires : goal.release_done-requires
release_done-requires c =
    let a = c.args in (
      c.requires.0,
      c.requires.2,
      release-room a.s.now a.log.now a.receipt.point a.receipt.move_number
          (c.in_ok-release_refusal.ensures ∙ rw (c.free_in-free.ensures, c.point_at-x.ensures)) c.requires.1,
    )

pub returns : goal.returns
returns c =
    let a = c.args in
    by_passed a.s.now a.log.now [] _ (c.in_ok-release_refusal.ensures ∙ rw (c.free_in-free.ensures, c.point_at-x.ensures))
    c.release_done.ensures
    ∙ sym (release-chain a.s.now a.log.now a.receipt.point a.receipt.move_number)
