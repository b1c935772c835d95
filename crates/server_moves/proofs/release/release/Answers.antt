-- What is left to show of `server_moves::release::release`.
use mathlib.Core.Path.{sym, ◌∙◌}
use mathlib.Core.List.{[]}
use Rattle.server_memory.proofs.Settled.{by_refused, by_passed, passed-canonical, passed-fit}
use Rattle.server_moves.proofs.Chains.{release-is, release-none, release-placed}
use borrow.Author.Rules.{rules}
use Rattle.server_moves.proofs.release.release.Goals as goal

pub returns-in_err-lent_refusal : goal.returns-in_err-lent_refusal
returns-in_err-lent_refusal c =
    let a = c.args in
    by_refused a.s.now a.log.now [] _ _ c.in_err-lent_refusal.ensures _ c.from_residual.ensures.1
    ∙ sym (release-is a.s.now a.log.now a.packet.now)

pub returns-in_default : goal.returns-in_default
returns-in_default c =
    let a = c.args in
    by_passed a.s.now a.log.now [] _ c.in_ok-lent_refusal.ensures (release-none a.s.now a.log.now ∙ rw (← c.parse_packet.ensures, c.in_default.is))
    ∙ sym (release-is a.s.now a.log.now a.packet.now)

pub release_on-requires : goal.release_on-requires
release_on-requires c = (
  passed-canonical _ _ _ _ c.in_ok-lent_refusal.ensures (search rules),
  (passed-fit _ _ _ _ c.in_ok-lent_refusal.ensures).logged,
  release-placed c.args.packet.now (search rules)
      c.parse_packet.ensures c.in-Some.is,
)

pub returns : goal.returns
returns c =
    let a = c.args in
    by_passed a.s.now a.log.now [] _ c.in_ok-lent_refusal.ensures (c.release_on.ensures ∙ rw (← c.parse_packet.ensures, c.in-Some.is))
    ∙ sym (release-is a.s.now a.log.now a.packet.now)
