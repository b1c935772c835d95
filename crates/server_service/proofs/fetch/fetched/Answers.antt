-- What is left to show of `server_service::fetch::fetched`.
use mathlib.Core.Path.{◌≡◌, refl, ◌∙◌}
use native.Mathlib.Omega.{arith}
use Rattle.model.specs.Decisions.{result_of_record}
use Rattle.std.specs.Prelude.{Err}
use Rattle.model.specs.declared.Refusal.TheVariants.{Unknown}
use Rattle.refusals.proofs.Numbers.{exit}
use Rattle.server_memory.proofs.Settled.{by_refused, by_passed, replied}
use Rattle.server_service.proofs.Chains.{fetch-none, fetch-at}
use Rattle.server_service.proofs.fetch.fetched.Goals as goal

pub returns-in_err-fetch_refusal : goal.returns-in_err-fetch_refusal
returns-in_err-fetch_refusal c log =
    let a = c.args in
    fetch-at a.s.now log a.out.now a.client a.call c.in_ok-r.r c.find.ensures (grind arith)
    (by_refused a.s.now log a.out.now _ _ (c.in_err-fetch_refusal.ensures ∙ rw c.mark_of-mark.ensures) _ c.from_residual-in_err-fetch_refusal.ensures.1)

pub returns-in_err-r : goal.returns-in_err-r
returns-in_err-r c log =
    let a = c.args in
    let e : c.from_residual.result ≡ Err Unknown = grind (arith, exit c.from_residual.result c.from_residual.ensures.1) in
    rw e (fetch-none a.s.now log a.out.now a.client a.call c.find.ensures (grind arith))

pub returns : goal.returns
unfolding result_of_record
returns c log =
    let a = c.args in
    fetch-at a.s.now log a.out.now a.client a.call c.in_ok-r.r c.find.ensures (grind arith)
    (by_passed a.s.now log a.out.now _ (c.in_ok-fetch_refusal.ensures ∙ rw c.mark_of-mark.ensures)
    (replied a.s.now log a.out.now _ refl c.reply.ensures.0 c.reply.ensures.1))
