-- What is left to show of `leases::lease_at`.
use mathlib.Core.Path.{◌≡◌, ◌∙◌}
use lib.ListN.{length}
use native.Mathlib.Omega.{arith}
use borrow.Author.Rules.{rules}
use Rattle.leases.proofs.Places.{place_some, none_there, none_runs, one_runs}
use Rattle.leases.proofs.lease_at.Goals as goal

pub returns-in_err-place : goal.returns-in_err-place
returns-in_err-place c = c.from_residual.ensures ∙ none_there _ _ c.in_err-place.ensures

pub offset_bounds-ls-place : goal.offset_bounds-ls-place
offset_bounds-ls-place c =
    let p = place_some _ _ c.in_ok-place.ensures in
    let long : length c.args.ls ≡ 32 = search rules in
    omega (arith, p.1)

pub bounds-ls-place : goal.bounds-ls-place
bounds-ls-place c =
    let p = place_some _ _ c.in_ok-place.ensures in
    let long : length c.args.ls ≡ 32 = search rules in
    omega (arith, p.1)

pub returns-then-end-eq0 : goal.returns-then-end-eq0
returns-then-end-eq0 c = none_runs _ _ c.in_ok-place.ensures c.if-end-eq0.true

pub returns : goal.returns
returns c = one_runs _ _ c.in_ok-place.ensures c.if-end-eq0.false
