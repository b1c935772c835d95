-- What is left to show of `leases::holder_of`.
use mathlib.Core.Path.{◌≡◌, refl, ap}
use native.Mathlib.Omega.{arith}
use Rattle.std.proofs.Common.{Some, None, Err}
use Rattle.std.proofs.lemmas.Result.{err_from_is_err_and}
use Rattle.leases.specs.Changes.{holder_of}
use Rattle.leases.proofs.Answers.{err_same}
use Rattle.leases.proofs.holder_of.Goals as goal

pub returns-in_err-found : goal.returns-in_err-found
unfolding holder_of
returns-in_err-found c =
    let p = err_from_is_err_and c.from_residual.result c.from_residual.ensures.1 in
    let o : c.lease_at.result ≡ None = grind arith in
    rw (p.1, p.2, ← c.lease_at.ensures, o) (ap Err (err_same (rw o at c.in_err-found.ensures.value)))

pub returns : goal.returns
unfolding holder_of
returns c =
    let o : c.lease_at.result ≡ Some c.in_ok-found.found = grind arith in
    rw (← c.lease_at.ensures, o) refl
