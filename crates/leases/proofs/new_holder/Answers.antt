-- What is left to show of `leases::new_holder`.
use mathlib.Core.Path.{◌≡◌, refl, ap}
use native.Mathlib.Omega.{arith}
use Rattle.std.proofs.Common.{Some, None, Err}
use Rattle.std.proofs.lemmas.Result.{err_from_is_err_and}
use Rattle.leases.specs.Changes.{new_holder}
use Rattle.leases.proofs.Answers.{err_same}
use Rattle.leases.proofs.new_holder.Goals as goal

pub returns-in_err-place : goal.returns-in_err-place
unfolding new_holder
returns-in_err-place c =
    let p = err_from_is_err_and c.from_residual.result c.from_residual.ensures.1 in
    let o : c.place_in.result ≡ None = grind arith in
    rw (p.1, p.2, ← c.place_in.ensures, o) (ap Err (err_same (rw o at c.in_err-place.ensures.value)))

pub returns : goal.returns
unfolding new_holder
returns c =
    let o : c.place_in.result ≡ Some c.in_ok-place.place = grind arith in
    rw (← c.place_in.ensures, o) refl
