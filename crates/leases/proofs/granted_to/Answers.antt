-- What is left to show of `leases::granted_to`.
use mathlib.Core.Path.{refl}
use Rattle.std.proofs.lemmas.Result.{err_from_is_err_and}
use Rattle.leases.specs.Changes.{grant_to, granted_to}
use Rattle.leases.proofs.granted_to.Goals as goal

pub returns-then-not-span_ok : goal.returns-then-not-span_ok
unfolding granted_to
returns-then-not-span_ok c = rw (← c.span_ok.ensures, c.if-not-span_ok.true) refl

pub returns-in_err-holder : goal.returns-in_err-holder
unfolding granted_to
returns-in_err-holder c =
    let p = err_from_is_err_and c.from_residual.result c.from_residual.ensures.1 in
    rw (p.1, p.2, c.in_err-holder.was, ← c.span_ok.ensures, c.if-not-span_ok.false) refl

pub returns-then-holder-end : goal.returns-then-holder-end
unfolding granted_to grant_to
returns-then-holder-end c = rw (c.in_ok-holder.was, ← c.span_ok.ensures, c.if-not-span_ok.false, ← c.time_at-now.ensures, c.if-holder-end.true) refl

pub returns : goal.returns
unfolding granted_to grant_to
returns c =
    rw (c.in_ok-holder.was, ← c.span_ok.ensures, c.if-not-span_ok.false, ← c.time_at-now.ensures, c.if-holder-end.false, c.greater-lease.ensures) refl
