-- What is left to show of `server_inspect::place::place_lent`.
use mathlib.Core.Path.{sym}
use native.Mathlib.Omega.{arith}
use lib.Seq.{length-take-le}
use Rattle.server_memory.proofs.Settled.{passed-fit, passed-long}
use Rattle.server_inspect.proofs.Refusing.{lent-refused, logged_by, front_by}
use Rattle.server_inspect.proofs.place.place_lent.Goals as goal

pub returns-in_err-lent_refusal : goal.returns-in_err-lent_refusal
returns-in_err-lent_refusal c =
    let a = c.args in
    lent-refused a.state.now a.checkpoint.now a.tail.now a.client a.call _ c.in_err-lent_refusal.ensures _ c.from_residual.ensures.1

pub size_of-size-requires : goal.size_of-size-requires
size_of-size-requires c =
    let a = c.args in passed-long a.state.now a.tail.now 0 0 c.in_ok-lent_refusal.ensures

pub slice_bounds-place_logged-end : goal.slice_bounds-place_logged-end
slice_bounds-place_logged-end c =
    let a = c.args in
    let f = passed-fit a.state.now a.tail.now 0 0 c.in_ok-lent_refusal.ensures in
    sym (length-take-le c.size_of-size.result a.tail.now (omega (arith, f.logged, c.size_of-size.ensures)))

pub place_logged-requires : goal.place_logged-requires
place_logged-requires c =
    let a = c.args in
    logged_by a.state.now a.tail.now (passed-fit a.state.now a.tail.now 0 0 c.in_ok-lent_refusal.ensures) c.size_of-size.ensures

pub returns : goal.returns
returns c =
    let a = c.args in
    front_by a.state.now a.checkpoint.now a.tail.now a.client a.call (λ i. (c.shared_slice_known-1.given i).fits)
    (passed-fit a.state.now a.tail.now 0 0 c.in_ok-lent_refusal.ensures) c.size_of-size.ensures c.place_logged.ensures
