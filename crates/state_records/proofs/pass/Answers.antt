-- What is left to show of `state_records::pass`.
use mathlib.Core.Bool.{not}
use mathlib.Core.Path.{ap, refl}
use native.Mathlib.Omega.{arith}
use Rattle.state_records.proofs.Search.{find_eight}
use Rattle.state_records.proofs.pass.Goals as goal

pub loop-i-preserved : goal.loop-i-preserved
loop-i-preserved c =
    let a = c.args in (
      omega arith,
      find_eight a.client a.call a.s.now a.n c.loop-i.invariant.1 c.loop-i-test.true refl
          c.is_past-first.ensures c.is_past-second.ensures (ap not c.if-not-first-second.false),
    )
