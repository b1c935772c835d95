-- What is left to show of `simulator::simulate`.
use Rattle.simulator.proofs.Runs.{simulate_is}
use native.Mathlib.Omega.{arith}
use Rattle.simulator.proofs.simulate.Goals as goal

pub answers-n-requires : goal.answers-n-requires
answers-n-requires c = omega (arith, c.blank_page-page.ensures)

pub hand_over-requires : goal.hand_over-requires
hand_over-requires c =
    let a = c.answers-n in
    (a.ensures.most, omega (arith, c.blank_page-page.ensures, a.ensures.most, a.auto.page))

pub returns : goal.returns
returns c =
    let a = c.answers-n in
    simulate_is _ _ _ _ a.ensures (omega (arith, c.blank_page-page.ensures, a.ensures.most, a.auto.page)) c.hand_over.ensures
