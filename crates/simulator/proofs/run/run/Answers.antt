-- What is left to show of `simulator::run::run`.
use mathlib.Core.Path.{refl, ◌∙◌}
use native.Mathlib.Omega.{arith}
use lib.ListN.{length}
use Rattle.simulator.proofs.Runs.{running-start, running-next, running-end, ready, test-left, test_right, same_slices}
use Rattle.simulator.proofs.run.run.Goals as goal

pub loop-number-init : goal.loop-number-init
loop-number-init c =
    let p = c.requires in
    (running-start _ _ _ _ p.pages p.none, refl, ((refl, refl), (refl, refl), (refl, refl), (refl, refl), (refl, refl)))

pub run_line-turn-requires : goal.run_line-turn-requires
run_line-turn-requires c =
    let l = c.loop-number in
    let u = l.invariant.0 in
    let v = l.invariant.2 in
    let e = c.loop-number-test.true in
    let s = c.args in
    let x = s.lent.now in
    let k = test-left l.number l.at (length s.text.now) e in
    let p = c.requires in (
      ready _ _ _ x.s0.now x.s1.now x.store.now _ l.number p.first p.second p.rows v.0.1 v.2.1 v.4.1 u.packets k,
      test_right l.number l.at (length s.text.now) e,
      omega (arith, u.wrote, u.long, u.least, k),
    )

pub overflow_add-number : goal.overflow_add-number
overflow_add-number c = omega (arith, c.loop-number.invariant.0.most)

pub loop-number-smaller : goal.loop-number-smaller
loop-number-smaller c =
    let l = c.loop-number in
    omega (arith, l.invariant.0.most, test-left l.number l.at (length c.args.text.now) c.loop-number-test.true)

pub loop-number-preserved : goal.loop-number-preserved
loop-number-preserved c =
    let r = c.run_line-turn in
    let l = c.loop-number in
    let n = length c.args.text.now in
    let e = c.loop-number-test.true in
    let v = l.invariant in (
      running-next _ _ _ _ _ _ _ _ v.0 (test-left l.number l.at n e) (test_right l.number l.at n e) r.ensures.turned,
      r.auto.page ∙ v.1,
      same_slices c.args.lent.now l.lent r.new.lent v.2 r.ensures.kept,
    )

pub returns-clause-printed : goal.returns-clause-printed
returns-clause-printed c = running-end _ _ _ _ _ _ _ _ c.loop-number.invariant.0 c.loop-number-test.false
