-- What is left to show of `simulator::run::run_line`.
use Rattle.simulator.proofs.Runs.{part_length, turned}
use native.Mathlib.Omega.{arith}
use Rattle.simulator.proofs.run.run_line.Goals as goal

pub overflow_add-end : goal.overflow_add-end
overflow_add-end c = let a = c.args in omega (arith, part_length a.text.now a.at, c.find-width.ensures.1)

pub step-stepped-requires : goal.step-stepped-requires
step-stepped-requires c = c.requires.0

pub slice_bounds-line_of-end : goal.slice_bounds-line_of-end
slice_bounds-line_of-end c = let a = c.args in omega (arith, part_length a.text.now a.at, c.find-width.ensures.1)

pub put_reply-i-requires : goal.put_reply-i-requires
put_reply-i-requires c = c.requires.2

pub returns-clause-turned : goal.returns-clause-turned
returns-clause-turned c =
    let f = c.find-width in
    let e = c.step-stepped.ensures.ran in
    turned _ _ _ _ _ _ _ _ _ _ f.result f.ensures.0 c.line_of-line.ensures e.0 c.next_place.ensures c.put_reply-i.ensures e.1
