-- What is left to show of `leases::clear_ended`.
use Rattle.leases.proofs.Places.{run_step, run_end}
use native.Mathlib.Omega.{arith}
use lib.ListN.{length-set}
use Rattle.leases.proofs.clear_ended.Goals as goal

pub loop-lease-preserved : goal.loop-lease-preserved
loop-lease-preserved c =
    let l = c.loop-lease in
    (simp length-set (omega arith), run_step _ c.args.ls.now l.ls l.lease-index (omega arith) l.invariant.1 c.ended_at.ensures)

pub returns : goal.returns
returns c = let l = c.loop-lease in run_end _ c.args.ls.now l.ls l.lease-index (omega arith) l.invariant.1
