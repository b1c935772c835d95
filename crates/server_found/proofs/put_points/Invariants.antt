-- The invariants of `server_found::put_points`.
use Rattle.server_found.proofs.Founded.{Pointed}
use Rattle.server_found.proofs.put_points.Given as goal

abbrev pub invariant-loop-i : goal.invariant-loop-i
invariant-loop-i l = Pointed l.server l.initial.s l.plan l.s l.i
