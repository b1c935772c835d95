-- What is left to show of `server_found::put_points`.
use Rattle.server_found.proofs.Founded.{pointed-start, pointed-next, pointed-end}
use Rattle.server_found.proofs.put_points.Goals as goal

pub loop-i-init : goal.loop-i-init
loop-i-init c = pointed-start _ _ _

pub loop-i-preserved : goal.loop-i-preserved
loop-i-preserved c =
    pointed-next c.loop-i.invariant c.loop-i-test.true c.put_founded.ensures

pub returns : goal.returns
returns c = pointed-end c.loop-i.invariant c.loop-i-test.false
