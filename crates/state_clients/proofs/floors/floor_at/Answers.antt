-- What is left to show of `state_clients::floors::floor_at`.
use Rattle.state_clients.proofs.Search.{floor-past, floor-within}
use Rattle.state_clients.proofs.floors.floor_at.Goals as goal

pub returns-else-i-n : goal.returns-else-i-n
returns-else-i-n c =
    let a = c.args in
    floor-past a.s.now a.at a.n a.i c.if-i-n.false

pub returns-then-i-n : goal.returns-then-i-n
returns-then-i-n c =
    let a = c.args in
    floor-within a.s.now a.at a.n a.i c.if-i-n.true c.floor_from.ensures
