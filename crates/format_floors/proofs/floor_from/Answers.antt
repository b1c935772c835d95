-- What is left to show of `format_floors::floor_from`.
use Rattle.format_floors.proofs.Rows.{floor-drop}
use Rattle.format_floors.proofs.floor_from.Goals as goal

pub returns : goal.returns
returns c =
    let start = c.args in
    cc (floor-drop start.s.now start.k)
