-- What is left to show of `format_floors::put_floor`.
use Rattle.model.specs.Images.{floor_bytes}
use Rattle.format_floors.proofs.Rows.{two_runs}
use Rattle.format_floors.proofs.put_floor.Goals as goal

pub returns : goal.returns
unfolding floor_bytes
returns c =
    let start = c.args in
    rw (c.write_u32-2.ensures, c.write_u32.ensures) (two_runs start.out.now start.k start.f.client start.f.floor)
