-- What is left to show of `state_rows::put_point`.
use Rattle.state_rows.proofs.Rows.{point-runs}
use Rattle.state_rows.proofs.put_point.Goals as goal

pub returns : goal.returns
returns c =
    let start = c.args in
    rw (c.write_u64-2.ensures, c.write_u64.ensures, c.write_u32-2.ensures, c.write_u32.ensures, c.write_signed.ensures, c.write_4.ensures)
    (point-runs start.s.now start.k start.x)
