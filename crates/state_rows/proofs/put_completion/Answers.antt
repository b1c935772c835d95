-- What is left to show of `state_rows::put_completion`.
use Rattle.state_rows.proofs.Rows.{completion-runs}
use Rattle.state_rows.proofs.put_completion.Goals as goal

pub returns : goal.returns
returns c =
    let start = c.args in
    rw (c.write_u64.ensures, c.write_u32-3.ensures, c.write_4.ensures, c.write_signed-2.ensures, c.write_signed.ensures, c.write_u32-2.ensures, c.write_u32.ensures)
    (completion-runs start.s.now start.k start.r)
