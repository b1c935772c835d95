-- What is left to show of `server_inspect::records::is_row_id`.
use Rattle.server_inspect.proofs.Rows.{row_id}
use Rattle.server_inspect.proofs.records.is_row_id.Goals as goal

pub returns : goal.returns
returns c =
    let start = c.args in
    row_id start.s.now start.k start.client start.call c.read_u32-owner.ensures c.read_u32-c.ensures
