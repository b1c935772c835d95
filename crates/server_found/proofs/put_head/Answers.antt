-- What is left to show of `server_found::put_head`.
use Rattle.server_found.proofs.Founded.{head-runs}
use Rattle.server_found.proofs.put_head.Goals as goal

pub returns : goal.returns
returns c =
    let start = c.args in
    rw (c.put_mark.ensures, c.put_size.ensures, c.clear.ensures, c.write_4.ensures, c.write_magic.ensures)
    (head-runs start.s.now start.server)
