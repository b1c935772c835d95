-- What is left to show of `server_moves::release::release_done`.
use Rattle.server_moves.proofs.Chains.{release_settled}
use Rattle.server_moves.proofs.release.release_done.Goals as goal

pub returns : goal.returns
returns c =
    let a = c.args in release_settled a.s.now a.log.now a.point c.point_at-x.ensures c.size_of-size.ensures c.apply_released.ensures
    c.append.ensures
