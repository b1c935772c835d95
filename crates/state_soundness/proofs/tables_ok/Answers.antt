-- What is left to show of `state_soundness::tables_ok`.
use Rattle.state_sound_rows.proofs.Chains.{chain}
use Rattle.state_soundness.proofs.Whole.{tables_by}
use Rattle.state_soundness.proofs.tables_ok.Goals as goal

pub returns-then-not-points_ok : goal.returns-then-not-points_ok
returns-then-not-points_ok c =
    rw (tables_by _ c.server_of-server.ensures c.size_of-size.ensures c.clients_in-n.ensures) (search chain depth 24)

pub returns-then-not-floors_ok : goal.returns-then-not-floors_ok
returns-then-not-floors_ok c =
    rw (tables_by _ c.server_of-server.ensures c.size_of-size.ensures c.clients_in-n.ensures) (search chain depth 24)

pub returns-then-not-clients_ascend : goal.returns-then-not-clients_ascend
returns-then-not-clients_ascend c =
    rw (tables_by _ c.server_of-server.ensures c.size_of-size.ensures c.clients_in-n.ensures) (search chain depth 24)

pub returns : goal.returns
returns c =
    rw (tables_by _ c.server_of-server.ensures c.size_of-size.ensures c.clients_in-n.ensures) (search chain depth 24)
