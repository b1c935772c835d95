-- What is left to show of `state_clients::insert`.
use native.Mathlib.Omega.{arith}
use Rattle.state_clients.proofs.Loops.{entered-move, entered-set, entered-end}
use Rattle.state_clients.proofs.insert.Goals as goal

pub move_up-requires : goal.move_up-requires
move_up-requires c =
    entered-move c.requires.0 c.requires.1 c.requires.2 (record { client = omega arith; floor = omega arith }) c.clients_of-n.ensures c.add_row.ensures

pub set_row-requires : goal.set_row-requires
set_row-requires c =
    entered-set c.requires.0 c.requires.1 c.requires.2 (record { client = omega arith; floor = omega arith }) c.clients_of-n.ensures c.add_row.ensures c.move_up.ensures

pub returns : goal.returns
returns c =
    entered-end c.requires.0 c.requires.1 c.requires.2 (record { client = omega arith; floor = omega arith }) c.clients_of-n.ensures c.add_row.ensures c.move_up.ensures c.set_row.ensures
