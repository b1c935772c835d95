-- What is left to show of `state_records::over_floors`.
use Rattle.state_records.proofs.Kept.{clients-within, floor-stays}
use Rattle.state_records.proofs.over_floors.Goals as goal

pub floor_of-floor-requires : goal.floor_of-floor-requires
floor_of-floor-requires c =
    clients-within c.args.s.now c.requires.0 c.requires.1 c.clients_of.ensures

pub returns : goal.returns
returns c =
    let start = c.args in
    floor-stays start.s.now start.r c.clients_of.ensures c.floor_of-floor.ensures
