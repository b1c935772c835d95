-- What is left to show of `state_records::is_past`.
use Rattle.state_records.proofs.Search.{four_past}
use Rattle.state_records.proofs.is_past.Goals as goal

pub returns : goal.returns
returns c =
    let start = c.args in
    four_past start.s.now start.k start.client start.call c.is_id-first.ensures c.is_id-second.ensures c.is_id-third.ensures c.is_id-fourth.ensures
