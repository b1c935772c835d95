-- What is left to show of `state_records::is_id`.
use native.Mathlib.Omega.{arith}
use Rattle.state_records.proofs.Search.{id-there}
use Rattle.state_records.proofs.is_id.Goals as goal

pub returns : goal.returns
returns c =
    let start = c.args in
    id-there start.s.now start.k start.client start.call (λ i. (c.type_inv.s i).fits) (omega arith) c.read_u64.ensures
