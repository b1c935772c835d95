-- What is left to show of `client_c::mantelorris_open`.
use Rattle.client_c.proofs.Cases.{leases}
use Rattle.client_c.proofs.mantelorris_open.Goals as goal

pub returns : goal.returns
returns c = leases _ c.open_change-change.result c.open_change-change.ensures c.store_change.ensures c.lease_reply.ensures
