-- What is left to show of `client_c::mantelorris_query`.
use Rattle.client_c.proofs.Cases.{leases}
use Rattle.client_c.proofs.mantelorris_query.Goals as goal

pub returns : goal.returns
returns c = leases _ c.query_change-change.result c.query_change-change.ensures c.store_change.ensures c.lease_reply.ensures
