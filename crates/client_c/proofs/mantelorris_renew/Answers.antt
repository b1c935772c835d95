-- What is left to show of `client_c::mantelorris_renew`.
use Rattle.client_c.proofs.Cases.{leases}
use Rattle.client_c.proofs.mantelorris_renew.Goals as goal

pub returns : goal.returns
returns c = leases _ c.renew_change-change.result c.renew_change-change.ensures c.store_change.ensures c.lease_reply.ensures
