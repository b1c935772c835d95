-- What is left to show of `client_c::lease_reply`.
use borrow.Author.Rules.{rules}
use Rattle.client_c.proofs.Cases.{lease-none, lease-grant, lease-notice}
use Rattle.client_c.proofs.lease_reply.Goals as goal

pub returns-in-Err : goal.returns-in-Err
returns-in-Err c = rw c.in-Err.is (lease-none _ c.number.ensures)

pub returns-in-Ok-ByGrant : goal.returns-in-Ok-ByGrant
returns-in-Ok-ByGrant c = search (rules, lease-grant)

pub returns-in-Ok-ByNotice : goal.returns-in-Ok-ByNotice
returns-in-Ok-ByNotice c = search (rules, lease-notice)
