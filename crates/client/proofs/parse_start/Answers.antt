-- What is left to show of `client::parse_start`.
use mathlib.Core.Path.{ap, ◌∙◌}
use Rattle.model.specs.Clients.{start_with}
use Rattle.client.proofs.Others.{start-other, start-grant}
use Rattle.client.proofs.parse_start.Goals as goal

pub returns-then-packet-ne-GRANT_SIZE : goal.returns-then-packet-ne-GRANT_SIZE
returns-then-packet-ne-GRANT_SIZE c = start-other _ (λ k n. c.if-packet-ne-GRANT_SIZE.true n)

pub returns-then-packet-ne-GRANT_KIND : goal.returns-then-packet-ne-GRANT_KIND
returns-then-packet-ne-GRANT_KIND c = start-other _ (λ k n. c.if-packet-ne-GRANT_KIND.true k)

pub returns : goal.returns
returns c = ap start_with c.parse_grant.ensures ∙ start-grant _ c.if-packet-ne-GRANT_KIND.false
