-- What is left to show of `client_c::mantelorris_issue`.
use mathlib.Core.Path.{refl}
use Rattle.model.specs.Clients.{call_at, with_calls}
use Rattle.client_c.proofs.Cases.{sent_numbered, sends}
use Rattle.client_c.proofs.mantelorris_issue.Goals as goal

pub issue_change-change-requires : goal.issue_change-change-requires
unfolding call_at
issue_change-change-requires c = rw c.place_of-i.ensures.0 refl

pub returns : goal.returns
unfolding with_calls
returns c = rw c.place_of-i.ensures.0 (sends _ c.issue_change-change.result c.issue_change-change.ensures (sent_numbered _ c.numbered.ensures c.send_reply.ensures))
