-- What is left to show of `client::issue`.
use Rattle.model.specs.Clients.{with_calls}
use Rattle.client.specs.Changes.{issued}
use Rattle.client.proofs.issue.Goals as goal

pub returns : goal.returns
unfolding issued with_calls
returns c = rw c.placed-calls.ensures c.issue_change-change.ensures
