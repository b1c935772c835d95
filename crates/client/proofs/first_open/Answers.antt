-- What is left to show of `client::first_open`.
use Rattle.model.specs.Clients.{first_open}
use Rattle.client.proofs.first_open.Goals as goal

pub returns : goal.returns
unfolding first_open
returns c = c.least_open.ensures
