-- What is left to show of `client::place_of`.
use Rattle.model.specs.Clients.{place_of}
use borrow.Author.Rules.{rules}
use Rattle.client.proofs.place_of.Goals as goal

pub returns : goal.returns
unfolding place_of
returns c = search rules
