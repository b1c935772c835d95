-- What is left to show of `server_decide::places_bad`.
use Rattle.model.specs.Decisions.{places_bad}
use borrow.Author.Rules.{rules}
use Rattle.server_decide.proofs.places_bad.Goals as goal

pub returns : goal.returns
unfolding places_bad
returns c = search rules
