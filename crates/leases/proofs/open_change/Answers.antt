-- What is left to show of `leases::open_change`.
use borrow.Author.Rules.{rules}
use Rattle.leases.proofs.Answers.{open_done}
use Rattle.leases.proofs.open_change.Goals as goal

pub returns : goal.returns
returns c = search (rules, open_done)
