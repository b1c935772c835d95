-- What is left to show of `leases::query_change`.
use borrow.Author.Rules.{rules}
use Rattle.leases.proofs.Answers.{query-unknown, query-done}
use Rattle.leases.proofs.query_change.Goals as goal

pub returns-then-client-m : goal.returns-then-client-m
returns-then-client-m c = rw c.no_change.ensures (query-unknown _ _ _ c.if-client-m.true)

pub returns : goal.returns
returns c = search (rules, query-done)
