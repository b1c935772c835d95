-- What is left to show of `leases::span_ok`.
use borrow.Author.Rules.{rules}
use Rattle.model.specs.Leases.{span_ok}
use Rattle.leases.proofs.span_ok.Goals as goal

pub returns : goal.returns
unfolding span_ok
returns c = search rules
