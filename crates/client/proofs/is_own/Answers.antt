-- What is left to show of `client::is_own`.
use Rattle.client.proofs.Answers.{is-own}
use Rattle.client.proofs.is_own.Goals as goal

pub returns : goal.returns
returns c = search is-own
