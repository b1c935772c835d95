-- What is left to show of `client::not_issued`.
use Rattle.client.proofs.Answers.{not-issued}
use Rattle.client.proofs.not_issued.Goals as goal

pub returns : goal.returns
returns c = not-issued _ _ c.requires
