-- What is left to show of `client::not_received`.
use Rattle.client.proofs.Answers.{not-received}
use Rattle.client.proofs.not_received.Goals as goal

pub returns : goal.returns
returns c = not-received _ _ _ c.requires
