-- What is left to show of `client::resend_answer`.
use Rattle.client.proofs.Answers.{resend_open, resend-unknown}
use Rattle.client.proofs.resend_answer.Goals as goal

pub returns-then-c-opened : goal.returns-then-c-opened
returns-then-c-opened c = search resend_open depth 8

pub returns : goal.returns
returns c = search resend-unknown depth 8
