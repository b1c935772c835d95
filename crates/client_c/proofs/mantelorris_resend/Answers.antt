-- What is left to show of `client_c::mantelorris_resend`.
use mathlib.Core.Path.{refl, ap, ◌∙◌}
use Rattle.model.specs.declared.SendAnswer.{SendAnswer}
use Rattle.model.specs.Clients.{call_at}
use Rattle.client_c.specs.Replies.{send_reply}
use Rattle.client_c.proofs.Cases.{sent_numbered}
use Rattle.client_c.proofs.mantelorris_resend.Goals as goal

pub resend_answer-requires : goal.resend_answer-requires
unfolding call_at
resend_answer-requires c = rw c.place_of-i.ensures.0 refl

pub returns : goal.returns
returns c =
    let whole = c.resend_answer.ensures in
    (sent_numbered _ c.numbered.ensures c.send_reply.ensures ∙ ap (λ (x : SendAnswer). send_reply x.answer) whole, ap (λ (x : SendAnswer). x.client) whole)
