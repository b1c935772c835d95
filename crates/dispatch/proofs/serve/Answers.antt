-- What is left to show of `dispatch::serve`.
use Rattle.dispatch.proofs.Answers.{serve-none, serve-first}
use Rattle.dispatch.proofs.serve.Goals as goal

pub returns-then-dispatcher-eq0 : goal.returns-then-dispatcher-eq0
returns-then-dispatcher-eq0 c = serve-none _ _ _ _ c.if-dispatcher-eq0.true c.answer.ensures

pub returns : goal.returns
returns c =
    serve-first _ _ _ _ c.if-dispatcher-eq0.false c.first_waiting-q.ensures c.request_packet-packet.ensures
    (rw c.request_answer.ensures c.request-outcome.ensures) c.without_first.ensures
