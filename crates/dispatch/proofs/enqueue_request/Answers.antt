-- What is left to show of `dispatch::enqueue_request`.
use Rattle.dispatch.proofs.Answers.{room, not-taken_in, taken_in_lem}
use Rattle.dispatch.proofs.enqueue_request.Goals as goal

pub with_last-requires : goal.with_last-requires
with_last-requires c = room _ _ c.in-Ok.ensures

pub returns-in-Ok : goal.returns-in-Ok
returns-in-Ok c = taken_in_lem _ _ c.in-Ok.ensures c.with_last.ensures

pub returns-in-Err : goal.returns-in-Err
returns-in-Err c = not-taken_in _ _ _ c.in-Err.ensures c.number.ensures
