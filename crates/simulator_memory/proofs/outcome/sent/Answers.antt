-- What is left to show of `simulator_memory::outcome::sent`.
use Rattle.simulator_memory.proofs.Outcomes.{told-sent, made-sent}
use Rattle.simulator_memory.proofs.outcome.sent.Goals as goal

pub returns-in-Err : goal.returns-in-Err
returns-in-Err c = told-sent _ _ _ _ c.in-Err.is c.number.ensures c.told.ensures.0 c.told.ensures.1

pub returns-in-Ok : goal.returns-in-Ok
returns-in-Ok c =
    made-sent _ _ _ _ _ c.in-Ok.is c.requires c.request_packet-packet.ensures c.put_packet.ensures c.made_one.ensures.0 c.made_one.ensures.1
