-- Demand 3: after every schedule there is one order of all surviving commands, each once, that explains every result and every
-- final value, in real-time order. Bytes refine records, and records refine the protocol.
-- And the fence: a command is executed only after it was issued, and a client fenced off from a point executes nothing on it any more.
-- And times of execution: two results of one id have one time, and a client receives that of the command that it completes.
--     demand3
--     times
--     fence
-- Assumes nothing.
use Rattle.claim.specs.Claim.{Demand3}
use Rattle.claim.specs.Fence.{Fence}
use Rattle.claim.specs.Times.{Times}
use Rattle.claim.proofs.Times.{times_of}
use Rattle.proof_records.proofs.Demand3.{demand3_records}
use Rattle.proof_records.proofs.Fence.{fence-records}
use Rattle.safety.proofs.FromRecords.{from-records}
use Rattle.safety.proofs.Fence.{fence-from-records}

pub demand3 : Demand3
demand3 = from-records demand3_records

pub times : Times
unfolding Times Demand3
times plan es P = let x = demand3 plan es P in times_of plan es x.0 x.1

pub fence : Fence
fence = fence-from-records fence-records
