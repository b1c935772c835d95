-- What is decided on a request, as a decision of the model; and the refusal packet of a request.
-- Assumes nothing.
use Rattle.std.specs.Prelude.{ℕ, ◌+◌, ◌≡◌, true, List, Result, Ok, Err}
use Rattle.model.specs.declared.Executed.{Executed}
use Rattle.model.specs.declared.Request.{Request}
use Rattle.model.specs.declared.RefusalPacket.{RefusalPacket}
use Rattle.model.specs.Choice.{refuse, reply, append}
use Rattle.model.specs.Packets.{result_bytes}
use Rattle.model.specs.Limits.{executed_size}
use Rattle.model.specs.Tables.{written}
use Rattle.model.specs.Logs.{executed, record_bytes}
use Rattle.model.specs.States.{State, load}
use Rattle.model.specs.Versions.{today}
use Rattle.model.specs.Apply.{apply_executed}
use Rattle.model.specs.Operations.{stored}
use Rattle.model.specs.Decisions.{Decided, result_of_record, decide_request, denying}
use Rattle.model.specs.declared.Refusal.{Refusal}
use Rattle.refusals.specs.Numbers.{number_of}
use Rattle.server_service.specs.declared.request.Decision.{Decision}
use Rattle.server_service.specs.declared.request.Decision.TheVariants.{Reply, Execute}

unfoldable pub decided : Result Decision Refusal → Decided
decided (Err e) = refuse (number_of e)
decided (Ok (Reply x)) = reply (result_bytes (result_of_record true x))
decided (Ok (Execute x)) = append (executed x)

abbrev pub refusal_for : ℕ → Request → RefusalPacket
refusal_for n q = record { refusal = n; point = q.command.point; client = q.command.client; call = q.command.call }

-- the decision on a well-formed request, with the refusal packet
abbrev pub requested_by : Request → State → ℕ → Decided
requested_by q st free = denying q (decide_request today st free q)

-- an execution logged and applied: the state s and the log become t and l
abbrev pub Executes : Executed → List ℕ → List ℕ → List ℕ → List ℕ → Type 0
Executes x s log t l =
    (t ≡ stored s (apply_executed x ((load s).size + executed_size) (load s)))
    × (l ≡ written log (load s).size (record_bytes (executed x)))
