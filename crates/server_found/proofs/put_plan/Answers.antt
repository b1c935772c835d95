-- What is left to show of `server_found::put_plan`.
use Rattle.model_laws.proofs.Written.{tail-back}
use Rattle.model.specs.States.{state_head}
use Rattle.server_found.proofs.put_plan.Goals as goal

pub returns : goal.returns
returns c = rw c.copy_bytes.ensures (tail-back state_head c.args.s.now c.args.plan.now)
