-- What is left to show of `simulator_text::write_reply::put_byte`.
use mathlib.Core.Path.{sym}
use native.Mathlib.Omega.{arith}
use Rattle.model_laws.proofs.Written.{written-sets}
use Rattle.simulator_text.proofs.write_reply.put_byte.Goals as goal

pub returns : goal.returns
returns c = record { text = sym (written-sets _ _ _); behind = omega arith }
