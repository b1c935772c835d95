-- What is left to show of `simulator_memory::packets::place_of`.
use mathlib.Core.Path.{sym}
use native.Mathlib.Omega.{arith}
use Rattle.simulator_memory.proofs.Rows.{numbered-zero, numbered-none, numbered-made}
use Rattle.simulator_memory.proofs.packets.place_of.Goals as goal

pub returns-in_err-row : goal.returns-in_err-row
returns-in_err-row c = rw c.from_residual.ensures ((λ s. sym (numbered-zero s _ _ (omega (arith, c.in_err-row.ensures)))), tt)

pub returns-then-row-count : goal.returns-then-row-count
returns-then-row-count c = ((λ s. sym (numbered-made s _ _ _ (omega (arith, c.in_ok-row.ensures)) (omega arith))), omega arith)

pub returns : goal.returns
returns c = ((λ s. sym (numbered-none s _ _ (omega (arith, c.in_ok-row.ensures)))), tt)
