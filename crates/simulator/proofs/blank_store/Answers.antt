-- What is left to show of `simulator::blank_store`.
use Prim.Native.Nat.{ℕ, ◌*◌}
use lib.ListN.{length-replicate}
use Rattle.model.specs.Simulator.{most_lines}
use Rattle.simulator_memory.specs.Store.{row_size}
use Rattle.simulator.proofs.blank_store.Goals as goal

pub returns : goal.returns
returns c = length-replicate {A = ℕ} (row_size * most_lines) 0
