-- What is left to show of `simulator_memory::packets::packet_at`.
use Rattle.simulator_memory.proofs.Rows.{lesser_most}
use Rattle.simulator_memory.proofs.Outcomes.{packet-part}
use native.Mathlib.Omega.{arith}
use Prim.Native.Nat.{◌≤◌}
use Rattle.model.specs.Limits.{greatest_image}
use Rattle.simulator_memory.proofs.packets.packet_at.Goals as goal

pub overflow_add-to : goal.overflow_add-to
overflow_add-to c = let m : c.lesser.result ≤ greatest_image = rw c.lesser.ensures (lesser_most c.read_u32-number.result greatest_image) in omega arith

pub slice_bounds-result-end : goal.slice_bounds-result-end
slice_bounds-result-end c = let m : c.lesser.result ≤ greatest_image = rw c.lesser.ensures (lesser_most c.read_u32-number.result greatest_image) in omega arith

pub returns : goal.returns
returns c = packet-part _ _ c.read_u32-number.ensures c.lesser.ensures
