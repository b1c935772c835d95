-- What is left to show of `simulator_memory::packets::put_packet`.
use Rattle.simulator_memory.proofs.Outcomes.{put-part}
use Rattle.simulator_memory.proofs.packets.put_packet.Goals as goal

pub returns : goal.returns
returns c = put-part _ _ _ _ _ c.write_u32.ensures c.copy_bytes.ensures
