-- What is left to show of `simulator_text::write_reply::put_field`.
use Rattle.simulator_text.proofs.Texts.{put_then, length-shown}
use native.Mathlib.Omega.{arith}
use Rattle.simulator_text.proofs.write_reply.put_field.Goals as goal

pub put_byte-requires : goal.put_byte-requires
put_byte-requires c = omega
    (arith, c.put_number-count.ensures.behind, length-shown c.args.v, c.put_number-count.auto.page)

pub returns : goal.returns
returns c = put_then c.put_number-count.ensures c.put_byte.ensures
