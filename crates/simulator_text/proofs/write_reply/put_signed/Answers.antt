-- What is left to show of `simulator_text::write_reply::put_signed`.
use Rattle.simulator_text.proofs.Texts.{signed-minus, signed-plain}
use Rattle.simulator_text.proofs.write_reply.put_signed.Goals as goal

pub returns-then-v-lt-HALF : goal.returns-then-v-lt-HALF
returns-then-v-lt-HALF c =
    signed-minus _ c.if-v-lt-HALF.true c.put_byte-count.ensures c.put_number.ensures

pub returns : goal.returns
returns c = signed-plain _ c.if-v-lt-HALF.false c.put_number-2.ensures
