-- What is left to show of `simulator_text::write_reply::put_digits`.
use Prim.Native.Nat.{◌-◌, ◌/◌}
use native.Mathlib.Omega.{arith}
use Rattle.simulator_text.proofs.Texts.{digits_none, digits_one, digits_more, length_digits}
use Rattle.simulator_text.proofs.write_reply.+put_digits.Goals as goal

pub returns-then-room-eq0 : goal.returns-then-room-eq0
returns-then-room-eq0 t c = digits_none _ _ _ _ c.if-room-eq0.true

pub returns-then-v-lt10 : goal.returns-then-v-lt10
returns-then-v-lt10 t c = digits_one _ _ c.if-room-eq0.false c.if-v-lt10.true c.put_byte.ensures

pub put_byte-requires-2 : goal.put_byte-requires-2
put_byte-requires-2 t c =
    omega (arith, c.put_digits-count.ensures.behind, length_digits (c.args.room - 1) (c.args.v / 10), c.put_digits-count.auto.page)

pub returns : goal.returns
returns t c = digits_more _ _ c.if-room-eq0.false c.if-v-lt10.false c.put_digits-count.ensures c.put_byte-2.ensures
