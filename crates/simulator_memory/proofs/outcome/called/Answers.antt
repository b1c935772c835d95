-- What is left to show of `simulator_memory::outcome::called`.
use lib.ListN.{take}
use Rattle.simulator_memory.proofs.Rows.{take-most, front-part}
use Rattle.simulator_memory.proofs.Outcomes.{told_by, made_by_lem}
use native.Mathlib.Omega.{arith}
use Prim.Native.Nat.{◌-◌}
use Rattle.simulator_memory.proofs.outcome.called.Goals as goal

pub returns-then-answer-eq0 : goal.returns-then-answer-eq0
returns-then-answer-eq0 c = told_by _ _ _ _ _ c.told.ensures.0 c.told.ensures.1 c.if-answer-eq0.true

pub put_packet-requires : goal.put_packet-requires
put_packet-requires c =
    (c.requires.0.rows, omega (arith, take-most (c.lesser-n.result - 0) c.args.out.now, c.requires.1))

pub returns : goal.returns
returns c =
    let out = c.args.out.now in
    made_by_lem _ _ _ _ _ _ (take (c.lesser-n.result - 0) out) c.requires.0 (omega (arith, take-most (c.lesser-n.result - 0) out, c.requires.1))
    (rw c.lesser-n.ensures (front-part c.args.answer.wrote out)) c.put_packet.ensures c.made_one.ensures.0 c.made_one.ensures.1 c.if-answer-eq0.false
