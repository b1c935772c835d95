-- What is left to show of `state_sound_rows::framed`.
use mathlib.Core.Bool.{not}
use mathlib.Core.Path.{ap}
use Rattle.state_sound_rows.proofs.Framing.{few_clients, framed_is, framed_rows}
use Rattle.state_sound_rows.proofs.Chains.{chain}
use native.Mathlib.Omega.{arith}
use Rattle.state_sound_rows.proofs.framed.Goals as goal

pub returns-then-not-head_framed : goal.returns-then-not-head_framed
returns-then-not-head_framed c = rw framed_is (search chain depth 24)

pub overflow_sub-n : goal.overflow_sub-n
overflow_sub-n c =
    omega (arith, few_clients c.args.s.now c.head_framed.ensures (ap not c.if-not-head_framed.false))

pub or_words-requires : goal.or_words-requires
or_words-requires c =
    let few = few_clients c.args.s.now c.head_framed.ensures (ap not c.if-not-head_framed.false) in omega arith

pub returns : goal.returns
returns c =
    framed_rows c.args.s.now c.head_framed.ensures (ap not c.if-not-head_framed.false) c.clients_in-n.ensures c.or_words.result c.or_words.ensures
