-- What is left to show of `client::packet_call`.
use mathlib.Core.Path.{refl}
use borrow.Author.Tests.{lt-ltb, le-ltb}
use Rattle.client.specs.Changes.{packet_call}
use Rattle.client.proofs.packet_call.Goals as goal

pub returns-then-packet-lt-REFUSAL_SIZE : goal.returns-then-packet-lt-REFUSAL_SIZE
unfolding packet_call
returns-then-packet-lt-REFUSAL_SIZE c = rw (lt-ltb _ _ c.if-packet-lt-REFUSAL_SIZE.true) refl

pub returns : goal.returns
unfolding packet_call
returns c = rw (le-ltb _ _ c.if-packet-lt-REFUSAL_SIZE.false) c.read_u32.ensures
