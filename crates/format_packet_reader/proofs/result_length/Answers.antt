-- What is left to show of `format_packet_reader::result_length`.
use mathlib.Core.Path.{refl}
use Rattle.model.specs.Packets.{packet_length, result_kind_of}
use Rattle.format_packet_reader.proofs.result_length.Goals as goal

pub returns-then-timed : goal.returns-then-timed
unfolding packet_length result_kind_of
returns-then-timed c = rw c.if-timed.true refl

pub returns-else-timed : goal.returns-else-timed
unfolding packet_length result_kind_of
returns-else-timed c = rw c.if-timed.false refl
