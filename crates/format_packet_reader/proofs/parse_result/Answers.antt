-- What is left to show of `format_packet_reader::parse_result`.
use mathlib.Core.Path.{sym, ◌∙◌}
use Rattle.model.specs.Packets.{result_kind_of, parse_result}
use Rattle.format_packet_reader.proofs.Whole.{other_length, by_fields, result-size}
use Rattle.format_packet_reader.proofs.parse_result.Goals as goal

pub returns-then-packet-result_length : goal.returns-then-packet-result_length
unfolding parse_result
returns-then-packet-result_length c = other_length _ (result_kind_of _) _ _ (λ e. c.if-packet-result_length.true (e ∙ sym c.result_length.ensures))

pub result_at-completed-requires : goal.result_at-completed-requires
unfolding parse_result
result_at-completed-requires c = result-size _ c.if-packet-result_length.false c.result_length.ensures

pub returns : goal.returns
unfolding parse_result
returns c = by_fields _ (result_kind_of _) _ _ (c.if-packet-result_length.false ∙ c.result_length.ensures) cc
