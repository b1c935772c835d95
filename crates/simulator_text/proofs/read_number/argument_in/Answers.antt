-- What is left to show of `simulator_text::read_number::argument_in`.
use mathlib.Core.Path.{ap, ◌∙◌}
use Rattle.model_laws.proofs.Written.{tail-part}
use Rattle.model.specs.Simulator.{number_in}
use Rattle.simulator_text.proofs.Lines.{argument-none, argument-minus, argument-plain}
use Rattle.simulator_text.proofs.read_number.argument_in.Goals as goal

pub returns-then-s-eq0 : goal.returns-then-s-eq0
returns-then-s-eq0 c = argument-none _ c.if-s-eq0.true

pub returns-then-s-eq45 : goal.returns-then-s-eq45
returns-then-s-eq45 c = argument-minus _ c.if-s-eq0.false c.if-s-eq45.true
    (c.number_in.ensures ∙ ap number_in (tail-part 1 c.args.s.now)) c.negative_of.ensures

pub returns : goal.returns
returns c = argument-plain _ c.if-s-eq0.false c.if-s-eq45.false c.number_in-2.ensures c.positive_of.ensures
