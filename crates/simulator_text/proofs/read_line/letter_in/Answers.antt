-- What is left to show of `simulator_text::read_line::letter_in`.
use Rattle.simulator_text.proofs.Lines.{letter_one, letter_other}
use Rattle.simulator_text.proofs.read_line.letter_in.Goals as goal

pub returns-then-field-eq1 : goal.returns-then-field-eq1
returns-then-field-eq1 c = letter_one _ c.if-field-eq1.true

pub returns : goal.returns
returns c = letter_other _ c.if-field-eq1.false
