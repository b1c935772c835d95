-- What is left to show of `simulator_text::read_line::line_of`.
use mathlib.Core.Path.{refl}
use Rattle.model.specs.Simulator.{numbers_from, line_by, line_with, line_of_fields, line_of}
use Rattle.simulator_text.proofs.Fields.{fields-last, fields-parts}
use Rattle.simulator_text.proofs.read_line.line_of.Goals as goal

pub returns-in_err-n : goal.returns-in_err-n
unfolding line_of line_of_fields line_with
returns-in_err-n c =
    rw (c.from_residual.ensures, fields-parts _ _ c.find-end.ensures.0 c.if-end-s.true, ← c.in_err-n.ensures.read) refl

pub returns-then-end-s : goal.returns-then-end-s
unfolding line_of line_of_fields line_with
returns-then-end-s c =
    rw (fields-parts _ _ c.find-end.ensures.0 c.if-end-s.true, ← c.letter_in-letter.ensures, ← c.in_ok-n.ensures.read) c.line_by.ensures

pub returns : goal.returns
unfolding line_of line_of_fields line_with numbers_from line_by
returns c = rw (fields-last _ _ c.find-end.ensures.0 c.if-end-s.false) refl
