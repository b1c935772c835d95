-- What is left to show of `format_image_reader::body_ok`.
use native.Mathlib.Omega.{arith}
use Rattle.format_image_reader.proofs.Whole.{parts-size}
use Rattle.format_image_reader.specs.Answers.{body_ok}
use Rattle.model_laws.proofs.Ands.{ands}
use Rattle.format_image_reader.proofs.body_ok.Goals as goal

pub returns-then-not-head_ok : goal.returns-then-not-head_ok
unfolding body_ok
returns-then-not-head_ok c = search ands depth 16

pub returns-then-not-parts_ok : goal.returns-then-not-parts_ok
unfolding body_ok
returns-then-not-parts_ok c = search ands depth 16

pub tables_ok-requires : goal.tables_ok-requires
tables_ok-requires c = omega (arith, parts-size _ _ c.parts_ok.ensures c.if-not-parts_ok.false)

pub returns : goal.returns
unfolding body_ok
returns c = search ands depth 16
