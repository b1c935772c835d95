-- What is left to show of `format_numbers::write_4`.
use Rattle.model_laws.proofs.Written.{written-sets}
use native.Mathlib.Numerals.{towards_suc}
use Rattle.format_numbers.proofs.write_4.Goals as goal

pub returns : goal.returns
returns c = rw written-sets (simp towards_suc)
