-- The versions of the ops' rules: a request that changes a rule adds a version, and commands executed before stay as they were. A version past
-- the last of an op's counts as its last.
-- Assumes nothing.
use Rattle.std.specs.Prelude.{ℕ, Bool, true, eqb}
use Rattle.model.specs.Choice.{pick}
use Rattle.model.specs.Limits.{set_op, step_op, part_op, valid, by_hand}

-- the versions of an op's rule, in the order in which they came
pub data Version : Type 0 where
  first : Version
  second : Version
  third : Version

-- the quality of a value that was set: by the first version valid, by the second entered by hand
abbrev pub set_quality : Version → ℕ
set_quality first = valid
set_quality second = by_hand
set_quality third = by_hand

-- of one that is a part of the range: by the first two versions valid, by the third entered by hand
abbrev pub part_quality : Version → ℕ
part_quality first = valid
part_quality second = valid
part_quality third = by_hand

-- what a program executes and writes by; `rule op` is the version of an op's rule; `timed`: it writes the forms with a time of execution
pub record Versions : Type 0 where
  pub rule : ℕ → Version
  pub timed : Bool

-- this program's: of set the second, by hand; of step the second, which stops at the range's end; of part the third, to the nearest and by hand
abbrev pub today : Versions
today = record { rule = λ op. pick (eqb op set_op) second (pick (eqb op step_op) second (pick (eqb op part_op) third first)); timed = true }
