-- What is left to show of `state_checkpoint::write_pair`.
use mathlib.Core.Path.{refl}
use Rattle.model.specs.Numbers.{le32}
use Rattle.model_laws.proofs.Written.{run-behind}
use Rattle.state_checkpoint.proofs.write_pair.Goals as goal

pub returns : goal.returns
returns c =
    let start = c.args in
    rw (c.write_u32-2.ensures, c.write_u32.ensures) (run-behind start.checkpoint.now start.at (le32 start.offset) (le32 start.size) refl refl)
