-- What is left to show of `state_restore::restore_sound`.
use mathlib.Core.Bool.{not}
use mathlib.Core.Path.{ap}
use Rattle.state_restore.proofs.Answers.{restored_no, restored_as}
use Rattle.state_restore.proofs.restore_sound.Goals as goal

pub returns-then-not-framed : goal.returns-then-not-framed
returns-then-not-framed c =
    restored_no _ c.framed.ensures _ (ap not c.if-not-framed.true)

pub returns : goal.returns
returns c =
    restored_as _ c.framed.ensures (ap not c.if-not-framed.false) (λ i. (c.type_inv.checkpoint i).fits) c.args.work.now c.requires c.restore.ensures
    (λ i. (c.slice_known-2-1.given i).fits) c.state_ok.ensures
