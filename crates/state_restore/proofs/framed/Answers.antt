-- What is left to show of `state_restore::framed`.
use Rattle.model.specs.Checkpoints.{checkpoint_framed}
use native.Mathlib.Omega.{arith}
use Rattle.model_laws.proofs.Ands.{ands}
use Rattle.model_laws.proofs.Fronts.{record-width}
use Rattle.state_restore.proofs.Lengths.{framed_by}
use borrow.Author.Rules.{rules}
use Rattle.state_restore.proofs.framed.Goals as goal

pub returns-then-checkpoint-lt-CHECKPOINT_HEAD : goal.returns-then-checkpoint-lt-CHECKPOINT_HEAD
unfolding checkpoint_framed
returns-then-checkpoint-lt-CHECKPOINT_HEAD c = search ands depth 24

pub pairs_ok-pairs-requires : goal.pairs_ok-pairs-requires
pairs_ok-pairs-requires c =
    (search rules, omega (arith, c.record_width-width.ensures, (record-width c.args.checkpoint.now).0))

pub returns : goal.returns
returns c =
    framed_by c.args.checkpoint.now c.if-checkpoint-lt-CHECKPOINT_HEAD.false c.starts_with-timed.ensures c.starts_with-untimed.ensures c.record_width-width.ensures c.pairs_ok-pairs.ensures
