-- What is left to show of `server_inspect::shown::part_at`.
use borrow.Author.Tests.{eq-eqb, ne_eqb}
use Rattle.model.specs.Checkpoints.{in_checkpoint}
use Rattle.server_inspect.specs.Inspected.{part_of}
use Rattle.server_inspect.proofs.shown.part_at.Goals as goal

pub slice_bounds-result-end : goal.slice_bounds-result-end
slice_bounds-result-end c = rw (eq-eqb _ in_checkpoint c.if-place-eq-IN_CHECKPOINT.true) at c.requires.within

pub returns-then-place-eq-IN_CHECKPOINT : goal.returns-then-place-eq-IN_CHECKPOINT
unfolding part_of
returns-then-place-eq-IN_CHECKPOINT c =
    let e = eq-eqb _ in_checkpoint c.if-place-eq-IN_CHECKPOINT.true in record { result_value = rw e; points_into = rw e }

pub slice_bounds-result-end-2 : goal.slice_bounds-result-end-2
slice_bounds-result-end-2 c = rw (ne_eqb _ in_checkpoint c.if-place-eq-IN_CHECKPOINT.false) at c.requires.within

pub returns : goal.returns
unfolding part_of
returns c =
    let e = ne_eqb _ in_checkpoint c.if-place-eq-IN_CHECKPOINT.false in record { result_value = rw e; points_into = rw e }
