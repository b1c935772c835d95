-- What is left to show of `server_inspect::shown::shown`.
use Rattle.model.specs.Checkpoints.{shown_of}
use Rattle.server_inspect.specs.Inspected.{part_of}
use Rattle.server_inspect.proofs.Placed.{inspect_inside}
use Rattle.server_inspect.proofs.shown.shown.Goals as goal

pub part_at-requires : goal.part_at-requires
part_at-requires c =
    let a = c.args in
    rw c.place-found.ensures
    (inspect_inside a.state.now a.checkpoint.now a.tail.now a.client a.call (λ i. (c.shared_slice_known-1.given i).fits) (λ i. (c.shared_slice_known-3-1.given i).fits))

pub returns : goal.returns
unfolding shown_of part_of
returns c = let p = c.place-found.ensures in record { result_value = rw (← p) c.part_at.ensures.result_value; points_into = rw (← p) c.part_at.ensures.points_into }
