-- What is left to show of `server_inspect::records::latest_of`.
use mathlib.Core.Path.{ap, ◌∙◌}
use native.Mathlib.Omega.{arith}
use Rattle.std.specs.Prelude.{Some}
use Rattle.model.specs.Checkpoints.{latest_of}
use Rattle.format_log_reader.specs.Answers.{record_means}
use Rattle.format_log_ends.proofs.Ends.{from_inside}
use Rattle.server_inspect.proofs.Latest.{executed_inside, image-there, held, held-image, image-whole}
use Rattle.server_inspect.proofs.records.latest_of.Goals as goal

pub place_executed-requires : goal.place_executed-requires
place_executed-requires c =
    let a = c.args in
    omega (arith, executed_inside a.log.now a.at a.n (λ i. (c.shared_slice_known-1.given i).fits) c.requires c.in-Some.ensures (ap Some c.in-Executed.is))

pub overflow_add-to : goal.overflow_add-to
overflow_add-to c =
    let a = c.args in
    omega (arith, (image-there a.log.now a.at a.n c.in-Some.ensures (ap Some c.in-Took.is)).end, from_inside _ _ _ c.requires)

pub slice_bounds-place_in_image-end : goal.slice_bounds-place_in_image-end
slice_bounds-place_in_image-end c =
    let a = c.args in
    omega (arith, (image-there a.log.now a.at a.n c.in-Some.ensures (ap Some c.in-Took.is)).end, from_inside _ _ _ c.requires)

pub place_in_image-requires : goal.place_in_image-requires
place_in_image-requires c =
    let a = c.args in
    image-whole a.log.now a.at a.n c.in-Some.ensures (ap Some c.in-Took.is) (from_inside _ _ _ c.requires) (omega arith)

pub returns-in_default : goal.returns-in_default
unfolding record_means latest_of
returns-in_default c =
    let a = c.args in held a.log.now a.at a.n a.client a.call a.found c.record_at.ensures c.in_default.is

pub returns-in-Executed : goal.returns-in-Executed
unfolding record_means
returns-in-Executed c =
    let a = c.args in
    c.place_executed.ensures ∙ held a.log.now a.at a.n a.client a.call a.found c.in-Some.ensures (ap Some c.in-Executed.is)

pub returns-in-Gone : goal.returns-in-Gone
unfolding record_means latest_of
returns-in-Gone c =
    let a = c.args in held a.log.now a.at a.n a.client a.call a.found c.in-Some.ensures (ap Some c.in-Gone.is)

pub returns-in-Gave : goal.returns-in-Gave
unfolding record_means latest_of
returns-in-Gave c =
    let a = c.args in held a.log.now a.at a.n a.client a.call a.found c.in-Some.ensures (ap Some c.in-Gave.is)

pub returns-in-Took : goal.returns-in-Took
returns-in-Took c =
    let a = c.args in
    held-image a.log.now a.at a.n a.client a.call a.found c.in-Some.ensures (ap Some c.in-Took.is) c.place_in_image.ensures

pub returns-in-Released : goal.returns-in-Released
unfolding record_means latest_of
returns-in-Released c =
    let a = c.args in held a.log.now a.at a.n a.client a.call a.found c.in-Some.ensures (ap Some c.in-Released.is)
