-- The invariants of `state_image::point_slots`.
use Rattle.state_image.proofs.Picking.{Filling}
use Rattle.state_image.proofs.point_slots.Given as goal

abbrev pub invariant-loop-i : goal.invariant-loop-i
invariant-loop-i l = Filling l.point l.s l.i l.slots
