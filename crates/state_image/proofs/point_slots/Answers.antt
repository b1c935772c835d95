-- What is left to show of `state_image::point_slots`.
use Prim.Native.Nat.{◌-◌}
use native.Mathlib.Omega.{arith}
use Rattle.state_image.proofs.Picking.{fill_start, fill_skip, fill_put, fill_end, slot_fits}
use Rattle.state_image.proofs.point_slots.Goals as goal

pub loop-i-init : goal.loop-i-init
loop-i-init c =
    let a = c.args in
    fill_start a.point a.s.now c.records_in-i.ensures

pub offset_bounds-slots-k : goal.offset_bounds-slots-k
offset_bounds-slots-k c =
    let fits = slot_fits c.args.s.now (λ i. (c.type_inv.s i).fits) c.requires (c.loop-i.i - 1) (omega (arith, c.loop-i.invariant.below, c.loop-i-test.true))
    c.completion_from-r.ensures c.clients_in-n.ensures c.slot_of-k.ensures in
    omega (arith, fits)

pub bounds-slots-k : goal.bounds-slots-k
bounds-slots-k c =
    slot_fits c.args.s.now (λ i. (c.type_inv.s i).fits) c.requires (c.loop-i.i - 1) (omega (arith, c.loop-i.invariant.below, c.loop-i-test.true))
    c.completion_from-r.ensures c.clients_in-n.ensures c.slot_of-k.ensures

pub loop-i-preserved-then-r-point : goal.loop-i-preserved-then-r-point
loop-i-preserved-then-r-point c =
    fill_put c.args.point c.args.s.now c.loop-i.invariant c.loop-i-test.true c.completion_from-r.ensures c.if-r-point.true
    c.clients_in-n.ensures c.slot_of-k.ensures

pub loop-i-preserved : goal.loop-i-preserved
loop-i-preserved c =
    fill_skip c.args.point c.args.s.now c.loop-i.invariant c.loop-i-test.true c.completion_from-r.ensures c.if-r-point.false

pub returns : goal.returns
returns c =
    fill_end c.args.point c.args.s.now c.loop-i.invariant c.loop-i-test.false
