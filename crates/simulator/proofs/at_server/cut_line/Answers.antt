-- What is left to show of `simulator::at_server::cut_line`.
use Rattle.simulator.proofs.Cuts.{cut_off, cut-done}
use native.Mathlib.Omega.{arith}
use Prim.Native.Nat.{◌≤◌}
use lib.ListN.{length}
use Rattle.simulator_memory.proofs.Rows.{lesser_most}
use Rattle.simulator.proofs.at_server.cut_line.Goals as goal

pub returns-then-is_outside : goal.returns-then-is_outside
returns-then-is_outside c =
    let a = c.args in
    let r = c.told.ensures in
    (cut_off c.told.result a.s.now a.log.now a.bytes c.mark_of-mark.ensures c.size_of-size.ensures c.is_outside.ensures c.if-is_outside.true r.1, r.0)

pub slice_bounds-recover_from-end : goal.slice_bounds-recover_from-end
slice_bounds-recover_from-end c =
    let a = c.args in
    let l : c.lesser-n.result ≤ length a.log.now = rw c.lesser-n.ensures (lesser_most a.bytes (length a.log.now)) in
    omega arith

pub returns : goal.returns
returns c =
    let a = c.args in
    let r = c.told-2.ensures in
    let x = c.recover_from-number.ensures in (
      cut-done c.told-2.result a.s.now a.log.now a.bytes c.mark_of-mark.ensures c.size_of-size.ensures c.is_outside.ensures c.lesser-n.result
          c.recover_from-number.result c.if-is_outside.false c.lesser-n.ensures x.0 x.1 r.1,
      r.0,
    )
