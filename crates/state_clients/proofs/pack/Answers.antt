-- What is left to show of `state_clients::pack`.
use native.Mathlib.Omega.{arith}
use Rattle.model.specs.Apply.{is_not_client}
use Rattle.state_clients.proofs.Loops.{packing_start, packing_read, packing_write, packing_keep, packing_drop, packing_end, stays-other, goes_same}
use Rattle.state_clients.proofs.pack.Goals as goal
use Rattle.state_clients.proofs.pack.Goals.{then-f-client, else-f-client}

pub loop-i-init : goal.loop-i-init
loop-i-init c =
    packing_start c.requires (is_not_client c.args.client)

pub row-f-requires : goal.row-f-requires
row-f-requires c =
    packing_read c.requires (is_not_client c.args.client) c.loop-i.invariant (omega arith)

pub set_row-requires : goal.set_row-requires
set_row-requires c =
    packing_write c.requires (is_not_client c.args.client) c.loop-i.invariant (omega arith)

pub loop-i-preserved : goal.loop-i-preserved
loop-i-preserved c =
    let t = is_not_client c.args.client in
    elim c.if-f-client.branch [
      | then-f-client w ↦ rw (w.s-is, w.j-is) (packing_keep c.requires t c.loop-i.invariant (omega arith) c.row-f.ensures (stays-other _ _ w.if-f-client.true) w.set_row.ensures)
      | else-f-client w ↦ rw (w.s-is, w.j-is) (packing_drop c.requires t c.loop-i.invariant (omega arith) c.row-f.ensures (goes_same _ _ w.if-f-client.false))
    ]

pub returns : goal.returns
returns c =
    packing_end c.requires (is_not_client c.args.client) c.loop-i.invariant (omega arith)
