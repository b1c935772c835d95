-- What is left to show of `state_clients::merged_count`.
use mathlib.Core.Bool.{not}
use mathlib.Core.Path.{ap}
use Rattle.model.specs.States.{load}
use Rattle.state_clients.proofs.Loops.{counting-start, counting_new, counting-known, counting-end}
use Rattle.state_clients.proofs.merged_count.Goals as goal
use Rattle.state_clients.proofs.merged_count.Goals.{then-not-is_known, else-not-is_known}

pub loop-i-init : goal.loop-i-init
loop-i-init c =
    counting-start (load c.args.s.now).floors c.args.image.now c.args.n c.clients_of-count.ensures c.requires.2

pub loop-i-preserved : goal.loop-i-preserved
loop-i-preserved c =
    let fs = (load c.args.s.now).floors in
    let image = c.args.image.now in
    elim c.if-not-is_known.branch [
      | then-not-is_known w ↦ rw w.count-is (counting_new fs image c.args.n c.loop-i.invariant c.loop-i-test.true c.floor_from-f.ensures c.is_known.ensures (ap not w.if-not-is_known.true))
      | else-not-is_known w ↦ rw w.count-is (counting-known fs image c.args.n c.loop-i.invariant c.loop-i-test.true c.floor_from-f.ensures c.is_known.ensures (ap not w.if-not-is_known.false))
    ]

pub returns : goal.returns
returns c =
    counting-end (load c.args.s.now).floors c.args.image.now c.args.n c.loop-i.invariant c.loop-i-test.false
