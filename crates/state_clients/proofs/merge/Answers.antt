-- What is left to show of `state_clients::merge`.
use Rattle.state_clients.proofs.Loops.{merging_start, merging_raise, merging_next, merging_end}
use Rattle.state_clients.proofs.merge.Goals as goal

pub loop-i-init : goal.loop-i-init
loop-i-init c = merging_start c.requires.0 c.args.image.now c.args.n

pub raise-requires : goal.raise-requires
raise-requires c =
    merging_raise c.requires.0 c.args.image.now c.args.n c.requires.2 c.loop-i.invariant c.loop-i-test.true c.floor_from-f.ensures

pub loop-i-preserved : goal.loop-i-preserved
loop-i-preserved c =
    merging_next c.requires.0 c.args.image.now c.args.n c.requires.2 c.loop-i.invariant c.loop-i-test.true c.floor_from-f.ensures
    (λ i. (c.type_inv.image i).fits) c.raise.ensures

pub returns : goal.returns
returns c =
    merging_end c.requires.0 c.args.image.now c.args.n c.requires.2 c.loop-i.invariant c.loop-i-test.false
