-- What is left to show of `state_clients::move_up`.
use Rattle.state_clients.proofs.Loops.{moving_start, moving_read, moving_write, moving_next}
use Rattle.state_clients.proofs.move_up.Goals as goal

pub loop-j-init : goal.loop-j-init
loop-j-init c = moving_start c.requires.0 c.requires.1 c.args.i c.requires.2

pub row-f-requires : goal.row-f-requires
row-f-requires c =
    moving_read c.requires.0 c.requires.1 c.loop-j.invariant c.loop-j-test.true

pub set_row-requires : goal.set_row-requires
set_row-requires c =
    moving_write c.requires.0 c.requires.1 c.loop-j.invariant c.loop-j-test.true

pub loop-j-preserved : goal.loop-j-preserved
loop-j-preserved c =
    moving_next c.requires.0 c.requires.1 c.loop-j.invariant c.loop-j-test.true c.row-f.ensures c.set_row.ensures
