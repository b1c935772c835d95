-- What is left to show of `state_clients::cut`.
use Rattle.state_clients.proofs.Loops.{cutting-start, cutting-drop, cutting-next}
use Rattle.state_clients.proofs.cut.Goals as goal

pub loop-n-init : goal.loop-n-init
loop-n-init c =
    cutting-start c.requires.0 c.requires.1 c.clients_of-n.ensures

pub drop_row-requires : goal.drop_row-requires
drop_row-requires c =
    cutting-drop c.requires.0 c.loop-n.invariant c.loop-n-test.true

pub loop-n-preserved : goal.loop-n-preserved
loop-n-preserved c =
    cutting-next c.requires.0 c.loop-n.invariant c.loop-n-test.true c.drop_row.ensures
