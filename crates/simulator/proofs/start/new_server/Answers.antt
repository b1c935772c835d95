-- What is left to show of `simulator::start::new_server`.
use Rattle.simulator.proofs.News.{all_zeros, new_server}
use Rattle.simulator.proofs.start.new_server.Goals as goal

pub returns : goal.returns
returns c =
    new_server _ _ _ _ _ _ c.found.ensures (all_zeros c.args.s.now c.clear.ensures) (all_zeros c.args.log.now c.clear-2.ensures)
    c.requires.0 c.requires.1 c.plan-table.ensures
