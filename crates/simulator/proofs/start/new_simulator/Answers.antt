-- What is left to show of `simulator::start::new_simulator`.
use mathlib.Core.Path.{refl}
use Rattle.model.specs.Simulator.{new_simulator}
use Rattle.simulator_memory.specs.Store.{packets_in}
use Rattle.simulator.proofs.start.new_simulator.Goals as goal

pub returns : goal.returns
unfolding new_simulator packets_in
returns c =
    let e = c.new_server.ensures in
    let f = c.new_server-2.ensures in
    ((λ store. rw (e.0, e.1, f.0, f.1, c.new_client-c0.ensures, c.new_client-c1.ensures) refl), refl)
