-- What is left to show of `server_memory::is_unfit`.
use mathlib.Core.Path.{ap}
use mathlib.Core.Bool.{not}
use Rattle.server_memory.proofs.Settled.{unfit_yes, unfit_no}
use Rattle.server_memory.proofs.is_unfit.Goals as goal

pub returns-then-not-state_ok : goal.returns-then-not-state_ok
returns-then-not-state_ok c = unfit_yes c.args.s.now c.args.log.now c.state_ok.ensures (ap not c.if-not-state_ok.true)

pub returns : goal.returns
returns c = unfit_no c.args.s.now c.args.log.now c.state_ok.ensures (ap not c.if-not-state_ok.false) c.size_of-size.ensures
