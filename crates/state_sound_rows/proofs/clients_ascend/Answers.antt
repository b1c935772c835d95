-- What is left to show of `state_sound_rows::clients_ascend`.
use mathlib.Core.Bool.{not}
use mathlib.Core.Path.{ap}
use Rattle.model_laws.proofs.Loops.{open_next, open_false, open_true}
use Rattle.state_sound_rows.proofs.Loops.{clients_open, client_pair}
use native.Mathlib.Omega.{arith}
use Prim.Native.Nat.{◌+◌, ◌*◌}
use Rattle.state_sound_rows.proofs.clients_ascend.Goals as goal

pub loop-i-init : goal.loop-i-init
loop-i-init c = clients_open _ _ _

pub returns-then-not-client_before : goal.returns-then-not-client_before
returns-then-not-client_before c =
    open_false c.loop-i.invariant (omega arith) (client_pair c.args.s.now (c.args.at + 8 * c.loop-i.i) c.client_before.ensures) (ap not c.if-not-client_before.true)

pub loop-i-preserved : goal.loop-i-preserved
loop-i-preserved c =
    open_next c.loop-i.invariant (omega arith) (client_pair c.args.s.now (c.args.at + 8 * c.loop-i.i) c.client_before.ensures) (ap not c.if-not-client_before.false)

pub returns : goal.returns
returns c = open_true c.loop-i.invariant (omega arith)
