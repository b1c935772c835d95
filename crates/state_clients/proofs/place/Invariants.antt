-- The invariants of `state_clients::place`.
use Rattle.model.specs.States.{load}
use mathlib.Core.Bool.{not}
use lib.Dec.{ltb}
use Rattle.model_laws.specs.Sought.{Sought}
use Rattle.state_clients.proofs.place.Given as goal

abbrev pub invariant-loop-i : goal.invariant-loop-i
invariant-loop-i l = Sought (λ f. not (ltb f.client l.client)) (load l.s).floors l.i
