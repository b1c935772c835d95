-- The invariants of `state_clients::floors::client_place`.
use lib.ListN.{drop}
use lib.Dec.{eqb}
use Rattle.model.specs.Limits.{floor_row}
use Rattle.model.specs.Tables.{rows}
use Rattle.model.specs.Images.{floor_of_bytes}
use Rattle.model_laws.specs.Sought.{Sought}
use Rattle.state_clients.proofs.floors.client_place.Given as goal

abbrev pub invariant-loop-i : goal.invariant-loop-i
invariant-loop-i l = Sought (λ f. eqb f.client l.client) (rows floor_of_bytes floor_row l.n (drop l.at l.s)) l.i
