-- The invariants of `state_sound_rows::clients_ascend`.
use Rattle.model_laws.proofs.Loops.{Open}
use Rattle.state_sound_rows.proofs.Loops.{client_before}
use Rattle.model.specs.Images.{floor_of_bytes, clients_ascend}
use Rattle.model.specs.Tables.{rows}
use Rattle.model.specs.Limits.{floor_row}
use lib.ListN.{drop}
use Prim.Native.Nat.{◌-◌}
use Rattle.state_sound_rows.proofs.clients_ascend.Given as goal

abbrev pub invariant-loop-i : goal.invariant-loop-i
invariant-loop-i l = Open client_before floor_row l.at (clients_ascend (rows floor_of_bytes floor_row l.n (drop l.at l.s))) l.s (l.n - 1) l.i
