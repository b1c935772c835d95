-- The tables of a state have room for what an executed command brings; neither its call nor a completion record of its client is under
-- the client's floor.
-- Assumes nothing.
use Rattle.std.specs.Prelude.{ℕ, ◌≤◌, ◌<◌, max, ◌≡◌, true, List, length}
use Rattle.model.specs.declared.Executed.{Executed}
use Rattle.model.specs.declared.Floor.{Floor}
use Rattle.model.specs.Tables.{keep, every}
use Rattle.model.specs.Limits.{client_count, record_count}
use Rattle.model.specs.Images.{floor_of}
use Rattle.model.specs.States.{State}
use Rattle.model.specs.Apply.{raise, stays_over}

-- the floors, and its client's floor, once it is executed
abbrev pub floors_with : Executed → State → List Floor
floors_with x st = raise x.command.client x.done st.floors

abbrev pub floor_with : Executed → State → ℕ
floor_with x st = floor_of x.command.client (floors_with x st)

pub record Room (x : Executed) (st : State) : Type 0 where
  pub clients : length (floors_with x st) ≤ client_count
  pub call : floor_with x st ≤ x.command.call
  pub records : length (keep (stays_over x.command.client (floor_with x st)) st.records) < record_count
  pub floor : floor_with x st ≡ max (floor_of x.command.client st.floors) x.done
  pub over : every (stays_over x.command.client (floor_of x.command.client st.floors)) st.records ≡ true
