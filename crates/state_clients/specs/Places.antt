-- Places in a table of floors: of a client, and of a call in its client's window.
-- Assumes nothing.
use Rattle.std.specs.Prelude.{ℕ, ◌+◌, ◌-◌, ◌*◌, List, eqb}
use Rattle.model.specs.declared.Floor.{Floor}
use Rattle.model.specs.Tables.{index_of}
use Rattle.model.specs.Limits.{call_window}
use Rattle.model.specs.Images.{floor_of}

-- the index of a client, the number of floors where it is not among them
unfoldable pub place_of : ℕ → List Floor → ℕ
place_of x fs = index_of (λ f. eqb f.client x) fs

-- what a lookup past the floors' end gives
abbrev pub no_floor : Floor
no_floor = record { client = 0; floor = 0 }

-- the slot of a client's call: 16 slots for each client, a call's by its distance from the floor
unfoldable pub slot_of : List Floor → ℕ → ℕ → ℕ
slot_of fs client call = call_window * place_of client fs + (call - floor_of client fs)
