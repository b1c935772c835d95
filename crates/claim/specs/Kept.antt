-- A schedule whose command survives a crash, and what is read at the end of a server that counts.
-- Assumes nothing.
use Rattle.std.specs.Prelude.{ℕ, ◌+◌, List, [], ◌∷◌, ◌++◌}
use Rattle.std.proofs.Math.Option.{Option, none, some}
use Rattle.model.specs.Numbers.{half}
use Rattle.model.specs.States.{State, point_at}
use Rattle.model.specs.Versions.{today}
use Rattle.model.specs.Sequential.{marked_by, OrderEntry, single, ReadingZ, reading_meant}
use Rattle.model.specs.Calls.{request, sync}
use Rattle.model.specs.Simulator.{simulator_plan}
use Rattle.claim.specs.World.{open·lease, start, issue}
use Rattle.claim.specs.Claim.{reading_at}
use Rattle.claim.specs.RecordWorld.{Event, found, call, recover, crash, outside}

-- a client sets point 5 to 40; its record is synced, and the server crashes
unfoldable pub kept : List Event
kept =
    found 0 simulator_plan 0
    ∷ outside (open·lease 0 1000)
    ∷ outside (start 0)
    ∷ outside (issue 1 1 5 (half + 40))
    ∷ call 0 (request today 1) 100
    ∷ call 0 (sync 40) 100
    ∷ crash 0 40
    ∷ []

-- and recovers
unfoldable pub regained : List Event
regained = kept ++ (recover 0 simulator_plan ∷ [])

-- the order that explains both
unfoldable pub kept_order : List OrderEntry
kept_order = single (marked_by today (record { client = 1; call = 1; op = 1; point = 5; argument = half + 40 })) ∷ []

-- value and quality of point p
unfoldable pub reading_in : ℕ → Option State → Option ReadingZ
reading_in p none = none
reading_in p (some st) = some (reading_meant (reading_at (point_at st p)))
