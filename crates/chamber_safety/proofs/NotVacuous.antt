-- The lock's theorem speaks of something: the schedule of Handed keeps every proviso. Controller 1 starts, opens the upper gate and is lost; its successor
-- starts and opens the lower gate. Both openings survive.
--     not_vacuous
-- Assumes nothing.
use Prim.Native.Nat.{ℕ}
use mathlib.Core.Path.{◌≡◌, refl}
use mathlib.Core.List.{List}
use mathlib.Core.Logic.{inl, inr}
use lib.IntN.{pos}
use Rattle.model.specs.declared.Command.{Command}
use Rattle.model.specs.Tables.{every}
use Rattle.model.specs.Plan.{plan_of}
use Rattle.model.specs.Versions.{today}
use Rattle.model.specs.Sequential.{marked_by, opened}
use Rattle.model.specs.Simulator.{simulator_plan}
use Rattle.model_laws.specs.Opened.{open_numbers, open_tables, open_plan, open_sequential}
use Rattle.claim.specs.World.{Event}
use Rattle.claim.specs.Claim.{Executes, SurvivesAt}
use Rattle.chamber_claim.specs.Safe.{events, Begins, IsGate, LockProvisos}
use Rattle.chamber_safety.specs.Kept.{no_crash, uncut}
use Rattle.chamber_safety.specs.Handed.{lock_points, notice_number, lent_all, upper_opened, lower_opened, handed, looks}
use Rattle.chamber_safety.proofs.Kept.{lock_provisos, begins-there, executes-there, no_crash_lem}
use Rattle.chamber_safety.proofs.Computed.{handed-passes}

abbrev es : List Event
es = events simulator_plan lock_points handed

-- all points of the plan fall back to 0
falls_to : ((opened (plan_of simulator_plan) 10).value ≡ pos 0) × ((opened (plan_of simulator_plan) 11).value ≡ pos 0)
unfolding open_numbers open_tables open_plan open_sequential simulator_plan
falls_to = (refl, refl)

provisos : LockProvisos simulator_plan lock_points handed
provisos = lock_provisos simulator_plan lock_points 0 notice_number handed looks handed-passes fall
  where
    fall : (p : ℕ) → IsGate simulator_plan lock_points handed p → (opened (plan_of simulator_plan) p).value ≡ pos 0
    fall p (inl z) = rw z falls_to.0
    fall p (inr z) = rw z falls_to.1

-- there is no crash
stands : (n : ℕ) (k : Command) → Executes es n 0 (marked_by today k) → SurvivesAt es n (marked_by today k)
unfolding handed every uncut no_crash
stands n k e = record { server = 0; executes = e; kept = λ j b h a. absurd (no_crash_lem simulator_plan lock_points handed refl j 0 a.kept a.event) }

upper_opened_lem : SurvivesAt es 32 (marked_by today upper_opened)
unfolding handed looks
upper_opened_lem = stands 32 upper_opened (executes-there simulator_plan lock_points 0 notice_number handed looks handed-passes 32 0 13 today lent_all upper_opened refl refl)

lower_opened_lem : SurvivesAt es 62 (marked_by today lower_opened)
unfolding handed looks
lower_opened_lem = stands 62 lower_opened (executes-there simulator_plan lock_points 0 notice_number handed looks handed-passes 62 0 26 today lent_all lower_opened refl refl)

pub not_vacuous : LockProvisos simulator_plan lock_points handed
    × Begins simulator_plan lock_points handed 3 1
    × SurvivesAt es 32 (marked_by today upper_opened)
    × Begins simulator_plan lock_points handed 38 3
    × SurvivesAt es 62 (marked_by today lower_opened)
unfolding handed looks
not_vacuous = (
  provisos,
  begins-there simulator_plan lock_points 0 notice_number handed looks handed-passes 3 0 1 refl refl,
  upper_opened_lem,
  begins-there simulator_plan lock_points 0 notice_number handed looks handed-passes 38 15 3 refl refl,
  lower_opened_lem,
)
