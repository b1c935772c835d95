-- At its holder a point has the value that the order gives, where the holder is crashed and where it has recovered: a recovery that gives the
-- founding state breaks the clause `values` (must-fail/recover_founding).
--     values_seen
-- Assumes nothing.
use mathlib.Core.Path.{◌≡◌, refl}
use mathlib.Core.Option.{some}
use Rattle.model.specs.Plan.{plan_of}
use Rattle.model.specs.Simulator.{simulator_plan}
use Rattle.model.specs.Sequential.{opened, values_after}
use Rattle.claim.specs.Claim.{reading_at}
use Rattle.claim.specs.RecordClaim.{state_given, final_state}
use Rattle.model_laws.specs.Opened.{open_sequential}
use Rattle.claim.proofs.Opened.{open_record_world}
use Rattle.claim.specs.Kept.{kept, regained, kept_order, reading_in}

pub values_seen : (reading_in 5 (final_state simulator_plan kept 0) ≡ some (values_after (plan_of simulator_plan) (opened (plan_of simulator_plan)) kept_order 5))
    × (reading_in 5 (final_state simulator_plan regained 0) ≡ some (values_after (plan_of simulator_plan) (opened (plan_of simulator_plan)) kept_order 5))
unfolding open_record_world open_sequential kept regained kept_order reading_in reading_at final_state state_given
values_seen = (refl, refl)
