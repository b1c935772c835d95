-- The claim over records speaks of something: the schedule of `proof_sanity` over bytes (Moved: a move, crashes and recoveries, a lease end and a late
-- repeat, two checkpoints) is one over records that keeps all its provisos; six commands survive and are completed there, one of them told from the
-- checkpoint that replaced its record over bytes, and one executed by the first version of its op's rule.
--     not_vacuous
-- Assumes nothing.
use mathlib.Core.List.{[], ◌∷◌}
use Rattle.model.specs.Versions.{today}
use Rattle.model.specs.Sequential.{marked_by, one, result_meant}
use Rattle.model.specs.Simulator.{simulator_plan}
use Rattle.proof_sanity.specs.Moved.{setting, step_command, stepping, far_command, before, setting_result, step_result, stepping_result, stayed_result, stopped_result}
use Rattle.proof_sanity.specs.Moved as Moved
use Rattle.proof_sanity.proofs.NotVacuous as Bytes
use Rattle.claim.specs.RecordWorld.{Event}
use Rattle.claim.specs.RecordProvisos.{Provisos}
use Rattle.claim.specs.RecordClaim.{SurvivesAt, Completes, Issues}
use Rattle.safety.specs.Decoded.{schedule}
use Rattle.safety.proofs.Runs.{provisos_here}
use Rattle.safety.proofs.FromRecords.{issues-here, completes_here, survives-here}
use mathlib.Core.List.{List}

abbrev moved : List Event
moved = schedule simulator_plan Moved.schedule

pub not_vacuous : Provisos simulator_plan moved
    × SurvivesAt moved 7 (marked_by today setting)
    × Completes moved 10 (setting ∷ []) (one (result_meant setting_result))
    × Issues moved 11 (stepping ∷ [])
    × SurvivesAt moved 15 (marked_by today stepping)
    × Completes moved 23 (stepping ∷ []) (one (result_meant stepping_result))
    × SurvivesAt moved 30 (marked_by today (step_command 2))
    × Completes moved 37 (step_command 2 ∷ []) (one (result_meant (step_result 2)))
    × SurvivesAt moved 39 (marked_by today (step_command 3))
    × Completes moved 45 (step_command 3 ∷ []) (one (result_meant (step_result 3)))
    × SurvivesAt moved 47 (marked_by before (far_command 4))
    × Completes moved 50 (far_command 4 ∷ []) (one (result_meant stayed_result))
    × SurvivesAt moved 52 (marked_by today (far_command 5))
    × Completes moved 55 (far_command 5 ∷ []) (one (result_meant stopped_result))
not_vacuous =
    let x = Bytes.not_vacuous in
    let P = x.0 in (
      provisos_here simulator_plan Moved.schedule P,
      survives-here simulator_plan Moved.schedule P 7 _ x.1,
      completes_here simulator_plan Moved.schedule P 10 _ _ x.2,
      issues-here simulator_plan Moved.schedule P 11 _ x.3,
      survives-here simulator_plan Moved.schedule P 15 _ x.4,
      completes_here simulator_plan Moved.schedule P 23 _ _ x.5,
      survives-here simulator_plan Moved.schedule P 30 _ x.9,
      completes_here simulator_plan Moved.schedule P 37 _ _ x.10,
      survives-here simulator_plan Moved.schedule P 39 _ x.11,
      completes_here simulator_plan Moved.schedule P 45 _ _ x.12,
      survives-here simulator_plan Moved.schedule P 47 _ x.14,
      completes_here simulator_plan Moved.schedule P 50 _ _ x.15,
      survives-here simulator_plan Moved.schedule P 52 _ x.16,
      completes_here simulator_plan Moved.schedule P 55 _ _ x.17,
    )
