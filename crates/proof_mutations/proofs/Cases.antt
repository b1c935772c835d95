-- What the schedules come to. Each goes wrong if one part is not read (must-fail/): a command has two surviving executions, or a completed one
-- has none, or a result is told with another time than its execution's, so that no order explains the schedule.
--     outcomes
-- Assumes nothing.
use mathlib.Core.Path.{◌≡◌, refl}
use mathlib.Core.List.{[], ◌∷◌}
use Rattle.model_laws.specs.Opened.{Opens}
use Rattle.claim.proofs.Opened.{open_record_world}
use Rattle.proof_mutations.specs.Reads.{reading, imaged, for_request, for_fetch, for_image, for_gone, for_took, noticed, taken, requests, fetches, images, takes, releases, applies_record, applies, regains}
use Rattle.proof_mutations.specs.World.{settle, call_of, calls, decides, calls_on, recovers_from, step, run_from, run}
use Rattle.proof_mutations.specs.Schedules.{is_run, is_take, count, runs, takes_of, open_in, open·calls, time_in, times_in, times_told}
use Rattle.proof_mutations.specs.Schedules as S

pub record Outcomes : Type 0 where
  -- one surviving execution of call 1 of client 1, wherever its repeats came
  pub ended : runs S.ended ≡ 1
  pub ended_twice : runs S.ended_twice ≡ 1
  pub ended_moved : runs S.ended_moved ≡ 1
  pub finished : runs S.finished ≡ 1
  pub finished_there : runs S.finished_there ≡ 1
  pub moved : runs S.moved ≡ 1
  pub unsynced_give : runs S.unsynced_give ≡ 1
  pub returned : runs S.returned ≡ 1
  pub regained : runs S.regained ≡ 1
  -- none, and the call is not completed
  pub unsynced : (runs S.unsynced ≡ 0) × (open·calls S.unsynced ≡ 1)
  -- a point given again is taken again
  pub given_again : takes_of S.given_again ≡ 2
  -- all results of an id have the time of its execution, whatever their servers have heard of since
  pub timed : times_told S.timed ≡ 20 ∷ 20 ∷ []

-- the calls as Reads has them, and their world
unfoldable open_reads : Opens
unfolding reading imaged for_request for_fetch for_image for_gone for_took noticed taken requests fetches images takes releases applies_record applies regains
open_reads = tt

unfoldable open_calls : Opens
unfolding open_record_world open_reads settle call_of calls decides calls_on recovers_from step run_from run is_run is_take count runs takes_of open_in open·calls time_in times_in times_told
open_calls = tt

pub outcomes : Outcomes
unfolding open_calls S.begun S.ended S.ended_twice S.ended_moved S.finished S.finished_there S.moved S.unsynced S.unsynced_give S.returned S.regained S.given_again S.timed
outcomes = record {
  ended = refl;
  ended_twice = refl;
  ended_moved = refl;
  finished = refl;
  finished_there = refl;
  moved = refl;
  unsynced_give = refl;
  returned = refl;
  regained = refl;
  unsynced = (refl, refl);
  given_again = refl;
  timed = refl;
}
