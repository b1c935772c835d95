-- The schedules of Moved, Forgetting, Timed and Entered, run.
--     trace_is, crash_trace_is, store_trace_is, timed_trace_is, entering_trace_is     what is seen of them
--     kept-recovers                what the crash keeps is recovered
--     stored-recovers, head_alone     what is stored, with the tail's head, is recovered; the head alone gives the founding state
--     heard-then                   what server 0 has heard of when it executes the second step of Timed
-- Assumes nothing.
use mathlib.Core.Path.{◌≡◌, refl}
use mathlib.Core.Bool.{true}
use mathlib.Core.Option.{some}
use Rattle.model.specs.Plan.{plan_of}
use Rattle.model.specs.Apply.{founded}
use Rattle.model.specs.Operations.{recovered_state}
use Rattle.model.specs.Simulator.{simulator_plan}
use Rattle.model.specs.Logs.{head_bytes}
use Rattle.model.specs.States.{ends_in_order}
use Rattle.model.specs.Checkpoints as Checkpoints
use Rattle.model.specs.Checkpoints.{rebased, checkpoint_bytes, recovered_tail}
use Rattle.claim.specs.World.{empty_world, stored_of, checkpoints, stores, after}
use Rattle.claim.specs.Provisos.{reach_of}
use Rattle.model_laws.specs.Opened.{Opens}
use Rattle.claim.proofs.Opened.{open_world}
use Rattle.proof_sanity.specs.Trace.{bytes_ok, counted_ok, typed_ok, same_bytes, is_nothing, kept_is, begins_ok, not_started, starts_new, keeps_ok, operation_done, done, call_with, seen_with, stands_at, end_seen, trace_from, keeps_many}
use Rattle.proof_sanity.specs.Moved.{taken_state, schedule, rows_seen, trace_seen}
use Rattle.proof_sanity.specs.Entered.{entering, entering_rows, entering_seen}
use Rattle.proof_sanity.specs.Timed.{timed, timed_rows, timed_seen, heard_by}
use Rattle.proof_sanity.specs.Forgetting.{set_state, set_and_crash, kept_whole, set_and_crash_seen, set_and_store, set_and_store_seen}

-- checkpoint and tail
unfoldable open_rebased : Opens
unfolding ends_in_order Checkpoints.placed_point Checkpoints.placed_record Checkpoints.placed Checkpoints.end_before Checkpoints.rebased
open_rebased = tt

unfoldable open_layout : Opens
unfolding Checkpoints.checkpoint_magic_of Checkpoints.checkpoint_record_of Checkpoints.pairs_bytes Checkpoints.point_front Checkpoints.record_front Checkpoints.checkpoint_bytes
    Checkpoints.record_width Checkpoints.clients_of Checkpoints.records_of Checkpoints.point_whole Checkpoints.record_whole Checkpoints.fronts Checkpoints.restored_bytes Checkpoints.restored
open_layout = tt

unfoldable open_checkpoints : Opens
unfolding open_rebased open_layout Checkpoints.checkpoint_framed Checkpoints.checkpoint_state Checkpoints.checkpoint_refusal Checkpoints.checkpoint_of
    Checkpoints.recovered_tail Checkpoints.recover_tail_refusal Checkpoints.recover_tail_of
open_checkpoints = tt

-- what is seen of a run
unfoldable open_trace : Opens
unfolding open_world open_checkpoints stored_of checkpoints stores reach_of bytes_ok counted_ok typed_ok same_bytes is_nothing kept_is begins_ok
    not_started starts_new keeps_ok operation_done done call_with seen_with stands_at end_seen trace_from keeps_many
open_trace = tt

pub trace_is : trace_from simulator_plan 5 empty_world schedule ≡ trace_seen
unfolding open_trace taken_state schedule rows_seen trace_seen
trace_is = refl

pub crash_trace_is : trace_from simulator_plan 5 empty_world set_and_crash ≡ set_and_crash_seen
unfolding open_trace set_and_crash set_and_crash_seen
crash_trace_is = refl

pub store_trace_is : trace_from simulator_plan 5 empty_world set_and_store ≡ set_and_store_seen
unfolding open_trace set_state set_and_store set_and_store_seen
store_trace_is = refl

pub kept-recovers : recovered_state (plan_of simulator_plan) kept_whole ≡ some set_state
unfolding open_trace set_state
kept-recovers = refl

pub stored-recovers : recovered_tail (checkpoint_bytes true set_state) (head_bytes 0) ≡ some (rebased set_state)
unfolding open_trace set_state
stored-recovers = refl

pub head_alone : recovered_state (plan_of simulator_plan) (head_bytes 0) ≡ some (founded (plan_of simulator_plan) 0)
unfolding open_trace
head_alone = refl

pub timed_trace_is : trace_from simulator_plan 5 empty_world timed ≡ timed_seen
unfolding open_trace timed timed_rows timed_seen
timed_trace_is = refl

pub entering_trace_is : trace_from simulator_plan 5 empty_world entering ≡ entering_seen
unfolding open_trace entering entering_rows entering_seen
entering_trace_is = refl

pub heard-then : heard_by ((after timed 15).servers 0) ≡ 20
unfolding open_trace timed heard_by
heard-then = refl
