-- The schedule of Handed, run: every event keeps the provisos, and what is looked for is there.
--     handed-passes
-- Assumes nothing.
use mathlib.Core.Path.{◌≡◌, refl}
use mathlib.Core.Bool.{true}
use Rattle.model.specs.Simulator.{simulator_plan}
use Rattle.claim.specs.World.{stored_of}
use Rattle.claim.specs.Claim as Claim
use Rattle.claim.specs.Fence as Fence
use Rattle.claim.specs.Above as Above
use Rattle.claim.proofs.Opened.{open_world}
use Rattle.model_laws.specs.Opened.{Opens}
use Rattle.proof_sanity.specs.Trace as Trace
use Rattle.chamber_claim.specs.Lock as Lock
use Rattle.chamber_claim.proofs.Opened.{open_chamber}
use Rattle.chamber_safety.specs.Kept as Kept
use Rattle.chamber_safety.specs.Kept.{passes}
use Rattle.chamber_safety.specs.Handed.{lock_points, notice_number, handed, looks}

unfoldable open_lock_events : Opens
unfolding Lock.no_lock Lock.with_controller Lock.unless_refused Lock.start_call Lock.unless_not_sent Lock.issue_call Lock.if_there Lock.lock_event Lock.starts_as
open_lock_events = tt

unfoldable open_lock : Opens
unfolding open_lock_events Lock.starts_on Lock.changes Lock.hears Lock.lock_after Above.empty_site
open_lock = tt

unfoldable open_provisos : Opens
unfolding Trace.bytes_ok Trace.counted_ok Trace.typed_ok Trace.same_bytes Trace.is_nothing Trace.kept_is Trace.begins_ok Trace.not_started Trace.starts_new Trace.keeps_ok
open_provisos = tt

unfoldable open_tests : Opens
unfolding open_provisos Trace.operation_done Trace.done stored_of Claim.recovered_by Claim.state_given Fence.synced_part Fence.synced_state
open_tests = tt

unfoldable open_looks : Opens
unfolding Kept.is_none Kept.gate_ok Kept.aside_ok Kept.held_in Kept.notice_is Kept.heard_in Kept.successor_ok Kept.lock_ok Kept.started_as Kept.starts_in
open_looks = tt

unfoldable open_kept : Opens
unfolding open_looks Kept.done_silently Kept.same_command Kept.asks_for Kept.requests Kept.executes_in Kept.begins_in Kept.looked Kept.event_ok Kept.passes
open_kept = tt

pub handed-passes : passes simulator_plan lock_points 0 notice_number (Above.empty_site (Lock.lock_product lock_points)) handed looks ≡ true
unfolding open_world open_chamber open_lock open_tests open_kept handed looks
handed-passes = refl
