-- The schedules of Queued, run.
--     queued-events_are      the kernel's events
--     queued_trace_is        what is seen of them
--     waits-long             a request is taken in, and 32 servings follow
-- Assumes nothing.
use mathlib.Core.Path.{◌≡◌, refl}
use mathlib.Core.List.{[], ◌∷◌, ◌++◌}
use mathlib.Core.Option.{some}
use Rattle.model.specs.Refusals.{no_refusal}
use Rattle.model.specs.Packets.{request_bytes}
use Rattle.model.specs.Simulator.{simulator_plan}
use Rattle.model_laws.specs.Opened.{Opens}
use Rattle.claim.specs.World.{empty_world, stored_of, packet}
use Rattle.claim.specs.Provisos.{reach_of}
use Rattle.claim.specs.Above as Above
use Rattle.claim.proofs.Opened.{open_world}
use Rattle.proof_sanity.specs.Trace as Trace
use Rattle.proof_sanity.specs.Trace.{trace_from}
use Rattle.proof_sanity.specs.Moved.{setting_asked}
use Rattle.dispatch_claim.specs.Dispatcher.{places, enqueue_of}
use Rattle.dispatch_claim.specs.Queues.{enqueue, is_running, serves_at, servings_from, site_of, events}
use Rattle.dispatch_claim.proofs.Opened.{open_queues}
use Rattle.dispatch_safety.specs.Queued.{issued, queued, queued_events, queued_rows, queued_seen, waiting_long}

unfoldable open_sites : Opens
unfolding open_world open_queues Above.event_at Above.step_site Above.empty_site Above.run_site Above.events_from Above.events
open_sites = tt

unfoldable open_provisos : Opens
unfolding Trace.bytes_ok Trace.counted_ok Trace.typed_ok Trace.same_bytes Trace.is_nothing Trace.kept_is Trace.begins_ok Trace.not_started Trace.starts_new Trace.keeps_ok
open_provisos = tt

unfoldable open_trace : Opens
unfolding open_world open_provisos stored_of reach_of Trace.operation_done Trace.done Trace.call_with Trace.seen_with Trace.stands_at Trace.end_seen Trace.trace_from Trace.keeps_many
open_trace = tt

pub queued-events_are : events queued ≡ queued_events
unfolding open_sites issued queued queued_events
queued-events_are = refl

pub queued_trace_is : trace_from simulator_plan 5 empty_world queued_events ≡ queued_seen
unfolding open_trace queued_events queued_rows queued_seen
queued_trace_is = refl

pub waits-long : (packet (site_of issued).world 2 ≡ some (request_bytes setting_asked))
    × ((enqueue_of ((site_of issued).parts 0).dispatcher (request_bytes setting_asked)).number ≡ no_refusal)
    × (servings_from 0 (site_of (issued ++ (enqueue 0 2 ∷ []))) waiting_long ≡ places)
unfolding open_sites is_running serves_at servings_from issued waiting_long
waits-long = (refl, refl, refl)
