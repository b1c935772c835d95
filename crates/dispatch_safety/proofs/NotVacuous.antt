-- What is said of dispatchers speaks of something. The schedule of Queued keeps every proviso: two of its servings execute, and both commands survive; a third tells a result, which is received.
--     queues_met
--     reached            of 32 servings behind a request that waits, one is Request of it
-- Assumes nothing.
use Prim.Native.Nat.{ℕ, suc}
use mathlib.Core.Path.{◌≡◌, refl, sym, ◌∙◌, ap, subst}
use mathlib.Core.Bool.{true, not}
use mathlib.Core.List.{List, [], ◌∷◌}
use mathlib.Core.Logic.{◌⊎◌, inl, inr}
use mathlib.Core.Option.{some}
use native.Mathlib.Omega.{arith}
use lib.ListN.{drop, get_elem?}
use Rattle.std.specs.Prelude.{Ok, Some}
use Rattle.model.specs.declared.Request.{Request}
use Rattle.model.specs.declared.Packet.TheVariants.{Requested}
use Rattle.model.specs.declared.Received.TheVariants.{Completed}
use Rattle.model.specs.Versions.{today}
use Rattle.model.specs.Sequential.{Marked, marked_by, one, result_meant}
use Rattle.model.specs.Tables.{every}
use Rattle.model.specs.Packets.{request_bytes, result_bytes, parse_packet}
use Rattle.model.specs.Calls.{sync}
use Rattle.model.specs.Clients.{place_of, call_at, receive_of}
use Rattle.model.specs.Simulator.{simulator_plan}
use Rattle.model_laws.specs.Opened.{open_numbers, open_rules, open_packets, open_clients}
use Rattle.claim.specs.World.{Event, call, outside, receive, after}
use Rattle.claim.specs.Provisos.{reach_of, At, Provisos}
use Rattle.claim.specs.Claim.{command_at, Executes, SurvivesAt, Completes}
use Rattle.proof_sanity.specs.Trace.{Call, Seen, call_seen, keeps_many, call_with, done}
use Rattle.proof_sanity.specs.Moved.{setting, stepping, setting_asked, step_asked, setting_answer, setter, lent_all, asks, answering}
use Rattle.proof_sanity.proofs.Traced.{call-at, provisos_kept, executes-seen, survives-seen, completes_seen}
use Rattle.dispatch_claim.specs.Queues.{kernel, serve, events, AtQueue, Serves, IsKernel, loses_at, ReachedIn, ReachesRun}
use Rattle.dispatch_claim.proofs.Queues.{reaches-run}
use Rattle.dispatch_safety.specs.Queued.{issued, queued, queued_events, queued_rows, queued_seen, waiting_long}
use Rattle.dispatch_safety.proofs.Joined.{servings_execute}
use Rattle.dispatch_safety.proofs.Computed.{queued-events_are, queued_trace_is, waits-long}

row : (n : ℕ) (x : Event) (r : Seen) → get_elem? queued_events n ≡ some x → get_elem? queued_rows n ≡ some r → call_seen (after queued_events n) x ≡ r.call
unfolding queued_seen
row n x r q k = call-at simulator_plan 5 queued_events queued_seen queued_trace_is n x r q k

provisos : Provisos simulator_plan queued_events
unfolding queued_seen queued_rows every
provisos = provisos_kept simulator_plan 5 queued_events queued_seen queued_trace_is refl

abbrev Parses : Request → Type 0
Parses q = parse_packet (request_bytes q) ≡ Some (Requested q)

parsed : Parses setting_asked × Parses (step_asked 1)
unfolding open_numbers open_rules open_packets
parsed = (refl, refl)

-- event n asks for q at server 0, and it is executed; no later crash cuts it off
record Asked (n p size : ℕ) (q : Request) : Type 0 where
  at : At queued_events n (asks 0 p)
  parses : Parses q
  seen : call_seen (after queued_events n) (asks 0 p) ≡ (answering size (request_bytes q) 0 0).call
  reach : ℕ
  reaches : reach_of ((after queued_events (suc n)).servers 0) ≡ reach
  kept : every (keeps_many 0 reach) (drop (suc n) queued_rows) ≡ true

executes : {n p size : ℕ} {q : Request} → Asked n p size q → Executes queued_events n 0 (marked_by today q.command)
executes {n} {p} {size} {q} a = executes-seen simulator_plan queued_events n 0 p size today lent_all q a.at a.parses a.seen

survives : {n p size : ℕ} {q : Request} → Asked n p size q → SurvivesAt queued_events n (marked_by today q.command)
unfolding queued_seen
survives {n} {p} {size} {q} a =
    survives-seen simulator_plan queued_events 5 queued_seen queued_trace_is n 0 p size a.reach today lent_all q a.at a.parses a.seen a.reaches a.kept

set-asked : Asked 10 2 8 setting_asked
unfolding At queued_events queued_rows call_seen call_with done every keeps_many
set-asked =
    record {
      at = refl;
      parses = parsed.0;
      seen = row 10 (asks 0 2) _ refl refl;
      reach = 40;
      reaches = ap (λ (x : Call). x.size) (row 11 (call 0 (sync 40) lent_all) _ refl refl);
      kept = refl;
    }

step-asked : Asked 18 3 40 (step_asked 1)
unfolding At queued_events queued_rows call_seen call_with done every keeps_many
step-asked =
    record {
      at = refl;
      parses = parsed.1;
      seen = row 18 (asks 0 3) _ refl refl;
      reach = 72;
      reaches = ap (λ (x : Call). x.size) (row 19 (call 0 (sync 72) lent_all) _ refl refl);
      kept = refl;
    }

received : (receive_of setter (result_bytes setting_answer)).answer ≡ Ok (Completed setting_answer)
unfolding open_numbers open_packets open_clients
received = refl

set_told : Completes queued_events 22 (setting ∷ []) (one (result_meant setting_answer.result))
unfolding At queued_events queued_rows command_at call_at place_of
set_told = completes_seen simulator_plan queued_events 22 1 4 setter setting_answer refl received (row 22 (outside (receive 1 4)) _ refl refl)

-- ---- as a schedule with a dispatcher

there : (P : List Event → Type 0) → P queued_events → P (events queued)
there P p = subst P (sym queued-events_are) p

kept : Provisos simulator_plan (events queued)
kept = there (Provisos simulator_plan) provisos

-- what is executed at a serving, the serving executes
served : (n : ℕ) (m : Marked) → AtQueue queued n (serve 0 today lent_all) → Executes queued_events n 0 m → Serves queued n 0 m
unfolding AtQueue
served n m a x = go ((servings_execute simulator_plan queued kept n 0 m).0 (there (λ (es : List Event). Executes es n 0 m) x))
  where
    go : Serves queued n 0 m ⊎ (IsKernel queued n × Executes (events queued) n 0 m) → Serves queued n 0 m
    go (inl y) = y
    go (inr y) = let k : some (serve 0 today lent_all) ≡ some (kernel y.0.0) = sym a ∙ y.0.1 in let e : ◌≡◌ {A = ℕ} 0 1 = cc in absurd (omega arith)

pub queues_met : Provisos simulator_plan (events queued)
    × SurvivesAt (events queued) 10 (marked_by today setting)
    × SurvivesAt (events queued) 18 (marked_by today stepping)
    × Serves queued 10 0 (marked_by today setting)
    × Serves queued 18 0 (marked_by today stepping)
    × Completes (events queued) 22 (setting ∷ []) (one (result_meant setting_answer.result))
unfolding AtQueue issued queued
queues_met = (
  kept,
  there (λ (es : List Event). SurvivesAt es 10 (marked_by today setting)) (survives set-asked),
  there (λ (es : List Event). SurvivesAt es 18 (marked_by today stepping)) (survives step-asked),
  served 10 (marked_by today setting) refl (executes set-asked),
  served 18 (marked_by today stepping) refl (executes step-asked),
  there (λ (es : List Event). Completes es 22 (setting ∷ []) (one (result_meant setting_answer.result))) set_told,
)

-- ---- 32 servings

no_loss : every (λ o. not (loses_at 0 o)) waiting_long ≡ true
unfolding every loses_at waiting_long
no_loss = refl

pub reached : ReachedIn issued waiting_long 0 2
unfolding ReachesRun
reached = reaches-run issued waiting_long 0 2 (request_bytes setting_asked) waits-long.0 waits-long.1 no_loss (let z = waits-long.2 in omega (arith, z))
