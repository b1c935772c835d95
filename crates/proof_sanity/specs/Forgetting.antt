-- Two rejected servers that execute well: one recovers to the founding state, the other recovers from the tail alone and forgets the checkpoint.
-- What demand 3 reads of a schedule with them: neither recovery is called in an event of the schedules below, so that the run is that of the server of `model`;
-- but a crash is their last event, and the server counts with what its own recovery gives.
-- Assumes nothing.
use Rattle.std.specs.Prelude.{ℕ, ◌+◌, true, List, [], ◌∷◌, ◌++◌, replicate}
use Rattle.std.proofs.Math.Option.{Option, none, some}
use Rattle.model.specs.Numbers.{half}
use Rattle.model.specs.Limits.{head_size, result_size}
use Rattle.model.specs.Plan.{plan_of}
use Rattle.model.specs.Packets.{request_bytes, result_bytes, grant_bytes}
use Rattle.model.specs.Logs.{executed, head_bytes, head_server, executed_bytes}
use Rattle.model.specs.States.{State, load}
use Rattle.model.specs.Apply.{apply, founded}
use Rattle.model.specs.Checkpoints.{checkpoint_bytes}
use Rattle.model.specs.Operations.{recovered_state}
use Rattle.model.specs.Calls.{sync}
use Rattle.model.specs.Versions.{today}
use Rattle.model.specs.Simulator.{simulator_plan}
use Rattle.claim.specs.World.{Event, found, outside, open·lease, start, issue, receive, call, checkpoint, store, crash, Stored, nothing_stored, Server, nothing, running, storing, crashed, run}
use Rattle.claim.specs.Claim.{Account, account, recovered_by}
use Rattle.proof_sanity.specs.Trace.{Seen, off, down, Trace}
use Rattle.proof_sanity.specs.Moved.{setting_asked, setting_answer, setting_done, new_state, lent_all, lent_checkpoint, asks, idle, setter, at_server, on_packet, called, answering, crashing, at_client, at_manager}

-- ---- the states that they count with

-- the first accepts what the true one accepts, and gives the founding state
unfoldable pub founding_state : List ℕ → List ℕ → Option State → Option State
founding_state plan kept none = none
founding_state plan kept (some st) = some (founded (plan_of plan) (head_server kept))

unfoldable pub given_by : List ℕ → Server → Option State
given_by plan nothing = none
given_by plan (running k state log) = some (load state)
given_by plan (storing k log next state tail) = some (load state)
given_by plan (crashed k kept mark) = founding_state plan kept (recovered_by plan k.checkpoint kept)

-- the second takes the tail for the whole log
unfoldable pub tail_only : List ℕ → Server → Option State
tail_only plan nothing = none
tail_only plan (running k state log) = some (load state)
tail_only plan (storing k log next state tail) = some (load state)
tail_only plan (crashed k kept mark) = recovered_state (plan_of plan) kept

module _ (plan : List ℕ) (es : List Event) where
  -- the true account but for the states at the end
  abbrev pub counting : (Server → Option State) → Account
  counting given =
      record {
        Issues = (account plan es).Issues;
        Completes = (account plan es).Completes;
        SurvivesAt = (account plan es).SurvivesAt;
        Notes = (account plan es).Notes;
        Tells = (account plan es).Tells;
        final = λ c. given ((run es).servers c);
        Recovers = (account plan es).Recovers;
      }

-- ---- a client sets point 5 to 40, and its record is synced

abbrev pub after_set : List Event → List Event
after_set es =
    found 0 new_state (replicate 8 0) simulator_plan 0 ∷ outside (open·lease 0 10) ∷ outside (start 0) ∷ outside (issue 1 1 5 (half + 40)) ∷ asks 0 1 ∷ call 0 (sync 40) lent_all ∷ es

abbrev pub rows_after_set : List Seen → List Seen
rows_after_set rs =
    at_server 0
    ∷ at_manager
    ∷ on_packet (grant_bytes (record { client = 1; lease = 10 }))
    ∷ at_client (idle 1 10 1) none
    ∷ answering 8 (request_bytes setting_asked) 0 0
    ∷ called 40 (sync 40) 0 0
    ∷ rs

-- the server's state then
unfoldable pub set_state : State
set_state = apply (founded (plan_of simulator_plan) 0) (record { item = executed setting_done; end = 40 })

-- ---- the server crashes

unfoldable pub set_and_crash : List Event
set_and_crash = after_set (crash 0 40 ∷ [])

abbrev pub kept_whole : List ℕ
kept_whole = head_bytes 0 ++ executed_bytes setting_done

unfoldable pub set_and_crash_seen : Trace
set_and_crash_seen =
    record {
      rows = rows_after_set (crashing 40 0 40 ∷ []);
      end = record { first = down nothing_stored kept_whole 40; second = off };
    }

-- ---- the client receives its result; a checkpoint is made and stored, and the server crashes with nothing of the tail but its head

unfoldable pub set_and_store : List Event
set_and_store = after_set (asks 0 1 ∷ outside (receive 1 2) ∷ checkpoint 0 today (replicate head_size 0) lent_checkpoint ∷ store 0 ∷ crash 0 8 ∷ [])

abbrev pub set_stored : Stored
set_stored = record { checkpoint = checkpoint_bytes true set_state; replaced = 32 }

unfoldable pub set_and_store_seen : Trace
set_and_store_seen =
    record {
      rows =
          rows_after_set
          (answering 40 (request_bytes setting_asked) 0 result_size
          ∷ at_client setter (some (result_bytes setting_answer))
          ∷ at_server 40
          ∷ at_server 40
          ∷ crashing 40 0 40
          ∷ []);
      end = record { first = down set_stored (head_bytes 0) 8; second = off };
    }
