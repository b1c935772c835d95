-- What holds where a request is decided.
--     request-number     a refusal's number is at most 9
--     request-room       the tables have room for an execution, and its call is not under the raised floor
--     request-space      the log has space for its record
--     request-timed      it notes a time
--     request-place      its point is one of the plan's
-- Assumes nothing.
use Prim.Native.Nat.{ℕ, ◌+◌, ◌*◌, ◌≤◌, ◌<◌}
use mathlib.Core.Path.{◌≡◌, sym, ap, ◌∙◌}
use mathlib.Core.Bool.{Bool, true, false, ◌&&◌, not}
use mathlib.Core.Option.{Option, none, some}
use native.Mathlib.Omega.{arith}
use lib.ListN.{length}
use lib.Dec.{leb, ltb}
use Rattle.std.specs.Prelude.{Result, Ok, Err}
use Rattle.model.specs.declared.Refusal.{Refusal}
use Rattle.refusals.specs.Numbers.{number_of}
use Rattle.model.specs.declared.Request.{Request}
use Rattle.model.specs.declared.Executed.{Executed}
use Rattle.model.specs.declared.Completion.{Completion}
use Rattle.model.specs.Choice.{pick, refuse, append, is_passed, unless_refused}
use Rattle.model.specs.Numbers.{word}
use Rattle.model.specs.Versions.{today}
use Rattle.model.specs.Limits.{last_point, client_count, executed_size}
use Rattle.model.specs.Images.{floor_of, not_known}
use Rattle.model.specs.Logs.{executed, record_size, executed_size_of}
use Rattle.model.specs.States.{State, point_at, is_held, is_synced}
use Rattle.model.specs.Apply.{apply_record}
use Rattle.model.specs.Decisions.{Decided, find, same_command, executed_for, request_refusal, held_refusal, on_held, new_refusal, on_new, on_id, decide_request}
use Rattle.model.specs.Refusals.{last_denied, log_full, clients_full, other_command, not_synced, not_held, lease_over, under_floor}
use Rattle.model_laws.proofs.Tests.{choose}
use Rattle.model_invariants.specs.Sound.{Sound, GoodRequest, GoodExecuted, Tested}
use Rattle.model_invariants.specs.History.{Decides, by_request}
use Rattle.model_invariants.proofs.Tests.{command-fits}
use Rattle.model_invariants.proofs.Steps.{tested}
use Rattle.model_invariants.proofs.Decided.{request-passed, request_terms}
use Rattle.model_invariants.proofs.Kept.{decided-good, decided-sound}
use Rattle.server_apply.specs.Room.{Room}
use Rattle.server_apply.proofs.Rooms.{room_of_lem}
use Rattle.server_service.specs.declared.request.Decision.{Decision}
use Rattle.server_service.specs.declared.request.Decision.TheVariants.{Execute}
use Rattle.server_service.specs.Decisions.{decided}

-- ---- refusals

-- every refusal's number is at most 9
small-if : (t : Bool) (k m : ℕ) → k ≤ last_denied → m ≤ last_denied → pick t k m ≤ last_denied
small-if true k m h l = h
small-if false k m h l = l

abbrev Small : Decided → Type 0
Small d = (n : ℕ) → d ≡ refuse n → n ≤ log_full

small_unless : (k : ℕ) (d : Decided) → k ≤ last_denied → Small d → Small (unless_refused k d)
unfolding unless_refused
small_unless k d h s = choose Small (is_passed k) (λ e. s) (λ e n p. let m : k ≡ n = cc in omega (arith, m, h))

small-held : (st : State) (q : Request) (r : Completion) → Small (on_held today st q r)
unfolding on_held held_refusal
small-held st q r =
    small_unless _ _ (small-if (not (same_command r q)) other_command _ (omega arith) (small-if (not (is_synced st.mark r.end)) not_synced 0 (omega arith) (omega arith)))
    (λ n e. let z : ◌≡◌ {A = ℕ} 0 1 = cc in absurd (omega arith))

small_new : (st : State) (free : ℕ) (q : Request) → Small (on_new today st free q)
unfolding on_new new_refusal executed_size_of
small_new st free q =
    small_unless _ _
    (small-if (not_known (floor_of q.command.client st.floors) && leb client_count (length st.floors)) clients_full _ (omega arith)
    (small-if (ltb free executed_size) log_full 0 (omega arith) (omega arith)))
    (λ n e. let z : ◌≡◌ {A = ℕ} 0 1 = cc in absurd (omega arith))

small-id : (st : State) (free : ℕ) (q : Request) (o : Option Completion) → Small (on_id today st free q o)
unfolding on_id
small-id st free q none = small_new st free q
small-id st free q (some r) = small-held st q r

small-request : (st : State) (free : ℕ) (q : Request) → Small (decide_request today st free q)
unfolding decide_request request_refusal
small-request st free q =
    small_unless _ _
    (small-if (not (is_held (point_at st q.command.point))) not_held _ (omega arith)
    (small-if (leb q.lease st.heard) lease_over _ (omega arith) (small-if (ltb q.command.call (floor_of q.command.client st.floors)) under_floor 0 (omega arith) (omega arith))))
    (small-id st free q (find q.command.client q.command.call st.records))

module _ (st : State) (free : ℕ) (q : Request) {d : Result Decision Refusal} (p : decided d ≡ decide_request today st free q) where
  pub request-number : (e : Refusal) → d ≡ Err e → number_of e ≤ log_full
  unfolding decided
  request-number e h = small-request st free q (number_of e) (sym p ∙ rw h)

  -- ---- executions

  module _ (x : Executed) (h : d ≡ Ok (Execute x)) where
    appends : decide_request today st free q ≡ append (executed x)
    unfolding decided
    appends = sym p ∙ rw h

    pub request-space : executed_size ≤ free
    unfolding executed_size_of
    request-space = (request_terms today st free q (executed x) appends).1

    its : x ≡ executed_for today st q
    its = one (request-passed today st free q (executed x) appends).1
      where
        one : {a b : Executed} → executed a ≡ executed b → a ≡ b
        one e = cc

    pub request-timed : x.timed ≡ true
    unfolding executed_for
    request-timed = rw its

    module _ (S : Sound st) (G : GoodRequest q) where
      decides : Decides st free (executed x)
      decides = by_request today q G appends

      good : GoodExecuted x
      good = decided-good st free (executed x) S decides

      tests : Tested x
      tests = tested x good.ok

      pub request-place : x.command.point ≤ last_point
      request-place = (command-fits x.command.op x.command.point x.command.argument tests.command).point

      over : floor_of x.command.client st.floors ≤ x.command.call
      unfolding executed_for
      over = rw its (request-passed today st free q (executed x) appends).0.over

      pub request-room : st.size + executed_size < word * word → Room x st
      unfolding apply_record record_size executed_size_of
      request-room z =
          let k : executed_size_of x.timed ≡ executed_size = ap executed_size_of request-timed in
          room_of_lem st x S tests over (st.size + executed_size_of x.timed) (decided-sound st free (executed x) S decides (rw k z))
