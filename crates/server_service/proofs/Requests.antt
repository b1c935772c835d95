-- A request as a chain of refusals, and what it does at the chain's end.
--     request-point, request-argument     what a well-formed request keeps
--     executed-is                         the result of its execution, from what was read
--     held-decided, new_decided, request-decided     what is decided, by its number; refused_by, passed_by: in the arms of a call's `?`
--     on_none, on_at                      by what a search found
--     request-is, request-other, request-one     the whole call
--     denied_by                           refused before its packet is known
--     denies, replies, executes           what is carried out
-- Assumes nothing.
use Prim.Native.Nat.{ℕ, ◌+◌, ◌≤◌}
use mathlib.Core.Path.{◌≡◌, refl, sym, ap, ◌∙◌}
use mathlib.Core.Bool.{true, ◌&&◌}
use mathlib.Core.List.{List, [], ◌∷◌}
use lib.ListN.{length}
use denote.Enum.Declared.{tag_of}
use types.Run.{OneOf, miss}
use lib.Dec.{leb}
use Rattle.std.specs.Prelude.{Option, None, Some, Result, Ok, Err}
use Rattle.std.specs.Result.{IsErrAnd}
use Rattle.model.specs.declared.PlanEntry.{PlanEntry}
use Rattle.model.specs.declared.Point.{Point}
use Rattle.model.specs.declared.CommandResult.{CommandResult}
use Rattle.model.specs.declared.Request.{Request}
use Rattle.model.specs.declared.Executed.{Executed}
use Rattle.model.specs.declared.Completion.{Completion}
use Rattle.model.specs.declared.Packet.{Packet}
use Rattle.model.specs.declared.Packet.TheVariants.{Requested, Resulted, Refused, Receipted, Noticed, Granted}
use Rattle.model.specs.contracts.Packet.{the_type}
use Rattle.model.specs.Choice.{refuse, reply, append, unless_refused}
use Rattle.model.specs.Versions.{today}
use Rattle.model.specs.Limits.{last_point, executed_size, refusal_size, result_size}
use Rattle.model.specs.Tables.{written}
use Rattle.model.specs.Plan.{entry_at}
use Rattle.model.specs.Rules.{argument_ok}
use Rattle.model.specs.Images.{floor_of}
use Rattle.model.specs.Packets.{result_size_of, command_ok, id_ok, done_ok, request_ok, result_bytes, refusal_bytes, parse_packet, as_request}
use Rattle.model.specs.Logs.{executed, record_bytes, record_size, executed_size_of}
use Rattle.model.specs.States.{State, load, point_at}
use Rattle.model.specs.Apply.{apply_record, apply_executed}
use Rattle.model.specs.Decisions.{Decided, timed_by, or_malformed, find, result_of_record, result_for, executed_for, request_refusal, held_refusal, new_refusal, on_held, on_new, on_id, decide_request, denying, on_request}
use Rattle.model.specs.Operations.{After, answer_of, after, settle, stored, free_in, lent_refusal, lent, request_of}
use Rattle.model.specs.Refusals.{malformed, no_refusal}
use Rattle.model.specs.declared.Refusal.{Refusal}
use Rattle.refusals.specs.declared.Denied.{Denied}
use Rattle.refusals.specs.Numbers.{number_of, denied, request_answered}
use Rattle.refusals.proofs.Numbers.{number-some, exit}
use Rattle.model_laws.proofs.Tests.{and_left}
use Rattle.model_laws.proofs.Commands.{CommandParts, command-parts}
use Rattle.format_commands.specs.Results.{checked_rule}
use Rattle.model_invariants.specs.Sound.{GoodRequest}
use Rattle.model_laws.proofs.Refused.{unless_passed, unless_refused_lem}
use Rattle.state_records.specs.Rules.{found_of}
use Rattle.state_records.proofs.Search.{found_none, found_at}
use Rattle.server_memory.proofs.Settled.{settle-refused, replied, appended}
use Rattle.server_service.specs.declared.request.Decision.{Decision}
use Rattle.server_service.specs.declared.request.Decision.TheVariants.{Reply, Execute}
use Rattle.server_service.specs.Decisions.{decided, refusal_for}

-- ---- a well-formed request

module _ (q : Request) (g : GoodRequest q) where
  asked : CommandParts q.command.op q.command.point q.command.argument
  unfolding request_ok
  asked =
      command-parts q.command.op q.command.point q.command.argument
      (and_left (command_ok q.command.op q.command.point q.command.argument) (id_ok q.command.client q.command.call && done_ok q.done q.command.call) g.ok)

  pub request-point : q.command.point ≤ last_point
  request-point = asked.point

  pub request-argument : argument_ok q.command.op q.command.argument ≡ true
  request-argument = asked.ranged

  -- the record of its execution
  pub executed-is : (st : State) {e : PlanEntry} {x : Point} {r : CommandResult} → e ≡ entry_at st.plan q.command.point → x ≡ point_at st q.command.point
      → r ≡ checked_rule e q.command.op q.command.argument (record { value = x.value; quality = x.quality }) → r ≡ result_for today st q
  unfolding checked_rule result_for
  executed-is st a b c = c ∙ rw (a, b, request-argument)

-- ---- a decision in code

module _ (st : State) (q : Request) where
  pub held-decided : (r : Completion) → on_held today st q r ≡ unless_refused (held_refusal st.mark q r) (reply (result_bytes (result_of_record true r)))
  unfolding on_held timed_by
  held-decided r = refl

  pub new_decided : (free : ℕ)
      → on_new today st free q ≡ unless_refused (new_refusal (floor_of q.command.client st.floors) (length st.floors) free executed_size) (append (executed (executed_for today st q)))
  unfolding on_new executed_size_of
  new_decided free = refl

  pub request-decided : (free : ℕ)
      → decide_request today st free q
      ≡ unless_refused (request_refusal (point_at st q.command.point) (leb q.lease st.heard) (floor_of q.command.client st.floors) q.command.call)
      (on_id today st free q (find q.command.client q.command.call st.records))
  unfolding decide_request
  request-decided free = refl

-- in the arms of the `?` on a call that promises the number m: it gave the refusal y, and so does r; or it passed
module _ (d : Decided) {e : Decided} {m : ℕ} (q : e ≡ unless_refused m d) where
  pub refused_by : (y : Refusal) → number_of y ≡ m → (r : Result Decision Refusal) → IsErrAnd r (λ x. x ≡ y) → decided r ≡ e
  unfolding decided
  refused_by y p r h = rw (exit r h) (sym (q ∙ ap (λ (j : ℕ). unless_refused j d) (sym p) ∙ unless_refused_lem (number_of y) d (number-some y)))

  pub passed_by : no_refusal ≡ m → {r : Decided} → r ≡ d → r ≡ e
  passed_by p k = k ∙ sym (q ∙ unless_passed m d (sym p))

module _ (st : State) (free : ℕ) (q : Request) {f : Option Completion} (p : f ≡ found_of (find q.command.client q.command.call st.records)) where
  pub on_none : f ≡ None → {d : Decided} → d ≡ on_new today st free q → d ≡ on_id today st free q (find q.command.client q.command.call st.records)
  unfolding on_id
  on_none h k = k ∙ rw (found_none (find q.command.client q.command.call st.records) (sym h ∙ p))

  pub on_at : (x : Completion) → f ≡ Some x → {d : Decided} → d ≡ on_held today st q x → d ≡ on_id today st free q (find q.command.client q.command.call st.records)
  unfolding on_id
  on_at x h k = k ∙ rw (found_at (find q.command.client q.command.call st.records) x (sym h ∙ p))

-- ---- the whole call

other-packet : (st : State) (free : ℕ) (p : Packet) → OneOf (1 ∷ 2 ∷ 3 ∷ 4 ∷ 5 ∷ []) (tag_of the_type p) → on_request today st free (Some p) ≡ refuse malformed
unfolding on_request or_malformed as_request
other-packet st free (Requested q) h = absurd (miss (1 ∷ 2 ∷ 3 ∷ 4 ∷ 5 ∷ []) 0 tt h)
other-packet st free (Resulted q) h = refl
other-packet st free (Refused q) h = refl
other-packet st free (Receipted q) h = refl
other-packet st free (Noticed n) h = refl
other-packet st free (Granted q) h = refl

module _ (s log out : List ℕ) where
  module _ (packet : List ℕ) where
    pub request-is : request_of today s log packet out ≡ settle s log out
        (unless_refused (lent_refusal s log (length out) result_size) (on_request today (load s) (free_in s log) (parse_packet packet)))
    unfolding request_of lent result_size_of timed_by
    request-is = refl

    pub request-none : {o : Option Packet} → o ≡ parse_packet packet → o ≡ None
        → after (answer_of malformed 0) s log out ≡ settle s log out (on_request today (load s) (free_in s log) (parse_packet packet))
    unfolding settle on_request or_malformed as_request
    request-none e is = rw (← e, is) refl

    pub request-other : {o : Option Packet} {p : Packet} → o ≡ parse_packet packet → o ≡ Some p → OneOf (1 ∷ 2 ∷ 3 ∷ 4 ∷ 5 ∷ []) (tag_of the_type p)
        → after (answer_of malformed 0) s log out ≡ settle s log out (on_request today (load s) (free_in s log) (parse_packet packet))
    unfolding settle
    request-other {p = p} e is h = rw (← e, is, other-packet (load s) (free_in s log) p h)

    pub request-one : (q : Request) {o : Option Packet} {p : Packet} {a : After} → o ≡ parse_packet packet → o ≡ Some p → p ≡ Requested q
        → a ≡ settle s log out (denying q (decide_request today (load s) (free_in s log) q)) → a ≡ settle s log out (on_request today (load s) (free_in s log) (parse_packet packet))
    unfolding on_request or_malformed as_request
    request-one q e is h k = rw (← e, is, h) k

  -- in the error arm of the `?` on a call that promises the number m: it gave the refusal e, and r is it without a packet
  pub denied_by : (d : Decided) {m : ℕ} (e : Refusal) → number_of e ≡ m → (r : Result ℕ Denied) → IsErrAnd r (λ x. x ≡ denied e 0)
      → after (request_answered r) s log out ≡ settle s log out (unless_refused m d)
  denied_by d e p r h = rw (exit r h, ← p) (sym (settle-refused s log out d (number_of e) (number-some e)))

  -- what is carried out, by what was decided
  module _ (q : Request) {d : Result Decision Refusal} {e : Decided} (p : decided d ≡ e) where
    pub denies : (y : Refusal) → d ≡ Err y → {r : Denied} {o : List ℕ} → r ≡ denied y refusal_size → o ≡ written out 0 (refusal_bytes (refusal_for (number_of y) q))
        → after (request_answered (Err r)) s log o ≡ settle s log out (denying q e)
    unfolding decided denying settle refusal_bytes
    denies y h a b = rw (← p, h, a, b)

    pub replies : (x : Completion) → d ≡ Ok (Reply x) → {n : ℕ} {o : List ℕ} → n ≡ result_size → o ≡ written out 0 (result_bytes (result_of_record true x))
        → after (answer_of no_refusal n) s log o ≡ settle s log out (denying q e)
    unfolding decided denying result_of_record
    replies x h a b = rw (← p, h) (replied s log out (result_of_record true x) refl a b)

    pub executes : (x : Executed) → d ≡ Ok (Execute x) → x.timed ≡ true → {t l : List ℕ}
        → t ≡ stored s (apply_executed x ((load s).size + executed_size) (load s)) → l ≡ written log (load s).size (record_bytes (executed x))
        → after (answer_of no_refusal 0) t l out ≡ settle s log out (denying q e)
    unfolding decided denying apply_record record_size executed_size_of
    executes x h z b c =
        rw (← p, h)
        (appended s log out (executed x) (b ∙ ap (λ (n : ℕ). stored s (apply_executed x ((load s).size + n) (load s))) (sym (ap executed_size_of z))) c)
