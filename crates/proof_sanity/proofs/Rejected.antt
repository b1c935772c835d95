-- The servers that docs/REFERENCE.md rules out ("What such sentences rule out"), each by a theorem over the
-- definitions that the contracts of the calls cite. `Ready` are slices that are refused with neither 2 nor 19; nothing else is
-- asked of the state in them but that it is sound, so each theorem holds of reachable and unreachable states alike.
--     served-after-sync     a server that stays at 7 after sync
--     recovered-keeps       one that recovers to the founding state; recovered-same, recovered-later: recovery loses nothing of the log kept
--     resumed               one that forgets its checkpoint
--     own-result            one that echoes its first result; own-results-differ: two ids, two packets
--     places-and-space      one that says 8 or 9 with places and space free; it holds of all slices, ready or not
--     not-refuses_all       one that refuses all
--     not-one-result        one fixed result; served-own, set-result: each execution's own result, of a set its value
--     not_unchanging        one that changes nothing
-- Assumes nothing.
use Rattle.std.specs.Prelude.{Option, Some, None}
use Prim.Native.Nat.{ℕ, ◌+◌, ◌-◌, ◌*◌, ◌≤◌, ◌<◌}
use mathlib.Core.Path.{◌≡◌, refl, sym, ap, ◌∙◌, subst}
use mathlib.Core.Bool.{Bool, true, false, ◌&&◌}
use mathlib.Core.List.{List, [], ◌∷◌, ◌++◌, append_assoc, append-nil}
use mathlib.Core.Option.{Option as Maybe, none, some, map}
use mathlib.Core.Logic.{◌≢◌, ◌⊎◌, inl, inr}
use native.Mathlib.Omega.{arith}
use lib.ListN.{length, take, drop}
use lib.Seq.{take-take, take-append_seam}
use lib.Dec.{eqb, leb, ltb, lit≤}
use borrow.Author.Tests.{eqb-true, eqb-false, ne_eqb, le-ltb, lt-leb, le-leb}
use Rattle.model.specs.Versions.{today}
use Rattle.model.specs.declared.PlanEntry.{PlanEntry}
use Rattle.model.specs.declared.Point.{Point}
use Rattle.model.specs.declared.Request.{Request}
use Rattle.model.specs.declared.CommandResult.{CommandResult}
use Rattle.model.specs.declared.ResultPacket.{ResultPacket}
use Rattle.model.specs.declared.Completion.{Completion}
use Rattle.model.specs.declared.Packet.{Packet}
use Rattle.model.specs.declared.Packet.TheVariants.{Requested, Resulted, Refused, Receipted, Noticed, Granted}
use Rattle.model.specs.Choice.{refuse, reply, append, is_passed, unless_refused}
use Rattle.model.specs.Refusals
use Rattle.model.specs.Numbers.{word}
use Rattle.model.specs.Limits.{last_server, client_count, state_size, head_size, checkpoint_size, result_size, executed_size, set_op, carried_out, by_hand}
use Rattle.model.specs.Tables.{written, keep}
use Rattle.model.specs.Plan.{plan_ok, plan_of, entry_at, in_range}
use Rattle.model.specs.Rules.{rule_of, set_rule}
use Rattle.model.specs.Packets.{parse_packet, as_request, result_bytes}
use Rattle.model.specs.Images.{floor_of, not_known}
use Rattle.model.specs.Logs.{Entry, executed, executed_size_of, record_size, head_bytes, head_server, record_bytes, entries_bytes}
use Rattle.model.specs.States.{State, load, point_at}
use Rattle.model.specs.Apply.{completion, executed_point, apply_executed, founded, with_mark, apply, replay_from}
use Rattle.model.specs.Decisions.{Decided, timed_by, time_for, with_time, or_malformed, find, same_command, result_of_record, on_held, result_for, executed_for, on_new, on_id, decide_request, denying, on_request}
use Rattle.model.specs.Operations.{After, answer_of, after, short, unfit, free_in, stored, settle, left_unless, found_refusal, found_of, request_of, sync_of, recover_refusal, recover_of, settle_recovered, recovered_state}
use Rattle.model.specs.Checkpoints.{placed_record, placed, end_before, rebased, checkpoint_bytes, checkpoint_state, AfterCheckpoint, checkpoint_refusal, checkpoint_of, recovered_tail, recover_tail_refusal, recover_tail_of}
use Rattle.model_laws.specs.Bytes.{Bytes}
use Rattle.model_laws.specs.Fits.{Incomplete, EntriesFrom, last_end}
use Rattle.model_laws.proofs.Tests.{choose}
use Rattle.model_laws.proofs.Tables.{keep_append}
use Rattle.model_laws.proofs.Written.{take-written-run, length-written, written-front}
use Rattle.model_laws.proofs.Logs.{record-length, head-back}
use Rattle.model_laws.proofs.TwoWalks.{recovered_on_lem}
use Rattle.model_invariants.specs.Sound.{Sound, GoodCompletion}
use Rattle.model_invariants.specs.Passed.{Admits, FirstRequest}
use Rattle.model_invariants.specs.History as History
use Rattle.model_invariants.specs.History.{GoodPlan, Start}
use Rattle.model.specs.Calls.{request, operated}
use Rattle.model_invariants.specs.Calls.{Holds, decided_on, entries_after}
use Rattle.model_invariants.proofs.Floors.{eqb_same}
use Rattle.model_invariants.proofs.Tests.{split, times-fit}
use Rattle.model_invariants.proofs.Steps.{sound-mark}
use Rattle.model_invariants.proofs.Decided.{find-has, fresh-find, founded-executes, request-other, held-other, new_other}
use Rattle.model_invariants.proofs.Kept.{founded-start, founded-sound, apply-mark}
use Rattle.model_invariants.proofs.Recovery.{recovers}
use Rattle.model_invariants.proofs.Crash.{replay-end, log-recovers, decided-from, decided-cut, head-recovers, crash-state}
use Rattle.model_invariants.proofs.Calls.{lent_elim}
use Rattle.model_invariants.proofs.Formats.{parsed-request}
use Rattle.model_invariants.proofs.Running.{holds-size, operation-holds}
use Rattle.model_invariants.proofs.Loaded.{plan-good, stored-load}
use Rattle.model_invariants.proofs.Placed.{find-placed}
use Rattle.model_invariants.proofs.Checkpoints.{rebased-point, rebased_sound64, checkpoint-back, checkpoint-fits}
use Rattle.model_invariants.proofs.Restored.{checkpoint-size}
use Rattle.proof_sanity.specs.Ready.{Ready, Asks, Changed, Own, answered_with, Served, Regained, Resumed, Begins}
use Rattle.proof_sanity.proofs.Calls.{result-front, request-point, request_replied, packet_read, request-is, request-held, ready_sound, ready_stored, sync_all, ready_synced, synced-loads, executed-passed, executed-result, executed-space, executed-sound, executed-loads, executed_ready, executed-found, executed-point, executed_admitted}

and_no : (a : Bool) {b : Bool} → b ≡ false → (a && b) ≡ false
and_no true e = e
and_no false e = refl

-- ---- "a cabinet that stays at 7 after sync (demand 2)"

-- a sync to the log's length is not refused, and then an id that is held with the same command is answered with its result, if the request
-- passes the tests that stand before its id is looked up
pub served-after-sync : {state log out : List ℕ} → Ready state log out → (b : List ℕ) (q : Request) → Asks b q → (r : Completion)
    → find q.command.client q.command.call (load state).records ≡ some r → same_command r q ≡ true → Admits (load state) q
    → ((sync_of state log (load state).size).answer ≡ answer_of Refusals.no_refusal 0)
    × (request_of today (sync_of state log (load state).size).state (sync_of state log (load state).size).log b out
    ≡ after (answer_of Refusals.no_refusal result_size) (sync_of state log (load state).size).state log (written out 0 (result_bytes (result_of_record true r))))
unfolding with_mark point_at
served-after-sync {state} {log} {out} R b q A r f same a =
    let st = load state in
    let S = ready_sound R in
    let m = with_mark st.size st in
    let g : GoodCompletion st.plan st.size r = (find-has (GoodCompletion st.plan st.size) q.command.client q.command.call st.records r f S.records).0 in
    rw (sync_all R) (
      refl,
      request-held (ready_synced R) b q A.parsed r
          (subst (λ (x : State). find q.command.client q.command.call x.records ≡ some r) (sym (synced-loads R)) f) same
          (subst (λ (x : State). Admits x q) (sym (synced-loads R)) a)
          (subst (λ (x : State). r.end ≤ x.mark) (sym (synced-loads R)) g.within),
    )

-- ---- "one that changes nothing (2)"

pub not_unchanging : {state log out : List ℕ} → Ready state log out → (b : List ℕ) (q : Request) → Asks b q → (request_of today state log b out).answer ≡ answer_of Refusals.no_refusal 0
    → Changed state log q (request_of today state log b out)
unfolding apply_executed executed_point executed_for with_time record_size executed_size_of
not_unchanging {state} {log} {out} R b q A z =
    let st = load state in
    let x = executed_for today st q in
    let new = apply_executed x (st.size + executed_size) st in
    let P = executed-passed R b q A z in
    let e = executed-loads R b q A z in
    let p : point_at (load (stored state new)) q.command.point ≡ executed_point x (point_at st q.command.point)
    = ap (λ (y : State). point_at y q.command.point) e ∙ executed-point R b q A z in
    let n : length (record_bytes (executed x)) ≡ executed_size = record-length (executed x) in
    let k : (load (stored state new)).size ≡ st.size + executed_size = ap (λ (y : State). y.size) e in
    let w : take (st.size + length (record_bytes (executed x))) (written log st.size (record_bytes (executed x))) ≡ take st.size log ++ record_bytes (executed x)
    = take-written-run log st.size (record_bytes (executed x)) (omega (arith, n, executed-space R b q A z)) in
    rw (executed-result R b q A z)
    (record {
      was = fresh-find q.command.client q.command.call st.records P.fresh;
      is = subst (λ (y : State). find q.command.client q.command.call y.records ≡ some (completion x (st.size + executed_size))) (sym e) (executed-found R b q A z);
      value = ap (λ (y : Point). y.value) p;
      quality = ap (λ (y : Point). y.quality) p;
      size = k;
      logged = ap (λ (y : ℕ). take y (written log st.size (record_bytes (executed x)))) (k ∙ ap (λ (y : ℕ). st.size + y) (sym n)) ∙ w;
    })

-- ---- a server that answers every request with the result of the first

-- what a request is answered with is the result packet of its own id, with its own command
pub own-result : {state log out : List ℕ} → Ready state log out → (b : List ℕ) (q : Request) → Asks b q
    → (request_of today state log b out).answer ≡ answer_of Refusals.no_refusal result_size → (r : Completion) × Own state q (request_of today state log b out) r
unfolding same_command
own-result {state} {log} {out} R b q A z =
    let st = load state in
    let S = ready_sound R in
    let k = request_replied R b q A.parsed z in
    let r : Completion = k.0 in
    let g = find-has (GoodCompletion st.plan st.size) q.command.client q.command.call st.records r k.1 S.records in
    let c = split (eqb r.command.op q.command.op) (eqb r.command.point q.command.point && eqb r.command.argument q.command.argument) k.2 in
    let d = split (eqb r.command.point q.command.point) (eqb r.command.argument q.command.argument) c.1 in (
      r,
      record {
        found = k.1;
        packet = rw k.3 (ap parse_packet (result-front out r R.output) ∙ packet_read st S r g.0);
        client = g.1;
        call = g.2;
        op = eqb-true _ _ c.0;
        point = eqb-true _ _ d.0;
        argument = eqb-true _ _ d.1;
      },
    )

-- two ids are answered with two packets, whenever and wherever they are
pub own-results_differ : {state log out state' log' out' : List ℕ} → Ready state log out → Ready state' log' out' → (b b' : List ℕ) (q q' : Request)
    → Asks b q → Asks b' q' → (request_of today state log b out).answer ≡ answer_of Refusals.no_refusal result_size
    → (request_of today state' log' b' out').answer ≡ answer_of Refusals.no_refusal result_size
    → (q.command.client ≡ q'.command.client → q.command.call ≡ q'.command.call → ⊥)
    → take result_size (request_of today state log b out).out ≢ take result_size (request_of today state' log' b' out').out
unfolding result_of_record
own-results_differ R R' b b' q q' A A' z z' other e =
    let o = own-result R b q A z in
    let o' = own-result R' b' q' A' z' in
    let r : Completion = o.0 in
    let r' : Completion = o'.0 in
    let k : Some (Resulted (result_of_record true r)) ≡ Some (Resulted (result_of_record true r')) = sym o.1.packet ∙ ap parse_packet e ∙ o'.1.packet in
    let p : result_of_record true r ≡ result_of_record true r' = cc in
    other (sym o.1.client ∙ ap (λ (x : ResultPacket). x.client) p ∙ o'.1.client) (sym o.1.call ∙ ap (λ (x : ResultPacket). x.call) p ∙ o'.1.call)

-- ---- a server that answers 8 or 9 although there is place and space

-- for all slices: number 8 or 9 only where its test holds
module _ (state log out b : List ℕ) (n : ℕ) (low : 8 ≤ n) (high : n ≤ 9)
    (eight : (q : Request) → parse_packet b ≡ Some (Requested q) → n ≡ 8 → (not_known (floor_of q.command.client (load state).floors) && leb client_count (length (load state).floors)) ≡ false)
    (nine : n ≡ 9 → ltb (free_in state log) executed_size ≡ false) where
  abbrev st : State
  st = load state

  abbrev free : ℕ
  free = free_in state log

  abbrev Other : Decided → Type 0
  Other d = (settle state log out d).answer.refusal ≢ n

  module _ (q : Request) (e : parse_packet b ≡ Some (Requested q)) where
    abbrev Denied : Decided → Type 0
    Denied d = Other (denying q d)

    denies : (k : ℕ) → k ≢ n → Denied (refuse k)
    unfolding settle denying
    denies k h = h

    by : (m : ℕ) (d : Decided) → eqb m n ≡ false → Denied d → Denied (unless_refused m d)
    unfolding unless_refused
    by m d h g = choose Denied (is_passed m) (λ k. g) (λ k. denies m (eqb-false m n h))

    by_id : (o : Maybe Completion) → Denied (on_id today st free q o)
    unfolding on_id on_new on_held settle denying timed_by executed_size_of
    by_id none =
        let c = q.command in
        by _ (append (executed (executed_for today st q))) (new_other (floor_of c.client st.floors) (length st.floors) free (executed_size_of true) n low high (eight q e) nine) (λ k. omega arith)
    by_id (some r) = by _ (reply (result_bytes (result_of_record true r))) (held-other st.mark q r n low high) (λ k. omega arith)

    by_tests : Denied (decide_request today st free q)
    unfolding decide_request
    by_tests =
        let c = q.command in
        by _ (on_id today st free q (find c.client c.call st.records))
        (request-other (point_at st c.point) (leb q.lease st.heard) (floor_of c.client st.floors) c.call n low high)
        (by_id (find c.client c.call st.records))

  by_packet : (p : Option Packet) → parse_packet b ≡ p → Other (on_request today st free p)
  unfolding on_request or_malformed as_request settle
  by_packet None e = λ k. omega arith
  by_packet (Some (Requested q)) e = by_tests q e
  by_packet (Some (Resulted r)) e = λ k. omega arith
  by_packet (Some (Refused r)) e = λ k. omega arith
  by_packet (Some (Receipted r)) e = λ k. omega arith
  by_packet (Some (Noticed r)) e = λ k. omega arith
  by_packet (Some (Granted r)) e = λ k. omega arith

  other-number : (request_of today state log b out).answer.refusal ≢ n
  unfolding request_of settle
  other-number =
      lent_elim Other state log out _ (on_request today st free (parse_packet b)) (λ k. omega arith) (λ k. omega arith)
      (λ l s f. by_packet (parse_packet b) refl)

places : (state log b out : List ℕ) (q : Request) → parse_packet b ≡ Some (Requested q)
    → (floor_of q.command.client (load state).floors ≢ 0) ⊎ (length (load state).floors < client_count)
    → (request_of today state log b out).answer.refusal ≢ Refusals.clients_full
places state log b out q e h =
    other-number state log out b Refusals.clients_full (lit≤ tt) (lit≤ tt)
    (λ r k t.
    let same : q ≡ r = cc in
    subst (λ (y : Request). (not_known (floor_of y.command.client (load state).floors) && leb client_count (length (load state).floors)) ≡ false) same (free h))
    (λ t. absurd (omega arith))
  where
    free : (floor_of q.command.client (load state).floors ≢ 0) ⊎ (length (load state).floors < client_count)
        → (not_known (floor_of q.command.client (load state).floors) && leb client_count (length (load state).floors)) ≡ false
    free (inl k) = rw (ne_eqb _ _ k)
    free (inr k) = and_no (not_known (floor_of q.command.client (load state).floors)) (lt-leb _ _ k)

space : (state log b out : List ℕ) → (load state).size + executed_size ≤ length log → (request_of today state log b out).answer.refusal ≢ Refusals.log_full
unfolding free_in
space state log b out h =
    other-number state log out b Refusals.log_full (lit≤ tt) (lit≤ tt) (λ r k t. absurd (omega arith)) (λ t. le-ltb (length log - (load state).size) executed_size (omega (arith, h)))

pub places-and-space : (state log b out : List ℕ) (q : Request) → parse_packet b ≡ Some (Requested q)
    → ((floor_of q.command.client (load state).floors ≢ 0) ⊎ (length (load state).floors < client_count) → (request_of today state log b out).answer.refusal ≢ Refusals.clients_full)
    × ((load state).size + executed_size ≤ length log → (request_of today state log b out).answer.refusal ≢ Refusals.log_full)
places-and-space state log b out q e = (places state log b out q e, space state log b out)

-- ---- "one fixed result (2)"

-- a request that was executed, a sync to the log's length, and the same request: its answer is its own execution's result
pub served-own : {state log out : List ℕ} → Ready state log out → (b : List ℕ) (q : Request) → Asks b q → (request_of today state log b out).answer ≡ answer_of Refusals.no_refusal 0
    → Served b q (executed_for today (load state) q).result out (request_of today state log b out).state (request_of today state log b out).log
unfolding same_command completion executed_for executed_point result_of_record apply_executed answered_with
served-own {state} {log} {out} R b q A z =
    let st = load state in
    let x = executed_for today st q in
    let end = st.size + executed_size in
    let new = apply_executed x end st in
    let r = completion x end in
    let e = executed-loads R b q A z in
    let S = executed-sound R b q A z in
    let f : find q.command.client q.command.call new.records ≡ some r = executed-found R b q A z in
    let same : same_command r q ≡ true = rw (eqb_same q.command.op, eqb_same q.command.point, eqb_same q.command.argument) in
    let g = (find-has (GoodCompletion new.plan new.size) q.command.client q.command.call new.records r f S.records).0 in
    let k = served-after-sync (executed_ready R b q A z) b q A r (subst (λ (y : State). find q.command.client q.command.call y.records ≡ some r) (sym e) f) same
    (subst (λ (y : State). Admits y q) (sym e) (executed_admitted R b q A z)) in
    rw (executed-result R b q A z)
    (record {
      synced = k.0;
      answer = ap (λ (y : After). y.answer) k.1;
      packet =
          ap (λ (y : After). parse_packet (take result_size y.out)) k.1
          ∙ ap parse_packet (result-front out r R.output) ∙ packet_read new S r g;
    })

same-packet : (p p' : ResultPacket) → Some (Resulted p) ≡ Some (Resulted p') → p ≡ p'
same-packet p p' e = cc

set-rule : (st : State) (q : Request) → q.command.op ≡ set_op → in_range (entry_at st.plan q.command.point) q.command.argument ≡ true
    → (executed_for today st q).result ≡ record { outcome = carried_out; value = q.command.argument; quality = by_hand; time = st.heard }
unfolding executed_for time_for with_time result_for rule_of set_rule
set-rule st q o i = rw (o, i)

-- a set of a value in range is answered with outcome 0, that value, quality 2 and the heard time of its execution
pub set-result : {state log out : List ℕ} → Ready state log out → (b : List ℕ) (q : Request) → Asks b q → (request_of today state log b out).answer ≡ answer_of Refusals.no_refusal 0
    → q.command.op ≡ set_op → in_range (entry_at (load state).plan q.command.point) q.command.argument ≡ true
    → Served b q (record { outcome = carried_out; value = q.command.argument; quality = by_hand; time = (load state).heard }) out (request_of today state log b out).state
    (request_of today state log b out).log
set-result {state} {log} {out} R b q A z o i =
    subst (λ (y : CommandResult). Served b q y out (request_of today state log b out).state (request_of today state log b out).log) (set-rule (load state) q o i) (served-own R b q A z)

-- so sets of two values are answered with two packets
pub not-one-result : {state log out state' log' out' : List ℕ} → Ready state log out → Ready state' log' out' → (b b' : List ℕ) (q q' : Request)
    → Asks b q → Asks b' q' → (request_of today state log b out).answer ≡ answer_of Refusals.no_refusal 0 → (request_of today state' log' b' out').answer ≡ answer_of Refusals.no_refusal 0
    → q.command.op ≡ set_op → q'.command.op ≡ set_op → in_range (entry_at (load state).plan q.command.point) q.command.argument ≡ true
    → in_range (entry_at (load state').plan q'.command.point) q'.command.argument ≡ true → q.command.argument ≢ q'.command.argument
    → answered_with b out (request_of today state log b out).state (request_of today state log b out).log
    ≢ answered_with b' out' (request_of today state' log' b' out').state (request_of today state' log' b' out').log
not-one-result R R' b b' q q' A A' z z' o o' i i' other e =
    let s = set-result R b q A z o i in
    let s' = set-result R' b' q' A' z' o' i' in
    let k = sym s.packet ∙ ap parse_packet e ∙ s'.packet in
    other (ap (λ (x : ResultPacket). x.result.value) (same-packet _ _ k))

-- ---- "one that executes well and recovers to the founding state (both)"

-- entries end one after the other
from_low : (k : ℕ) (es : List Entry) → EntriesFrom k es → k ≤ last_end k es
unfolding last_end
from_low k [] f = omega arith
from_low k (e ∷ es) f = omega (arith, f.0.end, from_low e.end es f.1)

-- a cut behind the last one keeps all
from-kept : (c k : ℕ) (es : List Entry) → EntriesFrom k es → last_end k es ≤ c → keep (λ (e : Entry). leb e.end c) es ≡ es
unfolding last_end keep
from-kept c k [] f l = refl
from-kept c k (e ∷ es) f l =
    rw (le-leb e.end c (omega (arith, from_low e.end es f.1, l))) (ap (λ (y : List Entry). e ∷ y) (from-kept c e.end es f.1 l))

replay_on : (s : State) (es fs : List Entry) → replay_from s (es ++ fs) ≡ replay_from (replay_from s es) fs
unfolding replay_from
replay_on s [] fs = refl
replay_on s (e ∷ es) fs = replay_on (apply s e) es fs

-- replay does not depend on the mark
replay-mark : (m : ℕ) (s : State) (es : List Entry) → replay_from (with_mark m s) es ≡ with_mark m (replay_from s es)
unfolding replay_from apply
replay-mark m s [] = refl
replay-mark m s (e ∷ es) = ap (λ (y : State). replay_from y es) (apply-mark e.item e.end m s) ∙ replay-mark m (apply s e) es

module _ (plan : List PlanEntry) (n : ℕ) (g : GoodPlan plan) (h : n ≤ last_server) where
  abbrev start : Start (founded plan n)
  start = founded-start plan n g h

  -- recovery from a server's log, and part of one more record behind it, gives the state that the server had, all of it synced
  pub recovered-same : (es : List Entry) (state log : List ℕ) → Holds (founded plan n) es state log → (rest fresh p : List ℕ) → Incomplete rest
      → state_size ≤ length fresh → plan_ok p ≡ true → plan_of p ≡ plan
      → ((recover_of fresh (take (load state).size log ++ rest) p).answer ≡ answer_of Refusals.no_refusal 0)
      × (load (recover_of fresh (take (load state).size log ++ rest) p).state ≡ with_mark (load state).size (load state))
  unfolding recover_of recover_refusal left_unless settle_recovered with_mark founded
  recovered-same es state log H rest fresh p i l ok same =
      let rp = replay_from (founded plan n) es in
      let size : (load state).size ≡ rp.size = holds-size start es state log H in
      let kept : take (load state).size log ++ rest ≡ head_bytes n ++ (entries_bytes es ++ rest)
      = ap (λ (k : ℕ). take k log ++ rest) (size ∙ replay-end start es) ∙ ap (λ (y : List ℕ). y ++ rest) H.logged ∙ append_assoc (head_bytes n) (entries_bytes es) rest in
      let r : recovered_state (plan_of p) (take (load state).size log ++ rest) ≡ some rp
      = ap (λ (y : List PlanEntry). recovered_state y (take (load state).size log ++ rest)) same ∙ ap (recovered_state plan) kept
      ∙ head-recovers plan n (entries_bytes es ++ rest) h ∙ log-recovers start n es rest H.decided i in
      let S = (recovers start es H.decided).sound in
      let M = sound-mark rp rp.size S S.mark (omega arith) in
      let e : recover_of fresh (take (load state).size log ++ rest) p
      ≡ after (answer_of Refusals.no_refusal 0) (stored fresh (with_mark rp.size rp)) (take (load state).size log ++ rest) []
      = rw (le-ltb (length fresh) state_size l, ok, r) in
      let w : with_mark rp.size rp ≡ with_mark (load state).size (load state)
      = ap (λ (k : ℕ). with_mark k rp) (sym size) ∙ ap (λ (y : State). with_mark (load state).size y) (sym H.same) in
      (ap (λ (y : After). y.answer) e, ap (λ (y : After). load y.state) e ∙ stored-load fresh (with_mark rp.size rp) M (omega arith) ∙ w)

  -- so it keeps what a request executed, whatever part of a later record the crash kept
  pub recovered-keeps : (es : List Entry) (state log out : List ℕ) → Ready state log out → Holds (founded plan n) es state log → (b : List ℕ) (q : Request) → Asks b q
      → (request_of today state log b out).answer ≡ answer_of Refusals.no_refusal 0
      → (rest fresh p : List ℕ) → Incomplete rest → state_size ≤ length fresh → plan_ok p ≡ true → plan_of p ≡ plan
      → Regained state q (recover_of fresh (take (load (request_of today state log b out).state).size (request_of today state log b out).log ++ rest) p)
  unfolding operated with_mark point_at
  recovered-keeps es state log out R H b q A z rest fresh p i l ok same =
      let a = request_of today state log b out in
      let C = not_unchanging R b q A z in
      let K : Holds (founded plan n) (entries_after (founded plan n) es (decided_on (request today b) state log out)) a.state a.log
      = operation-holds start (request today b) es state log out H R.bytes R.counted A.bytes in
      let k = recovered-same (entries_after (founded plan n) es (decided_on (request today b) state log out)) a.state a.log K rest fresh p i l ok same in
      record {
        answer = k.0;
        holds = ap (λ (y : State). find q.command.client q.command.call y.records) k.1 ∙ C.is;
        value = ap (λ (y : State). (point_at y q.command.point).value) k.1 ∙ C.value;
        quality = ap (λ (y : State). (point_at y q.command.point).quality) k.1 ∙ C.quality;
        synced = ap (λ (y : State). y.mark) k.1 ∙ sym (ap (λ (y : State). y.size) k.1);
      }

  -- and of a later log, from any kept prefix that includes what the server had: that state with the later records kept replayed on it
  pub recovered-later : (es fs : List Entry) (state log state₂ log₂ : List ℕ) → Holds (founded plan n) es state log → Holds (founded plan n) (es ++ fs) state₂ log₂
      → (c : ℕ) → (load state).size ≤ c → c ≤ (load state₂).size → (fresh p : List ℕ) → state_size ≤ length fresh → plan_ok p ≡ true → plan_of p ≡ plan
      → ((recover_of fresh (take c log₂) p).answer ≡ answer_of Refusals.no_refusal 0)
      × (load (recover_of fresh (take c log₂) p).state
      ≡ with_mark (load (recover_of fresh (take c log₂) p).state).size (replay_from (load state) (keep (λ (e : Entry). leb e.end c) fs)))
  unfolding recover_of recover_refusal left_unless settle_recovered with_mark founded
  recovered-later es fs state log state₂ log₂ H K c low high fresh p l ok same =
      let t : Entry → Bool = λ (e : Entry). leb e.end c in
      let rp = replay_from (founded plan n) (keep t (es ++ fs)) in
      let f = decided-from start es H.decided in
      let size : (load state).size ≡ last_end head_size es = holds-size start es state log H ∙ replay-end start es in
      let size₂ : (load state₂).size ≡ last_end head_size (es ++ fs) = holds-size start (es ++ fs) state₂ log₂ K ∙ replay-end start (es ++ fs) in
      let kept : take c log₂ ≡ take c (head_bytes n ++ entries_bytes (es ++ fs))
      = sym (take-take c (last_end head_size (es ++ fs)) log₂ (omega (arith, size₂, high))) ∙ ap (λ (x : List ℕ). take c x) K.logged in
      let r : recovered_state (plan_of p) (take c log₂) ≡ some rp
      = ap (λ (y : List PlanEntry). recovered_state y (take c log₂)) same ∙ ap (recovered_state plan) kept
      ∙ crash-state plan n start h (es ++ fs) c K.decided (omega (arith, from_low head_size es f, size, low)) in
      let S = (recovers start (keep t (es ++ fs)) (decided-cut start c (es ++ fs) K.decided)).sound in
      let M = sound-mark rp rp.size S S.mark (omega arith) in
      let e : recover_of fresh (take c log₂) p ≡ after (answer_of Refusals.no_refusal 0) (stored fresh (with_mark rp.size rp)) (take c log₂) []
      = rw (le-ltb (length fresh) state_size l, ok, r) in
      let ld : load (recover_of fresh (take c log₂) p).state ≡ with_mark rp.size rp
      = ap (λ (y : After). load y.state) e ∙ stored-load fresh (with_mark rp.size rp) M (omega arith) in
      let k : keep t (es ++ fs) ≡ es ++ keep t fs
      = keep_append t es fs ∙ ap (λ (y : List Entry). y ++ keep t fs) (from-kept c head_size es f (omega (arith, size, low))) in
      let w : replay_from (load state) (keep t fs) ≡ with_mark (load state).mark rp
      = ap (λ (y : State). replay_from y (keep t fs)) H.same ∙ replay-mark (load state).mark (replay_from (founded plan n) es) (keep t fs)
      ∙ ap (with_mark (load state).mark) (sym (ap (replay_from (founded plan n)) k ∙ replay_on (founded plan n) es (keep t fs))) in
      (ap (λ (y : After). y.answer) e, ld ∙ ap (λ (y : ℕ). with_mark y rp) (sym (ap (λ (y : State). y.size) ld)) ∙ ap (with_mark (load (recover_of fresh (take c log₂) p).state).size) (sym w))

-- ---- a server that forgets its checkpoint

front : (s b : List ℕ) → length b ≤ length s → take (length b) (written s 0 b) ≡ b
front s b l = rw (written-front s b l) (take-append_seam b (drop (length b) s))

module _ (st : State) (S : Sound st) where
  -- a checkpoint and the tail's head give what the checkpoint keeps
  resumes : recovered_tail (checkpoint_bytes true st) (head_bytes st.server) ≡ some (rebased st)
  unfolding recovered_tail head_bytes head_server rebased placed entries_bytes replay_from timed_by
  resumes =
      let n = st.server in
      let back : checkpoint_state (checkpoint_bytes true st) ≡ some (rebased st) = rw append-nil at (checkpoint-back true st S (times-fit today st S) []) in
      let start : Start (rebased st) = record { sound = rebased_sound64 st S; empty = checkpoint-size (checkpoint_bytes true st) (rebased st) back } in
      rw (back, eqb_same n) (recovered_on_lem (head_bytes n) (rebased st) (head-back n [] S.server) ∙ log-recovers start n [] [] History.none tt)

-- a checkpoint of whatever synced state, and recovery from its bytes and the tail's head
module _ {state log out : List ℕ} (R : Ready state log out) (all : (load state).mark ≡ (load state).size) (checkpoint tail fresh : List ℕ) (l : checkpoint_size ≤ length checkpoint)
    (h : head_size ≤ length tail) (f : state_size ≤ length fresh) where
  abbrev was : State
  was = load state

  abbrev made : AfterCheckpoint
  made =
      record {
        answer = answer_of Refusals.no_refusal (length (checkpoint_bytes true was));
        state = stored state (rebased was);
        log = log;
        checkpoint = written checkpoint 0 (checkpoint_bytes true was);
        tail = written tail 0 (head_bytes was.server);
      }

  checkpoint-is : checkpoint_of today state log checkpoint tail ≡ made
  unfolding checkpoint_of checkpoint_refusal short unfit timed_by
  checkpoint-is =
      rw (
        le-ltb (length state) state_size R.long,
        le-ltb (length checkpoint) checkpoint_size l,
        le-ltb (length tail) head_size h,
        R.safe,
        le-ltb (length log) was.size R.recorded,
        le-ltb was.mark was.size (omega (arith, all)),
      )

  abbrev again : After
  again = recover_tail_of fresh (take made.answer.wrote made.checkpoint) (take head_size made.tail)

  recovery_is : again ≡ after (answer_of Refusals.no_refusal 0) (stored fresh (rebased was)) (head_bytes was.server) []
  unfolding head_bytes recover_tail_of recover_tail_refusal left_unless settle_recovered rebased placed with_mark
  recovery_is =
      let S = ready_sound R in
      let k : take (length (checkpoint_bytes true was)) (written checkpoint 0 (checkpoint_bytes true was)) ≡ checkpoint_bytes true was
      = front checkpoint (checkpoint_bytes true was) (omega (arith, checkpoint-fits true was S, l)) in
      let t : take head_size (written tail 0 (head_bytes was.server)) ≡ head_bytes was.server = front tail (head_bytes was.server) h in
      let m : with_mark (rebased was).size (rebased was) ≡ rebased was = ap (λ (y : ℕ). with_mark (end_before y) (rebased was)) (sym all) in
      rw (k, t, le-ltb (length fresh) state_size f, resumes was S, m)

  loads-left : load made.state ≡ rebased was
  loads-left = stored-load state (rebased was) (rebased_sound64 was (ready_sound R)) (omega (arith, R.long))

  loads-again : load again.state ≡ rebased was
  loads-again = ap (λ (y : After). load y.state) recovery_is ∙ stored-load fresh (rebased was) (rebased_sound64 was (ready_sound R)) (omega (arith, f))

  pub resumed : Resumed state (checkpoint_of today state log checkpoint tail)
      (recover_tail_of fresh (take (checkpoint_of today state log checkpoint tail).answer.wrote (checkpoint_of today state log checkpoint tail).checkpoint)
      (take head_size (checkpoint_of today state log checkpoint tail).tail))
  unfolding rebased placed
  resumed =
      rw checkpoint-is
      (record {
        made = refl;
        answer = ap (λ (y : After). y.answer) recovery_is;
        same = loads-again ∙ sym loads-left;
        holds = λ x c k e. ap (λ (y : State). find x c y.records) loads-again ∙ find-placed end_before x c was.records ∙ ap (map (placed_record end_before)) e;
        points = λ p. ap (λ (y : State). point_at y p) loads-again ∙ rebased-point was p;
      })

-- ---- "one that refuses all (2)"

-- any request of a lease that is not over from the start, on a point of that home: found, request, sync and the same request are
-- not refused, and the last one gives the result
pub not-refuses_all : (state log plan b out : List ℕ) (n : ℕ) (q : Request) → Bytes state → state_size ≤ length state → Bytes plan → plan_ok plan ≡ true → n ≤ last_server
    → head_size + executed_size ≤ length log → length log < word * word → result_size ≤ length out → Asks b q → FirstRequest (plan_of plan) n q
    → Begins (found_of state log plan n) b out q (executed_for today (founded (plan_of plan) n) q).result
unfolding found_of found_refusal left_unless settle denying founded point_at entry_at free_in floor_of executed_size_of
not-refuses_all state log plan b out n q sb sl pb ok hn gl gz o A F =
    let fd = founded (plan_of plan) n in
    let G = plan-good plan pb ok in
    let S = founded-sound (plan_of plan) n G hn in
    let log₁ = written log 0 (head_bytes n) in
    let k : length log₁ ≡ length log = length-written log 0 (head_bytes n) in
    let e : found_of state log plan n ≡ after (answer_of Refusals.no_refusal 0) (stored state fd) log₁ []
    = rw (le-ltb (length state) state_size sl, le-ltb (length log) head_size (omega (arith, gl)), ok, le-ltb last_server n hn) in
    let R : Ready (stored state fd) log₁ out = ready_stored state out sb sl o fd S log₁ (omega (arith, k, gl)) (omega (arith, k, gz)) in
    let ld : load (stored state fd) ≡ fd = stored-load state fd S (omega (arith, sl)) in
    let Q = parsed-request b q A.bytes A.parsed in
    let d : decide_request today (load (stored state fd)) (free_in (stored state fd) log₁) q ≡ append (executed (executed_for today fd q))
    = ap (λ (y : State). decide_request today y (length log₁ - y.size) q) ld
    ∙ founded-executes today (plan_of plan) n (length log₁ - head_size) q (omega (arith, request-point q Q.ok, G.length)) F (omega (arith, k, gl)) in
    let z : (request_of today (stored state fd) log₁ b out).answer ≡ answer_of Refusals.no_refusal 0
    = ap (λ (y : After). y.answer) (request-is R b q A.parsed ∙ ap (λ (y : Decided). settle (stored state fd) log₁ out (denying q y)) d) in
    rw e
    (record {
      found = refl;
      executed = z;
      served =
          subst (λ (y : State). Served b q (executed_for today y q).result out (request_of today (stored state fd) log₁ b out).state (request_of today (stored state fd) log₁ b out).log) ld
          (served-own R b q A z);
    })
