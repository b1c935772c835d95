-- Requests and syncs on slices that are refused with neither 2 nor 19.
--     result-length, result-front, packet_read     a result packet: its 16 bytes, at the front of the output, read back
--     held-replies                  an id held with the same command, and synced, is answered
--     request-point                 a request's point is one of the 64
--     ready_stored                  slices with a sound state stored
--     ready_sound                   the state in the slices is sound
--     request-is                    a request carries out what is decided
--     sync_all, ready_synced, synced-loads     a sync to the log's length
--     request-held, request_replied     a request that answers with a packet
--     executed-decided, executed-passed, executed_admits, executed_terms, executed-result, executed-space, executed-sound, executed-loads,
--     executed_ready, executed-found, executed-point, executed_admitted     a request that answers 0 and makes no packet
-- Assumes nothing.
use Rattle.std.specs.Prelude.{Some}
use Prim.Native.Nat.{ℕ, ◌+◌, ◌*◌, ◌≤◌, ◌<◌}
use mathlib.Core.Path.{◌≡◌, refl, sym, ap, ◌∙◌, subst}
use mathlib.Core.Bool.{Bool, true, ◌&&◌}
use mathlib.Core.List.{List, [], ◌∷◌, ◌++◌}
use mathlib.Core.Option.{Option, none, some}
use native.Mathlib.Omega.{arith}
use lib.ListN.{length, take, drop}
use lib.Seq.{get_or-set_same, take-append_seam}
use lib.Dec.{leb, lit≤}
use borrow.Author.Tests.{eqb-true, leb-true, le-leb, le-ltb}
use Rattle.model.specs.Versions.{today}
use Rattle.model.specs.declared.Answer.{Answer}
use Rattle.model.specs.declared.Request.{Request}
use Rattle.model.specs.declared.Executed.{Executed}
use Rattle.model.specs.declared.Completion.{Completion}
use Rattle.model.specs.declared.Point.{Point}
use Rattle.model.specs.declared.Packet.TheVariants.{Requested, Resulted}
use Rattle.model.specs.Choice.{refuse, reply, append, marks, is_passed, unless_refused}
use Rattle.model.specs.Numbers.{word}
use Rattle.model.specs.Limits.{last_point, last_in_window, state_size, result_size, executed_size}
use Rattle.model.specs.Tables.{keep, written}
use Rattle.model.specs.Packets.{time_bytes, result_size_of, parse_packet, as_request, packet_bytes, result_bytes, refusal_bytes, result_ok, outcome_ok, id_ok, done_ok, command_ok, request_ok}
use Rattle.model.specs.Images.{floor_of}
use Rattle.model.specs.Logs.{LogRecord, executed, executed_size_of, record_size, record_bytes}
use Rattle.model.specs.States.{State, load, state_bytes, state_end, point_at, no_point}
use Rattle.model.specs.Apply.{raise, stays_over, completion, executed_point, apply_executed, apply_record, with_mark}
use Rattle.model.specs.Decisions.{Decided, timed_by, or_malformed, find, same_command, result_of_record, held_refusal, on_held, executed_for, new_refusal, on_new, on_id, decide_request, denying, on_request, sync_refusal, on_sync}
use Rattle.model.specs.Operations.{After, answer_of, after, short, unfit, free_in, stored, settle, lent_refusal, lent, request_of, sync_of}
use Rattle.model.specs.Refusals.{no_refusal}
use Rattle.model_laws.specs.Bytes.{Bytes}
use Rattle.model_laws.proofs.Tests.{choose, and_both, joined_all}
use Rattle.model_laws.proofs.Refused.{unless, unless_passed}
use Rattle.model_laws.proofs.Tables.{keep_yes, all_keep}
use Rattle.model_laws.proofs.Written.{length-written, bytes-written, written-front}
use Rattle.model_laws.proofs.Packets.{packet-back}
use Rattle.model_laws.proofs.States.{state-bytes}
use Rattle.model_invariants.specs.Sound.{Sound, GoodRequest, GoodCompletion}
use Rattle.model_invariants.specs.Passed.{Fresh, Admits, PassedRequest}
use Rattle.model_invariants.specs.History.{by_request}
use Rattle.model_invariants.proofs.Floors.{eqb_same, raise-same}
use Rattle.model_invariants.proofs.Tests.{split, id-is, id-not, command-fits, outcome_fits, sound-entry, fits_of}
use Rattle.model_invariants.proofs.Decided.{tests-held, held-tests, request_still, requested, request-passed, request_terms}
use Rattle.model_invariants.proofs.Steps.{sound-mark}
use Rattle.model_invariants.proofs.Kept.{decided-sound}
use Rattle.model_invariants.proofs.Formats.{parsed-request}
use Rattle.model_invariants.proofs.Loaded.{loaded_sound, stored-sound, stored-load}
use Rattle.proof_sanity.specs.Ready.{Ready, Asks}

-- ---- records found

-- the last of records of which no other has the id
find-last : (x c : ℕ) (rs : List Completion) (r : Completion) → Fresh x c rs → r.command.client ≡ x → r.command.call ≡ c → find x c (rs ++ (r ∷ [])) ≡ some r
unfolding find
find-last x c [] r f p q = rw (id-is x c r p q)
find-last x c (s ∷ rs) r f p q = rw (id-not x c s f.0) (find-last x c rs r f.1 p q)

-- ---- result packets

pub result-length : (r : Completion) → length (result_bytes (result_of_record true r)) ≡ result_size
unfolding result_bytes result_of_record time_bytes
result-length r = refl

-- it stands at the front of the output
pub result-front : (out : List ℕ) (r : Completion) → result_size ≤ length out → take result_size (written out 0 (result_bytes (result_of_record true r))) ≡ result_bytes (result_of_record true r)
result-front out r l =
    let b = result_bytes (result_of_record true r) in
    let n : length b ≡ result_size = result-length r in
    rw (written-front out b (omega (arith, n))) (ap (λ (k : ℕ). take k (b ++ drop (length b) out)) (sym n) ∙ take-append_seam b (drop (length b) out))

-- the packet of a held record is read back
pub packet_read : (st : State) → Sound st → (r : Completion) → GoodCompletion st.plan st.size r → parse_packet (result_bytes (result_of_record true r)) ≡ Some (Resulted (result_of_record true r))
unfolding result_of_record result_ok id_ok packet_bytes
packet_read st S r G =
    let p = result_of_record true r in
    let c = command-fits r.command.op r.command.point r.command.argument G.command in
    let o = outcome_fits r.result.outcome r.result.quality G.outcome in
    let v : r.result.value < word = omega (arith, G.value.high, (sound-entry st S r.command.point c.point).fits) in
    packet-back (Resulted p) ok
    (record { outcome = omega (arith, o.0); point = omega (arith, c.point); quality = omega (arith, o.1); client = G.client-fits; call = G.call_fits; value = v; time = G.time })
  where
    ok : result_ok (result_of_record true r) ≡ true
    ok =
        and_both (leb r.command.point last_point) _ (le-leb _ _ (command-fits r.command.op r.command.point r.command.argument G.command).point)
        (and_both (outcome_ok r.result.outcome r.result.quality) _ G.outcome (and_both (leb 1 r.command.client) _ (le-leb _ _ G.client) (le-leb _ _ G.call)))

-- ---- an id that is held

pub held-replies : (st : State) (free : ℕ) (q : Request) (r : Completion) → Admits st q → find q.command.client q.command.call st.records ≡ some r → same_command r q ≡ true
    → r.end ≤ st.mark → decide_request today st free q ≡ reply (result_bytes (result_of_record true r))
unfolding decide_request on_id on_held timed_by
held-replies st free q r a f same m =
    let x : Decided = reply (result_bytes (result_of_record true r)) in
    unless_passed _ _ a ∙ rw f (unless_passed _ x (tests-held st.mark q r same m))

-- the point of a request, and done ≤ call
pub request-point : (q : Request) → request_ok q ≡ true → q.command.point ≤ last_point
unfolding request_ok
request-point q h =
    let c = q.command in
    let k = split (command_ok c.op c.point c.argument) (id_ok c.client c.call && done_ok q.done c.call) h in
    (command-fits c.op c.point c.argument k.0).point

request-done : (q : Request) → request_ok q ≡ true → q.done ≤ q.command.call
unfolding request_ok done_ok
request-done q h =
    let c = q.command in
    let t = joined_all (command_ok c.op c.point c.argument ∷ id_ok c.client c.call ∷ leb 1 q.done ∷ leb q.done c.call ∷ leb c.call (q.done + last_in_window) ∷ []) h in
    leb-true _ _ t.1.1.1.0

-- what holds of a refusal and of what follows it holds where the refusal's test decides
sync-marks : (st : State) → Sound st → on_sync st st.size ≡ marks st.size
unfolding on_sync sync_refusal unless_refused
sync-marks st S = rw (le-ltb st.size st.mark S.mark, le-ltb st.size st.size (omega arith))

-- ---- a sound state stored

pub ready_stored : (state out : List ℕ) → Bytes state → state_size ≤ length state → result_size ≤ length out → (new : State) → Sound new → (log : List ℕ)
    → new.size ≤ length log → length log < word * word → Ready (stored state new) log out
unfolding stored
ready_stored state out h l o new S log f z =
    let m : state_end ≤ length state = omega (arith, l) in
    record {
      bytes = bytes-written state 0 (state_bytes new) h (state-bytes new (fits_of new S));
      long = rw (length-written state 0 (state_bytes new)) l;
      safe = stored-sound state new S m;
      recorded = subst (λ (x : State). x.size ≤ length log) (sym (stored-load state new S m)) f;
      counted = z;
      output = o;
    }

-- ---- calls

module _ {state log out : List ℕ} (R : Ready state log out) where
  abbrev st : State
  st = load state

  abbrev free : ℕ
  free = free_in state log

  pub ready_sound : Sound (load state)
  ready_sound = loaded_sound state R.bytes R.safe

  lent-decides : (o : List ℕ) (need : ℕ) → need ≤ length o → (d : Decided) → lent state log o need d ≡ d
  unfolding lent lent_refusal unless_refused short unfit
  lent-decides o need h d =
      rw (le-ltb (length state) state_size R.long, le-ltb (length o) need h, R.safe, le-ltb (length log) (load state).size R.recorded)

  pub request-is : (b : List ℕ) (q : Request) → parse_packet b ≡ Some (Requested q) → request_of today state log b out ≡ settle state log out (denying q (decide_request today st free q))
  unfolding request_of on_request or_malformed as_request result_size_of timed_by
  request-is b q e =
      ap (settle state log out) (lent-decides out result_size R.output (on_request today st free (parse_packet b)) ∙ ap (on_request today st free) e)

  sync-is : (m : ℕ) → sync_of state log m ≡ settle state log [] (on_sync st m)
  unfolding sync_of
  sync-is m = ap (settle state log []) (lent-decides [] 0 (lit≤ tt) (on_sync st m))

  loads : (new : State) → Sound new → load (stored state new) ≡ new
  loads new S = stored-load state new S (omega (arith, R.long))

  -- ---- sync to the log's length

  marked-sound : Sound (with_mark st.size st)
  marked-sound = let S = ready_sound in sound-mark st st.size S S.mark (omega arith)

  pub sync_all : sync_of state log st.size ≡ after (answer_of no_refusal 0) (stored state (with_mark st.size st)) log []
  unfolding settle
  sync_all = sync-is st.size ∙ ap (settle state log []) (sync-marks st ready_sound)

  pub ready_synced : Ready (stored state (with_mark st.size st)) log out
  unfolding with_mark
  ready_synced = ready_stored state out R.bytes R.long R.output (with_mark st.size st) marked-sound log R.recorded R.counted

  pub synced-loads : load (stored state (with_mark st.size st)) ≡ with_mark st.size st
  synced-loads = loads (with_mark st.size st) marked-sound

  -- ---- an answer with a packet

  pub request-held : (b : List ℕ) (q : Request) → parse_packet b ≡ Some (Requested q) → (r : Completion) → find q.command.client q.command.call st.records ≡ some r
      → same_command r q ≡ true → Admits st q → r.end ≤ st.mark
      → request_of today state log b out ≡ after (answer_of no_refusal result_size) state log (written out 0 (result_bytes (result_of_record true r)))
  unfolding settle denying
  request-held b q e r f same a m =
      request-is b q e
      ∙ ap (λ (d : Decided). settle state log out (denying q d)) (held-replies st free q r a f same m)
      ∙ ap (λ (n : ℕ). after (answer_of no_refusal n) state log (written out 0 (result_bytes (result_of_record true r)))) (result-length r)

  abbrev IsReply : Request → Decided → Type 0
  IsReply q d =
      (settle state log out (denying q d)).answer ≡ answer_of no_refusal result_size
      → (r : Completion) × (find q.command.client q.command.call st.records ≡ some r) × (same_command r q ≡ true) × (d ≡ reply (result_bytes (result_of_record true r)))

  other-size : (n k : ℕ) → k < result_size → answer_of n k ≡ answer_of no_refusal result_size → ⊥
  other-size n k h e = let z : k ≡ result_size = ap (λ (x : Answer). x.wrote) e in omega arith

  no_reply : (q : Request) (n : ℕ) → IsReply q (refuse n)
  unfolding settle denying refusal_bytes
  no_reply q n e = absurd (other-size n _ (lit≤ tt) e)

  reply-id : (q : Request) (o : Option Completion) → find q.command.client q.command.call st.records ≡ o → IsReply q (on_id today st free q o)
  unfolding on_id on_new on_held unless_refused settle denying timed_by
  reply-id q none f =
      unless (IsReply q) (new_refusal (floor_of q.command.client st.floors) (length st.floors) free (executed_size_of true)) {d = append (executed (executed_for today st q))} (no_reply q)
      (λ e. absurd (other-size 0 0 (lit≤ tt) e))
  reply-id q (some r) f =
      choose (IsReply q) (is_passed (held_refusal st.mark q r)) (λ z e. (r, f, (held-tests st.mark q r (eqb-true _ _ z)).0, refl)) (λ z. no_reply q _)

  is-reply : (q : Request) → IsReply q (decide_request today st free q)
  unfolding decide_request
  is-reply q = unless (IsReply q) _ (no_reply q) (reply-id q (find q.command.client q.command.call st.records) refl)

  -- the record whose packet it is, held with the same command
  pub request_replied : (b : List ℕ) (q : Request) → parse_packet b ≡ Some (Requested q) → (request_of today state log b out).answer ≡ answer_of no_refusal result_size
      → (r : Completion)
      × (find q.command.client q.command.call st.records ≡ some r)
      × (same_command r q ≡ true)
      × (request_of today state log b out ≡ after (answer_of no_refusal result_size) state log (written out 0 (result_bytes (result_of_record true r))))
  unfolding settle denying
  request_replied b q e z =
      let k = is-reply q (ap (λ (a : After). a.answer) (sym (request-is b q e)) ∙ z) in
      let r : Completion = k.0 in (
        r,
        k.1,
        k.2,
        request-is b q e
            ∙ ap (λ (d : Decided). settle state log out (denying q d)) k.3
            ∙ ap (λ (n : ℕ). after (answer_of no_refusal n) state log (written out 0 (result_bytes (result_of_record true r)))) (result-length r),
      )

  -- ---- an answer without number or packet

  abbrev IsAppended : Request → Decided → Type 0
  IsAppended q d = (settle state log out (denying q d)).answer ≡ answer_of no_refusal 0 → (r : LogRecord) × (d ≡ append r)

  not_made : (n k : ℕ) → 1 ≤ k → answer_of n k ≡ answer_of no_refusal 0 → ⊥
  not_made n k h e = let z : k ≡ 0 = ap (λ (x : Answer). x.wrote) e in omega arith

  denied : (q : Request) (n : ℕ) → IsAppended q (refuse n)
  unfolding settle denying refusal_bytes
  denied q n e = absurd (not_made n _ (lit≤ tt) e)

  by_id : (q : Request) (o : Option Completion) → IsAppended q (on_id today st free q o)
  unfolding on_id on_new on_held settle denying result_bytes result_of_record time_bytes timed_by
  by_id q none = unless (IsAppended q) _ (denied q) (λ e. (executed (executed_for today st q), refl))
  by_id q (some r) = unless (IsAppended q) _ (denied q) (λ e. absurd (not_made 0 _ (lit≤ tt) e))

  is_appended : (q : Request) → IsAppended q (decide_request today st free q)
  unfolding decide_request
  is_appended q = unless (IsAppended q) _ (denied q) (by_id q (find q.command.client q.command.call st.records))

  module _ (b : List ℕ) (q : Request) (A : Asks b q) (zero : (request_of today state log b out).answer ≡ answer_of no_refusal 0) where
    abbrev x : Executed
    x = executed_for today st q

    abbrev end : ℕ
    end = st.size + executed_size

    abbrev new : State
    new = apply_executed x end st

    pub executed-decided : decide_request today st free q ≡ append (executed x)
    executed-decided =
        let r = is_appended q (ap (λ (a : After). a.answer) (sym (request-is b q A.parsed)) ∙ zero) in
        r.1 ∙ ap append (request-passed today st free q r.0 r.1).1

    pub executed-passed : PassedRequest st q.command.client q.command.call q.command.point
    executed-passed = (request-passed today st free q (executed x) executed-decided).0

    pub executed_admits : Admits st q
    executed_admits = (requested today st free q (executed x) executed-decided).first

    pub executed_terms : (st.heard < q.lease) × (executed_size ≤ free)
    unfolding executed_size_of
    executed_terms = request_terms today st free q (executed x) executed-decided

    pub executed-result : request_of today state log b out ≡ after (answer_of no_refusal 0) (stored state new) (written log st.size (record_bytes (executed x))) out
    unfolding settle denying apply_record record_size executed_size_of executed_for
    executed-result = request-is b q A.parsed ∙ ap (λ (d : Decided). settle state log out (denying q d)) executed-decided

    good : GoodRequest q
    good = parsed-request b q A.bytes A.parsed

    pub executed-space : end ≤ length log
    unfolding free_in
    executed-space = omega (arith, executed_terms.1, R.recorded)

    pub executed-sound : Sound new
    unfolding apply_record record_size executed_size_of executed_for
    executed-sound =
        decided-sound st free (executed x) ready_sound (by_request today q good executed-decided) (omega (arith, executed-space, R.counted))

    pub executed-loads : load (stored state new) ≡ new
    executed-loads = loads new executed-sound

    pub executed_ready : Ready (stored state new) (written log st.size (record_bytes (executed x))) out
    unfolding apply_executed
    executed_ready =
        let n : length (written log st.size (record_bytes (executed x))) ≡ length log = length-written log st.size (record_bytes (executed x)) in
        ready_stored state out R.bytes R.long R.output new executed-sound (written log st.size (record_bytes (executed x))) (omega (arith, n, executed-space)) (omega (arith, n, R.counted))

    executed-floor : floor_of q.command.client (raise q.command.client q.done st.floors) ≤ q.command.call
    executed-floor =
        omega (arith, raise-same q.command.client q.done st.floors ready_sound.ascending, executed-passed.over, request-done q good.ok)

    -- its completion record is found
    pub executed-found : find q.command.client q.command.call new.records ≡ some (completion x end)
    unfolding apply_executed completion executed_for stays_over
    executed-found =
        let fs = raise q.command.client q.done st.floors in
        let t : Completion → Bool = stays_over q.command.client (floor_of q.command.client fs) in
        let c : Completion = completion x end in
        let k : t c ≡ true = rw (eqb_same q.command.client, le-leb (floor_of q.command.client fs) q.command.call executed-floor) in
        rw (keep_yes t st.records c k)
        (find-last q.command.client q.command.call (keep t st.records) c (all_keep _ t st.records executed-passed.fresh) refl refl)

    -- its point has what the rule gave
    pub executed-point : point_at new q.command.point ≡ executed_point x (point_at st q.command.point)
    unfolding apply_executed point_at executed_for
    executed-point =
        get_or-set_same st.points q.command.point _ no_point (omega (arith, request-point q good.ok, ready_sound.points))

    -- the same request passes its first tests again
    pub executed_admitted : Admits new q
    unfolding apply_executed executed_for executed_point
    executed_admitted =
        request_still (point_at st q.command.point) (point_at new q.command.point) (leb q.lease st.heard) (floor_of q.command.client st.floors) _ q.command.call
        (ap (λ (y : Point). y.status) executed-point) executed-floor executed_admits
