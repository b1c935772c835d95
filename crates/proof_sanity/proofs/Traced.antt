-- What the trace of a schedule says of it.
--     provisos_from            a schedule whose events pass their tests keeps the provisos
--     provisos_kept            so does one whose trace says so
--     done-world               an event run once
--     call-at                  what is seen of event n
--     end-at                   what is seen at the end
--     kept-after               crashes past an event keep enough
--     untouched                a server that no event names is not founded
--     up_of, down_of           a server that is seen running, or crashed
--     answer_of_lem, request-packet     an operation that was answered, and the packet of a request
--     executes-seen            a request seen to answer 0 and no packet executes its command
--     survives-seen            .. and survives where later crashes keep enough
--     completes_seen           a result that is seen received completes its command
--     executes-only            where all requests that were answered had one packet, nothing else is executed
-- Assumes nothing.
use Prim.Native.Nat.{ℕ, zero, suc, ◌≤◌, ◌<◌}
use mathlib.Core.Path.{◌≡◌, refl, sym, ap, ◌∙◌, subst}
use mathlib.Core.Bool.{Bool, true, false, ◌&&◌, ◌||◌, not}
use mathlib.Core.List.{List, [], ◌∷◌}
use mathlib.Core.Option.{Option, none, some}
use native.Mathlib.Omega.{arith}
use lib.ListN.{length, take, drop, get_elem?}
use lib.Dec.{eqb, leb, ltb}
use borrow.Author.Tests.{eqb-true, leb-true, ltb-true, eq-eqb, ne_eqb}
use Rattle.std.specs.Prelude.{Result, Ok, Err, Some}
use Rattle.model.specs.declared.Refusal.{Refusal}
use Rattle.model.specs.declared.Answer.{Answer}
use Rattle.model.specs.declared.Client.{Client}
use Rattle.model.specs.Tables.{every}
use Rattle.model.specs.Versions.{Versions}
use Rattle.model.specs.Sequential.{Marked, marked_by, one, result_meant}
use Rattle.model.specs.declared.Request.{Request}
use Rattle.model.specs.declared.ResultPacket.{ResultPacket}
use Rattle.model.specs.declared.Packet.TheVariants.{Requested}
use Rattle.model.specs.declared.Received.TheVariants.{Completed}
use Rattle.model.specs.Packets.{parse_packet, request_bytes, result_bytes}
use Rattle.claim.specs.Claim.{command_at, Executes, Crashes, SurvivesAt, Completes}
use Rattle.model.specs.Operations.{After, answer_of}
use Rattle.model.specs.Calls.{Operation, request, handed, operated}
use Rattle.model.specs.Checkpoints.{checkpoint_of}
use Rattle.model.specs.Clients.{start_of, receive_of}
use Rattle.model.specs.declared.LeaseAnswer.{LeaseAnswer}
use Rattle.model.specs.declared.Point.{Point}
use Rattle.model.specs.declared.SendAnswer.{SendAnswer}
use Rattle.model.specs.declared.StartAnswer.{StartAnswer}
use Rattle.model.specs.States.{load, point_at}
use Rattle.model.specs.Refusals.{no_refusal}
use Rattle.claim.specs.World.{with_server, with_client, with_manager, making, calls, calls_on, found_as, checkpoints, stores, crash_at, starts_as, starts_on, sends, receives, told, step, packet}
use Rattle.claim.specs.World.{Event, found, call, inquire, recover, checkpoint, store, recover·tail, crash, outside}
use Rattle.claim.specs.World.{OutsideCall, start, issue, resend, receive, open·lease, renew, query, outside_step, WorldOf}
use Rattle.claim.specs.World.{Lent, World, Stored, Server, nothing, running, storing, crashed, stored_of, lent_state, lent_log, packet, step, empty_world, run_from, run, after}
use Rattle.claim.specs.Provisos.{Bytes, Counted, OutsideTyped, Typed, StartedOnce, kept_by, Begins, mark_of, length_of, reach_of, At, Provisos}
use Rattle.model_invariants.proofs.Calls.{handed-over}
use Rattle.model_laws.proofs.Tests.{choose, and_left, and_right}
use Rattle.model_laws.proofs.Numbers.{bytes-nil, bytes-cons}
use Rattle.proof_sanity.specs.Trace.{requests_only, asks_only, bytes_ok, counted_ok, typed_ok, same_bytes, is_nothing, kept_is, begins_ok, not_started, starts_new, keeps_ok, Call, Seen, operation_answer, call_seen, seen_at, end_seen, Trace, trace_from, keeps_many, below, Answered, up, down, stands_at, operation_done, done, call_with, seen_with}

impossible : {A B : Type 0} {a : B} → none ≡ some a → A
impossible e = let z : ◌≡◌ {A = ℕ} 0 1 = cc in absurd (omega arith)

untrue : {A : Type 0} → false ≡ true → A
untrue e = let z : ◌≡◌ {A = ℕ} 0 1 = cc in absurd (omega arith)

-- ---- what the interface's types say

bytes_ok_lem : (s : List ℕ) → bytes_ok s ≡ true → Bytes s
unfolding Bytes bytes_ok every
bytes_ok_lem [] e = bytes-nil
bytes_ok_lem (b ∷ s) e =
    bytes-cons b s (ltb-true _ _ (and_left (ltb b 256) (every (λ x. ltb x 256) s) e)) (bytes_ok_lem s (and_right (ltb b 256) (every (λ x. ltb x 256) s) e))

-- two and three tests
both : {A B : Type 0} (s t : Bool) → (s ≡ true → A) → (t ≡ true → B) → (s && t) ≡ true → A × B
both s t f g e = (f (and_left s t e), g (and_right s t e))

three : {A B C : Type 0} (s t u : Bool) → (s ≡ true → A) → (t ≡ true → B) → (u ≡ true → C) → (s && (t && u)) ≡ true → A × B × C
three s t u f g h e = let r = and_right s (t && u) e in (f (and_left s (t && u) e), g (and_left t u r), h (and_right t u r))

counted-ok : (l : Lent) → counted_ok l ≡ true → Counted l
unfolding counted_ok
counted-ok l e = ltb-true _ _ e

typed-ok : (e : Event) → typed_ok e ≡ true → Typed e
unfolding typed_ok Typed OutsideTyped
typed-ok (found c state log plan n) h = both (bytes_ok state) (bytes_ok plan) (bytes_ok_lem state) (bytes_ok_lem plan) h
typed-ok (call c o l) h = counted-ok l h
typed-ok (inquire c i l) h = counted-ok l h
typed-ok (recover c state log plan) h = bytes_ok_lem state h
typed-ok (checkpoint c v tail l) h = counted-ok l h
typed-ok (store c) h = tt
typed-ok (recover·tail c state k tail) h = bytes_ok_lem state h
typed-ok (crash c k) h = tt
typed-ok (outside (start p)) h = tt
typed-ok (outside (issue x op p a)) h = tt
typed-ok (outside (resend x c)) h = tt
typed-ok (outside (receive x p)) h = tt
typed-ok (outside (open·lease t span)) h = ltb-true _ _ h
typed-ok (outside (renew x t span)) h = ltb-true _ _ h
typed-ok (outside (query x t)) h = ltb-true _ _ h

-- ---- the other provisos

same_bytes_lem : (s t : List ℕ) → same_bytes s t ≡ true → s ≡ t
unfolding same_bytes
same_bytes_lem [] [] e = refl
same_bytes_lem [] (b ∷ t) e = untrue e
same_bytes_lem (a ∷ s) [] e = untrue e
same_bytes_lem (a ∷ s) (b ∷ t) e =
    let x : a ≡ b = eqb-true a b (and_left (eqb a b) (same_bytes s t) e) in
    let y : s ≡ t = same_bytes_lem s t (and_right (eqb a b) (same_bytes s t) e) in
    rw (x, y)

is-nothing : (s : Server) → is_nothing s ≡ true → s ≡ nothing
unfolding is_nothing
is-nothing nothing e = refl
is-nothing (running k state log) e = untrue e
is-nothing (storing k log next state tail) e = untrue e
is-nothing (crashed k kept mark) e = untrue e

kept-is : (log : List ℕ) (o : Option (List ℕ)) → kept_is log o ≡ true → o ≡ some log
unfolding kept_is
kept-is log none e = untrue e
kept-is log (some s) e = ap some (same_bytes_lem s log e)

begins-ok : (k s : List ℕ) → begins_ok k s ≡ true → Begins k s
unfolding begins_ok
begins-ok k s e =
    let t = both (leb 1 (length k)) (same_bytes (take (length k) s) k) (leb-true _ _) (same_bytes_lem _ _) e in
    record { some·bytes = t.0; front = t.1 }

is_none : (o : Option Client) → not_started o ≡ true → o ≡ none
unfolding not_started
is_none none e = refl
is_none (some d) e = untrue e

starts_new_lem : (w : World) (o : Option (List ℕ)) (b : List ℕ) → starts_new w o ≡ true → o ≡ some b → w.clients (start_of b).client.client ≡ none
unfolding starts_new
starts_new_lem w none b e q = impossible q
starts_new_lem w (some c) b e q =
    let z : c ≡ b = cc in is_none (w.clients (start_of b).client.client) (subst (λ (x : List ℕ). not_started (w.clients (start_of x).client.client) ≡ true) z e)

-- ---- by number

every_row_lem : (t : Seen → Bool) (rs : List Seen) → every t rs ≡ true → (n : ℕ) (r : Seen) → get_elem? rs n ≡ some r → t r ≡ true
unfolding every
every_row_lem t [] h n r e = impossible e
every_row_lem t (x ∷ rs) h zero r e = let z : x ≡ r = cc in ap t (sym z) ∙ and_left (t x) (every t rs) h
every_row_lem t (x ∷ rs) h (suc n) r e = every_row_lem t rs (and_right (t x) (every t rs) h) n r e

every-past : (t : Seen → Bool) (n : ℕ) (rs : List Seen) → every t (drop (suc n) rs) ≡ true → (m : ℕ) (r : Seen) → n < m → get_elem? rs m ≡ some r → t r ≡ true
every-past t n [] h m r l e = impossible e
every-past t n (x ∷ rs) h zero r l e = absurd (omega arith)
every-past t zero (x ∷ rs) h (suc m) r l e = every_row_lem t rs h m r e
every-past t (suc n) (x ∷ rs) h (suc m) r l e = every-past t n rs h m r (omega arith) e

-- an operation is computed once for both
pub done-answer : (c : ℕ) (l : Lent) (s : Server) (o : Option Operation) (w : World) → (operation_done c l s o w).answer ≡ operation_answer l s o
unfolding operation_done operation_answer
done-answer c l nothing o w = refl
done-answer c l (running k state log) none w = refl
done-answer c l (running k state log) (some o) w = refl
done-answer c l (storing k log next state tail) o w = refl
done-answer c l (crashed k kept mark) o w = refl

operation-world : (c : ℕ) (l : Lent) (s : Server) (o : Option Operation) (w : World) → w.servers c ≡ s → (operation_done c l s o w).world ≡ calls_on c l o w
unfolding operation_done calls_on calls
operation-world c l nothing none w e = refl
operation-world c l nothing (some o) w e = rw e
operation-world c l (running k state log) none w e = refl
operation-world c l (running k state log) (some o) w e = rw e
operation-world c l (storing k log next state tail) none w e = refl
operation-world c l (storing k log next state tail) (some o) w e = rw e
operation-world c l (crashed k kept mark) none w e = refl
operation-world c l (crashed k kept mark) (some o) w e = rw e

pub done-world : (w : World) (e : Event) → (done w e).world ≡ step w e
unfolding done step
done-world w (found c state log p n) = refl
done-world w (call c o l) = operation-world c l (w.servers c) (handed (packet w) o) w refl
done-world w (inquire c i l) = refl
done-world w (recover c state log p) = refl
done-world w (checkpoint c v tail l) = refl
done-world w (store c) = refl
done-world w (recover·tail c state k tail) = refl
done-world w (crash c k) = refl
done-world w (outside e) = refl

-- ---- the provisos

-- of a schedule whose every event passes its tests
module _ (plan : List ℕ) (es : List Event) (passed : (n : ℕ) (x : Event) → get_elem? es n ≡ some x → (typed_ok x && keeps_ok plan (after es n) x) ≡ true) where
  keeps-at : (n : ℕ) (x : Event) → get_elem? es n ≡ some x → keeps_ok plan (after es n) x ≡ true
  keeps-at n x q = and_right (typed_ok x) (keeps_ok plan (after es n) x) (passed n x q)

  found_at : (n c : ℕ) (state log q : List ℕ) (k : ℕ) → get_elem? es n ≡ some (found c state log q k) → (q ≡ plan) × (k ≡ c) × ((after es n).servers c ≡ nothing)
  unfolding keeps_ok
  found_at n c state log q k a =
      three (same_bytes q plan) (eqb k c) (is_nothing ((after es n).servers c)) (same_bytes_lem q plan) (eqb-true k c) (is-nothing ((after es n).servers c)) (keeps-at n _ a)

  recover-at : (n c : ℕ) (state log q : List ℕ) → get_elem? es n ≡ some (recover c state log q)
      → (q ≡ plan) × (kept_by ((after es n).servers c) ≡ some log) × ((stored_of ((after es n).servers c)).checkpoint ≡ [])
  unfolding keeps_ok
  recover-at n c state log q a =
      let s = (after es n).servers c in
      three (same_bytes q plan) (kept_is log (kept_by s)) (same_bytes (stored_of s).checkpoint []) (same_bytes_lem q plan) (kept-is log (kept_by s)) (same_bytes_lem _ []) (keeps-at n _ a)

  tail_at : (n c : ℕ) (state k tail : List ℕ) → get_elem? es n ≡ some (recover·tail c state k tail)
      → (kept_by ((after es n).servers c) ≡ some tail) × Begins (stored_of ((after es n).servers c)).checkpoint k
  unfolding keeps_ok
  tail_at n c state k tail a =
      let s = (after es n).servers c in
      both (kept_is tail (kept_by s)) (begins_ok (stored_of s).checkpoint k) (kept-is tail (kept_by s)) (begins-ok _ k) (keeps-at n _ a)

  crash-at : (n c k : ℕ) → get_elem? es n ≡ some (crash c k) → (mark_of ((after es n).servers c) ≤ k) × (k ≤ length_of ((after es n).servers c))
  unfolding keeps_ok
  crash-at n c k a =
      both (leb (mark_of ((after es n).servers c)) k) (leb k (length_of ((after es n).servers c))) (leb-true _ _) (leb-true _ _) (keeps-at n (crash c k) a)

  start-at : (n k : ℕ) → get_elem? es n ≡ some (outside (start k)) → StartedOnce (after es n) k
  unfolding keeps_ok
  start-at n k a b q z = starts_new_lem (after es n) (packet (after es n) k) b (keeps-at n (outside (start k)) a) q

  pub provisos_from : Provisos plan es
  unfolding At
  provisos_from =
      record {
        typed = λ n x q. typed-ok x (and_left (typed_ok x) (keeps_ok plan (after es n) x) (passed n x q));
        one-plan = λ n c state log q k a z. (found_at n c state log q k a).0;
        plan-again = λ n c state log q a z. (recover-at n c state log q a).0;
        own-number = λ n c state log q k a z. (found_at n c state log q k a).1;
        founded-once = λ n c state log q k a z. (found_at n c state log q k a).2;
        crash-keeps = λ n c k a. crash-at n c k a;
        recovery_uses = λ n c state log q a z. ((recover-at n c state log q a).1, (recover-at n c state log q a).2);
        recovery_uses-both = λ n c state k tail a z. tail_at n c state k tail a;
        started-once = start-at;
      }

module _ (plan : List ℕ) (p : ℕ) where
  row_from : (w : World) (es : List Event) (n : ℕ) (e : Event) → get_elem? es n ≡ some e
      → get_elem? (trace_from plan p w es).rows n ≡ some (seen_at plan (run_from w (take n es)) e)
  unfolding trace_from run_from seen_at
  row_from w [] n e q = impossible q
  row_from w (x ∷ es) zero e q = let z : x ≡ e = cc in ap (λ (y : Event). some (seen_at plan w y)) z
  row_from w (x ∷ es) (suc n) e q = rw (done-world w x) (row_from (step w x) es n e q)

  end-from : (w : World) (es : List Event) → (trace_from plan p w es).end ≡ end_seen p (run_from w es)
  unfolding trace_from run_from
  end-from w [] = refl
  end-from w (x ∷ es) = subst (λ (v : World). (trace_from plan p v es).end ≡ end_seen p (run_from (step w x) es)) (sym (done-world w x)) (end-from (step w x) es)

  module _ (es : List Event) (t : Trace) (e : trace_from plan p empty_world es ≡ t) where
    row_at : (n : ℕ) (x : Event) → get_elem? es n ≡ some x → get_elem? t.rows n ≡ some (seen_at plan (after es n) x)
    unfolding after run
    row_at n x q = ap (λ (y : Trace). get_elem? y.rows n) (sym e) ∙ row_from empty_world es n x q

    pub call-at : (n : ℕ) (x : Event) (r : Seen) → get_elem? es n ≡ some x → get_elem? t.rows n ≡ some r → call_seen (after es n) x ≡ r.call
    unfolding seen_at seen_with call_seen
    call-at n x r q k = let z : seen_at plan (after es n) x ≡ r = some_same (sym (row_at n x q) ∙ k) in ap (λ (y : Seen). y.call) z
      where
        some_same : {a b : Seen} → some a ≡ some b → a ≡ b
        some_same h = cc

    pub end-at : end_seen p (run es) ≡ t.end
    unfolding run
    end-at = sym (end-from empty_world es) ∙ ap (λ (y : Trace). y.end) e

    pub provisos_kept : every (λ r. r.ok) t.rows ≡ true → Provisos plan es
    unfolding seen_at seen_with
    provisos_kept h = provisos_from plan es (λ n x q. every_row_lem (λ r. r.ok) t.rows h n (seen_at plan (after es n) x) (row_at n x q))

    -- ---- crashes

    pub kept-after : (c k n : ℕ) → every (keeps_many c k) (drop (suc n) t.rows) ≡ true → (m b : ℕ) → n < m → Crashes es m c b → k ≤ b
    unfolding At seen_at seen_with call_with keeps_many
    kept-after c k n h m b l C =
        let r = every-past (keeps_many c k) n t.rows h m (seen_at plan (after es m) (crash c C.kept)) l (row_at m (crash c C.kept) C.event) in
        rw C.reaches (own _ r)
      where
        own : (x : ℕ) → (not (eqb c c) || leb k x) ≡ true → k ≤ x
        own x r = leb-true k x (simp (eq-eqb c c refl) at r)

-- ---- servers that no event names

making-servers : {S : Type 0} (b : List ℕ) (w : WorldOf S) (d : ℕ) → (making b w).servers d ≡ w.servers d
unfolding making
making-servers [] w d = refl
making-servers (x ∷ b) w d = refl

-- a call of a client or of the lease manager names none
module _ {S : Type 0} (w : WorldOf S) (d : ℕ) where
  as_servers : (a : StartAnswer) → (starts_as a w).servers d ≡ w.servers d
  unfolding starts_as with_client
  as_servers a = kinds a.answer refl
    where
      kinds : (k : Result Unit Refusal) → a.answer ≡ k → (starts_as a w).servers d ≡ w.servers d
      kinds (Err n) e = rw e
      kinds (Ok tt) e = rw e

  starts-servers : (o : Option (List ℕ)) → (starts_on o w).servers d ≡ w.servers d
  unfolding starts_on
  starts-servers none = refl
  starts-servers (some b) = as_servers (start_of b)

  sends-servers : (x : ℕ) (f : Client → SendAnswer) (o : Option Client) → (sends x f o w).servers d ≡ w.servers d
  unfolding sends with_client
  sends-servers x f none = refl
  sends-servers x f (some k) = making-servers _ _ d

  receives-servers : (x : ℕ) (o : Option Client) (p : Option (List ℕ)) → (receives x o p w).servers d ≡ w.servers d
  unfolding receives with_client
  receives-servers x none p = refl
  receives-servers x (some k) none = refl
  receives-servers x (some k) (some b) = refl

  told-servers : (a : LeaseAnswer) → (told a w).servers d ≡ w.servers d
  unfolding told with_manager
  told-servers a = making-servers _ _ d

  outside-servers : (e : OutsideCall) → (outside_step w e).servers d ≡ w.servers d
  unfolding outside_step
  outside-servers (start p) = starts-servers (packet w p)
  outside-servers (issue x op p a) = sends-servers x _ (w.clients x)
  outside-servers (resend x c) = sends-servers x _ (w.clients x)
  outside-servers (receive x p) = receives-servers x (w.clients x) (packet w p)
  outside-servers (open·lease t span) = told-servers _
  outside-servers (renew x t span) = told-servers _
  outside-servers (query x t) = told-servers _

with_other : (c d : ℕ) (s : Server) (w : World) → eqb d c ≡ false → (with_server c s w).servers d ≡ w.servers d
unfolding with_server
with_other c d s w h = rw h

module _ (d : ℕ) where
  calls-other : (c : ℕ) (l : Lent) (f : List ℕ → List ℕ → After) (s : Server) (w : World) → eqb d c ≡ false → (calls c l f s w).servers d ≡ w.servers d
  unfolding calls
  calls-other c l f nothing w h = refl
  calls-other c l f (running k state log) w h = making-servers _ _ d ∙ with_other c d _ w h
  calls-other c l f (storing k log next state tail) w h = refl
  calls-other c l f (crashed k kept mark) w h = refl

  on_other : (c : ℕ) (l : Lent) (o : Option Operation) (w : World) → eqb d c ≡ false → (calls_on c l o w).servers d ≡ w.servers d
  unfolding calls_on
  on_other c l none w h = refl
  on_other c l (some o) w h = calls-other c l _ (w.servers c) w h

  found-other : (c : ℕ) (k : Stored) (a : After) (w : World) → eqb d c ≡ false → (found_as c k a w).servers d ≡ w.servers d
  unfolding found_as
  found-other c k a w h = choose (λ (x : World). x.servers d ≡ w.servers d) (eqb a.answer.refusal no_refusal) (λ z. with_other c d _ w h) (λ z. refl)

  crash-other : (c n : ℕ) (s : Server) (w : World) → eqb d c ≡ false → (crash_at c n s w).servers d ≡ w.servers d
  unfolding crash_at
  crash-other c n nothing w h = refl
  crash-other c n (running k state log) w h = with_other c d _ w h
  crash-other c n (storing k log next state tail) w h = with_other c d _ w h
  crash-other c n (crashed k kept mark) w h = with_other c d _ w h

  checkpoint-other : (c : ℕ) (v : Versions) (t : List ℕ) (l : Lent) (s : Server) (w : World) → eqb d c ≡ false → (checkpoints c v t l s w).servers d ≡ w.servers d
  unfolding checkpoints
  checkpoint-other c v t l nothing w h = refl
  checkpoint-other c v t l (running k state log) w h =
      choose (λ (x : World). x.servers d ≡ w.servers d) (eqb (checkpoint_of v (lent_state l state) (lent_log l log) l.out t).answer.refusal no_refusal) (λ z. with_other c d _ w h) (λ z. refl)
  checkpoint-other c v t l (storing k log next state tail) w h = refl
  checkpoint-other c v t l (crashed k kept mark) w h = refl

  store_other : (c : ℕ) (s : Server) (w : World) → eqb d c ≡ false → (stores c s w).servers d ≡ w.servers d
  unfolding stores
  store_other c nothing w h = refl
  store_other c (running k state log) w h = refl
  store_other c (storing k log next state tail) w h = with_other c d _ w h
  store_other c (crashed k kept mark) w h = refl

  module _ (k : ℕ) (l : k ≤ d) where
    other : (c : ℕ) → ltb c k ≡ true → eqb d c ≡ false
    other c h = let i = ltb-true c k h in ne_eqb d c (λ z. omega (arith, i, l, z))

    step_other : (w : World) (e : Event) → below k e ≡ true → (step w e).servers d ≡ w.servers d
    unfolding step below
    step_other w (found c state log p n) h = found-other c _ _ w (other c h)
    step_other w (call c o t) h = on_other c t (handed (packet w) o) w (other c h)
    step_other w (inquire c i t) h = calls-other c t _ (w.servers c) w (other c h)
    step_other w (recover c state log p) h = found-other c _ _ w (other c h)
    step_other w (checkpoint c v t l) h = checkpoint-other c v t l (w.servers c) w (other c h)
    step_other w (store c) h = store_other c (w.servers c) w (other c h)
    step_other w (recover·tail c state n t) h = found-other c _ _ w (other c h)
    step_other w (crash c b) h = crash-other c b (w.servers c) w (other c h)
    step_other w (outside e) h = outside-servers w d e

    from-other : (w : World) (es : List Event) → every (below k) es ≡ true → (run_from w es).servers d ≡ w.servers d
    unfolding run_from every
    from-other w [] h = refl
    from-other w (e ∷ es) h =
        from-other (step w e) es (and_right (below k e) (every (below k) es) h) ∙ step_other w e (and_left (below k e) (every (below k) es) h)

    pub untouched : (es : List Event) → every (below k) es ≡ true → (run es).servers d ≡ nothing
    unfolding run empty_world
    untouched es h = from-other empty_world es h

-- ---- at the end

pub up_of : (p : ℕ) (s : Server) (k : Stored) (x : Point) (h : ℕ) → stands_at p s ≡ up k x h
    → (state : List ℕ) × (log : List ℕ) × (s ≡ running k state log) × (point_at (load state) p ≡ x) × ((load state).heard ≡ h)
unfolding stands_at
up_of p nothing k x h e = let z : ◌≡◌ {A = ℕ} 0 1 = cc in absurd (omega arith)
up_of p (running j state log) k x h e = let z : j ≡ k = cc in (state, log, rw z refl, cc, cc)
up_of p (storing j log next state tail) k x h e = let z : ◌≡◌ {A = ℕ} 0 1 = cc in absurd (omega arith)
up_of p (crashed j kept mark) k x h e = let z : ◌≡◌ {A = ℕ} 0 1 = cc in absurd (omega arith)

pub down_of : (p : ℕ) (s : Server) (k : Stored) (kept : List ℕ) (mark : ℕ) → stands_at p s ≡ down k kept mark → s ≡ crashed k kept mark
unfolding stands_at
down_of p nothing k kept mark e = let z : ◌≡◌ {A = ℕ} 0 1 = cc in absurd (omega arith)
down_of p (running h state log) k kept mark e = let z : ◌≡◌ {A = ℕ} 0 1 = cc in absurd (omega arith)
down_of p (storing h log next state tail) k kept mark e = let z : ◌≡◌ {A = ℕ} 0 1 = cc in absurd (omega arith)
down_of p (crashed h b m) k kept mark e = cc

-- ---- operations

pub answer_of_lem : (l : Lent) (s : Server) (o : Option Operation) (a : Answer) → operation_answer l s o ≡ some a → Answered l s o a
unfolding operation_answer
answer_of_lem l nothing o a e = impossible e
answer_of_lem l (running k state log) none a e = impossible e
answer_of_lem l (running k state log) (some o) a e = record { stored = k; state = state; log = log; up = refl; operation = o; handed = refl; answer = cc }
answer_of_lem l (storing k log next state tail) o a e = impossible e
answer_of_lem l (crashed k kept mark) o a e = impossible e

-- the packet of a request that was handed over
pub request-packet : (f : ℕ → Option (List ℕ)) (v w : Versions) (p : ℕ) (b : List ℕ) → handed f (request v p) ≡ some (request w b) → (v ≡ w) × (f p ≡ some b)
request-packet f v w p b e =
    let h = (handed-over f (request v p) (request w b) e).requests w b refl in
    let i : v ≡ w = let z : request v p ≡ request w h.0 = h.1 in cc in
    let j : p ≡ h.0 = let z : request v p ≡ request w h.0 = h.1 in cc in
    (i, ap f j ∙ h.2)

module _ (plan : List ℕ) (es : List Event) where
  -- a request that is executed
  pub executes-seen : (n c p size : ℕ) (v : Versions) (l : Lent) (q : Request) → At es n (call c (request v p) l) → parse_packet (request_bytes q) ≡ Some (Requested q)
      → call_seen (after es n) (call c (request v p) l)
      ≡ record { client = none; packet = none; operation = some (request v (request_bytes q)); size = size; answer = some (answer_of no_refusal 0); cut = none }
      → Executes es n c (marked_by v q.command)
  unfolding call_seen call_with done operated
  executes-seen n c p size v l q e parsed s =
      let h : handed (packet (after es n)) (request v p) ≡ some (request v (request_bytes q)) = ap (λ (x : Call). x.operation) s in
      let A = answer_of_lem l ((after es n).servers c) (handed (packet (after es n)) (request v p)) (answer_of no_refusal 0)
      (sym (done-answer c l ((after es n).servers c) (handed (packet (after es n)) (request v p)) (after es n)) ∙ ap (λ (x : Call). x.answer) s) in
      let same : A.operation ≡ request v (request_bytes q) = some_same (sym A.handed ∙ h) in
      record {
        number = p;
        versions = v;
        lent = l;
        event = e;
        stored = A.stored;
        state = A.state;
        log = A.log;
        up = A.up;
        bytes = request_bytes q;
        delivered = (request-packet (packet (after es n)) v v p (request_bytes q) h).1;
        answer = subst (λ (x : Operation). (operated x (lent_state l A.state) (lent_log l A.log) l.out).answer ≡ answer_of no_refusal 0) same A.answer;
        asked = q;
        parsed = parsed;
        its = refl;
      }
    where
      some_same : {a b : Operation} → some a ≡ some b → a ≡ b
      some_same h = cc

  -- and that survives
  pub survives-seen : (p : ℕ) (t : Trace) → trace_from plan p empty_world es ≡ t → (n c m size reach : ℕ) (v : Versions) (l : Lent) (q : Request) → At es n (call c (request v m) l)
      → parse_packet (request_bytes q) ≡ Some (Requested q)
      → call_seen (after es n) (call c (request v m) l)
      ≡ record { client = none; packet = none; operation = some (request v (request_bytes q)); size = size; answer = some (answer_of no_refusal 0); cut = none }
      → reach_of ((after es (suc n)).servers c) ≡ reach → every (keeps_many c reach) (drop (suc n) t.rows) ≡ true → SurvivesAt es n (marked_by v q.command)
  survives-seen p t e n c m size reach v l q a parsed s r h =
      record {
        server = c;
        executes = executes-seen n c m size v l q a parsed s;
        kept = λ j b i x. rw r (kept-after plan p es t e c reach n h j b i x);
      }

  pub completes_seen : (n x p : ℕ) (d : Client) (r : ResultPacket) → At es n (outside (receive x p)) → (receive_of d (result_bytes r)).answer ≡ Ok (Completed r)
      → call_seen (after es n) (outside (receive x p)) ≡ record { client = some d; packet = some (result_bytes r); operation = none; size = 0; answer = none; cut = none }
      → Completes es n (command_at d r.call ∷ []) (one (result_meant r.result))
  unfolding call_seen call_with done
  completes_seen n x p d r a answer s =
      record {
        client = x;
        number = p;
        event = a;
        state = d;
        started = ap (λ (y : Call). y.client) s;
        bytes = result_bytes r;
        delivered = ap (λ (y : Call). y.packet) s;
        received = r;
        answer = answer;
        its = refl;
        result = refl;
      }

  -- where every request that was handed over had the packet b, nothing else is executed
  pub executes-only : (p : ℕ) (t : Trace) → trace_from plan p empty_world es ≡ t → (b : List ℕ) → every (asks_only b) t.rows ≡ true
      → (n c : ℕ) (k : Marked) (E : Executes es n c k) → E.bytes ≡ b
  unfolding At seen_at seen_with call_with done handed asks_only requests_only
  executes-only p t e b h n c k E =
      let y : Event = call c (request E.versions E.number) E.lent in
      let r = every_row_lem (asks_only b) t.rows h n (seen_at plan (after es n) y) (row_at plan p es t e n y E.event) in
      same_bytes_lem E.bytes b (rw E.delivered at r)
