-- A lock's schedule whose events pass their tests keeps the lock's provisos, and what is looked for is there.
--     lock_provisos
--     begins-there, executes-there
--     no_crash_lem                    of a schedule without crashes
-- Assumes nothing.
use Prim.Native.Nat.{ℕ, zero, suc}
use mathlib.Core.Path.{◌≡◌, refl, sym, ◌∙◌, ap, subst}
use mathlib.Core.Bool.{Bool, true, false, ◌&&◌, ◌||◌, not}
use mathlib.Core.List.{List, [], ◌∷◌}
use mathlib.Core.Logic.{◌⊎◌, inl, inr}
use mathlib.Core.Option.{Option as Maybe, none, some}
use native.Mathlib.Omega.{arith}
use lib.IntN.{pos}
use lib.ListN.{take, get_elem?}
use lib.Dec.{eqb, leb}
use borrow.Author.Tests.{eqb-true, leb-true, eq-eqb}
use Rattle.std.specs.Prelude.{Result, Ok, Err, Option, Some, None}
use Rattle.model.specs.declared.Refusal.{Refusal}
use Rattle.model.specs.declared.Answer.{Answer}
use Rattle.model.specs.declared.Command.{Command}
use Rattle.model.specs.declared.Notice.{Notice}
use Rattle.model.specs.declared.Request.{Request}
use Rattle.model.specs.declared.Packet.{Packet}
use Rattle.model.specs.declared.Packet.TheVariants.{Requested, Resulted, Refused, Receipted, Noticed, Granted}
use Rattle.model.specs.Limits.{read_op}
use Rattle.model.specs.Tables.{every}
use Rattle.model.specs.Plan.{plan_of}
use Rattle.model.specs.Versions.{Versions}
use Rattle.model.specs.Sequential.{marked_by, opened}
use Rattle.model.specs.Packets.{parse_packet}
use Rattle.model.specs.States.{State, point_at, is_held}
use Rattle.model.specs.Refusals.{no_refusal}
use Rattle.model.specs.Operations.{answer_of}
use Rattle.model.specs.Calls.{Operation, request, fetch, sync, notice, give, image, take_in, receipt, release, handed, operated}
use Rattle.claim.specs.World.{World, Event, call, crash, outside, OutsideCall, issue, receive, Lent, lent_state, lent_log, packet, after}
use Rattle.claim.specs.Provisos.{At}
use Rattle.claim.specs.Claim.{Issues, Executes, state_given}
use Rattle.claim.specs.Fence.{FencedIn, synced_state}
use Rattle.claim.specs.Above.{Site, event_at, step_site, empty_site, run_site, site_after}
use Rattle.claim.proofs.Above.{site_world, event-there, event-from}
use Rattle.claim.proofs.Clients.{at_once, issue-is}
use Rattle.model_laws.proofs.Tests.{and_left, and_right}
use Rattle.proof_sanity.specs.Trace.{typed_ok, keeps_ok, operation_done, done}
use Rattle.proof_sanity.proofs.Traced.{provisos_from, done-world, done-answer, answer_of_lem, request-packet}
use Rattle.chamber_claim.specs.declared.LockPoints.{LockPoints}
use Rattle.chamber_claim.specs.declared.Chamber.{Chamber}
use Rattle.chamber_claim.specs.Chamber.{start_in}
use Rattle.chamber_claim.specs.Lock.{LockEvent, kernel, begin, command, again, hear, lock_event, lock_after, lock_product}
use Rattle.chamber_claim.specs.Safe.{events, AtLock, Begins, IsGate, LockProvisos, FencedAtStart}
use Rattle.chamber_claim.proofs.Successors.{fenced_at-start}
use Rattle.chamber_safety.specs.Kept.{is_none, gate_ok, aside_ok, held_in, notice_is, heard_in, successor_ok, lock_ok, Look, starting, executing}
use Rattle.chamber_safety.specs.Kept.{started_as, starts_in, done_silently, same_command, asks_for, requests, executes_in, begins_in, looked, event_ok, passes, no_crash, uncut}

untrue : {A : Type 0} → false ≡ true → A
untrue e = let z : ◌≡◌ {A = ℕ} 0 1 = cc in absurd (omega arith)

impossible : {A B : Type 0} {a : B} → none ≡ some a → A
impossible e = let z : ◌≡◌ {A = ℕ} 0 1 = cc in absurd (omega arith)

-- ---- single tests

none_of : (o : Maybe Chamber) (ch : Chamber) → is_none o ≡ true → o ≡ some ch → ⊥
unfolding is_none
none_of none ch e q = impossible q
none_of (some x) ch e q = untrue e

-- what is issued on a gate is a read
reads_gate : (s : LockPoints) (op p : ℕ) → gate_ok s op p ≡ true → (p ≡ s.upper) ⊎ (p ≡ s.lower) → op ≡ read_op
unfolding gate_ok
reads_gate s op p e g = eqb-true op read_op (go (eqb p s.upper) (eqb p s.lower) (eqb op read_op) refl refl e)
  where
    go : (u v w : Bool) → eqb p s.upper ≡ u → eqb p s.lower ≡ v → ((not u && not v) || w) ≡ true → w ≡ true
    go u v true a b h = refl
    go true v false a b h = h
    go false true false a b h = h
    go false false false a b h = elim g [ inl z ↦ untrue (sym a ∙ eq-eqb p s.upper z) | inr z ↦ untrue (sym b ∙ eq-eqb p s.lower z) ]

held_in_lem : (p : ℕ) (o : Maybe State) → held_in p o ≡ true → (st : State) × (o ≡ some st) × (is_held (point_at st p) ≡ true)
unfolding held_in
held_in_lem p none e = untrue e
held_in_lem p (some st) e = (st, refl, e)

notice-is : (x heard : ℕ) (k : Option Packet) → notice_is x heard k ≡ true → (n : Notice) × (k ≡ Some (Noticed n)) × (n.client ≡ x) × (leb n.time heard ≡ true)
unfolding notice_is
notice-is x heard None e = untrue e
notice-is x heard (Some (Requested q)) e = untrue e
notice-is x heard (Some (Resulted r)) e = untrue e
notice-is x heard (Some (Refused r)) e = untrue e
notice-is x heard (Some (Receipted r)) e = untrue e
notice-is x heard (Some (Noticed n)) e = (n, refl, eqb-true _ _ (and_left (eqb n.client x) _ e), and_right (eqb n.client x) _ e)
notice-is x heard (Some (Granted g)) e = untrue e

heard_in_lem : (x : ℕ) (o : Maybe State) (m : Maybe (List ℕ)) → heard_in x o m ≡ true
    → (st : State) × (b : List ℕ) × (o ≡ some st) × (m ≡ some b) × (notice_is x st.heard (parse_packet b) ≡ true)
unfolding heard_in
heard_in_lem x none m e = untrue e
heard_in_lem x (some st) none e = untrue e
heard_in_lem x (some st) (some b) e = (st, b, refl, refl, e)

successor-is : (plan : List ℕ) (s : LockPoints) (c k : ℕ) (w : World) (x p : ℕ) → successor_ok plan s c k w (some x) ≡ true
    → (p ≡ s.upper) ⊎ (p ≡ s.lower) → FencedIn (state_given plan) (synced_state plan) w x p
unfolding successor_ok
successor-is plan s c k w x p e g =
    let o = state_given plan (w.servers c) in
    let u : held_in s.upper o ≡ true = and_left (held_in s.upper o) _ e in
    let r = and_right (held_in s.upper o) _ e in
    let v : held_in s.lower o ≡ true = and_left (held_in s.lower o) _ r in
    let f : held_in p o ≡ true = elim g [ inl z ↦ subst (λ (q : ℕ). held_in q o ≡ true) (sym z) u | inr z ↦ subst (λ (q : ℕ). held_in q o ≡ true) (sym z) v ] in
    let h = held_in_lem p o f in
    let m = heard_in_lem x (synced_state plan (w.servers c)) (packet w k) (and_right (held_in s.lower o) _ r) in
    let n = notice-is x m.0.heard (parse_packet m.1) m.4 in
    record {
      server = c;
      state = h.0;
      counts = h.1;
      holds = h.2;
      kept = m.0;
      recovered = m.2;
      time = n.0.time;
      noticed = record { number = k; bytes = m.1; made = m.3; notice = n.0; parsed = n.1; client = n.2; at = refl };
      heard = leb-true _ _ n.3;
    }

-- ---- what is looked for

started_as_lem : (s : LockPoints) (x : ℕ) (o : Maybe (List ℕ)) → starts_in s x o ≡ true
    → (b : List ℕ) × (o ≡ some b) × ((start_in b s).answer ≡ Ok tt) × ((start_in b s).chamber.client.client ≡ x)
unfolding starts_in started_as
started_as_lem s x none e = untrue e
started_as_lem s x (some b) e = let z = go (start_in b s).answer refl in (b, refl, z.0, z.1)
  where
    go : (a : Result Unit Refusal) → (start_in b s).answer ≡ a → ((start_in b s).answer ≡ Ok tt) × ((start_in b s).chamber.client.client ≡ x)
    go (Err n) q = untrue (rw q at e)
    go (Ok tt) q = (q, eqb-true _ _ (rw q at e))

same-command : (a b : Command) → same_command a b ≡ true → a ≡ b
unfolding same_command
same-command a b e =
    let c : a.client ≡ b.client = eqb-true _ _ (and_left (eqb a.client b.client) _ e) in
    let e1 = and_right (eqb a.client b.client) _ e in
    let n : a.call ≡ b.call = eqb-true _ _ (and_left (eqb a.call b.call) _ e1) in
    let e2 = and_right (eqb a.call b.call) _ e1 in
    let o : a.op ≡ b.op = eqb-true _ _ (and_left (eqb a.op b.op) _ e2) in
    let e3 = and_right (eqb a.op b.op) _ e2 in
    let p : a.point ≡ b.point = eqb-true _ _ (and_left (eqb a.point b.point) _ e3) in
    let g : a.argument ≡ b.argument = eqb-true _ _ (and_right (eqb a.point b.point) _ e3) in
    let y : a ≡ record { client = a.client; call = a.call; op = a.op; point = a.point; argument = a.argument } = refl in
    let z : b ≡ record { client = b.client; call = b.call; op = b.op; point = b.point; argument = b.argument } = refl in
    cc

asks_for_lem : (k : Command) (m : Option Packet) → asks_for k m ≡ true → (q : Request) × (m ≡ Some (Requested q)) × (q.command ≡ k)
unfolding asks_for
asks_for_lem k None e = untrue e
asks_for_lem k (Some (Requested q)) e = (q, refl, same-command q.command k e)
asks_for_lem k (Some (Resulted r)) e = untrue e
asks_for_lem k (Some (Refused r)) e = untrue e
asks_for_lem k (Some (Receipted r)) e = untrue e
asks_for_lem k (Some (Noticed n)) e = untrue e
asks_for_lem k (Some (Granted g)) e = untrue e

requests_of : (k : Command) (o : Maybe Operation) → requests k o ≡ true
    → (v : Versions) × (b : List ℕ) × (q : Request) × (o ≡ some (request v b)) × (parse_packet b ≡ Some (Requested q)) × (q.command ≡ k)
unfolding requests
requests_of k none e = untrue e
requests_of k (some (request v b)) e = let z = asks_for_lem k (parse_packet b) e in (v, b, z.0, refl, z.1, z.2)
requests_of k (some (fetch v x c)) e = untrue e
requests_of k (some (sync m)) e = untrue e
requests_of k (some (notice b)) e = untrue e
requests_of k (some (give p d)) e = untrue e
requests_of k (some (image v p)) e = untrue e
requests_of k (some (take_in b)) e = untrue e
requests_of k (some (receipt p)) e = untrue e
requests_of k (some (release b)) e = untrue e

silent : (o : Maybe Answer) → done_silently o ≡ true → o ≡ some (answer_of no_refusal 0)
unfolding done_silently
silent none e = untrue e
silent (some a) e =
    let u : a.refusal ≡ no_refusal = eqb-true _ _ (and_left (eqb a.refusal no_refusal) _ e) in
    let v : a.wrote ≡ 0 = eqb-true _ _ (and_right (eqb a.refusal no_refusal) _ e) in
    let z : a ≡ record { refusal = a.refusal; wrote = a.wrote } = refl in
    cc

-- ---- a schedule

module _ (plan : List ℕ) (s : LockPoints) (c k : ℕ) where
  abbrev site_from : Site (lock_product s) → List LockEvent → ℕ → Site (lock_product s)
  site_from t ls n = run_site (lock_product s) t (take n ls)

  abbrev test_at : Site (lock_product s) → LockEvent → Look → Bool
  test_at t o x = event_ok plan s c k t o (event_at (lock_product s) t o) (done t.world (event_at (lock_product s) t o)).answer x

  row_from : (t : Site (lock_product s)) (ls : List LockEvent) (xs : List Look) → passes plan s c k t ls xs ≡ true → (n : ℕ) (o : LockEvent) → get_elem? ls n ≡ some o
      → (x : Look) × (get_elem? xs n ≡ some x) × (test_at (site_from t ls n) o x ≡ true)
  unfolding passes run_site event_at step_site
  row_from t [] xs h n o e = impossible e
  row_from t (y ∷ ls) [] h n o e = untrue h
  row_from t (y ∷ ls) (x ∷ xs) h zero o e =
      let z : y ≡ o = cc in
      (x, refl, subst (λ (u : LockEvent). test_at t u x ≡ true) z (and_left (test_at t y x) _ h))
  row_from t (y ∷ ls) (x ∷ xs) h (suc n) o e = row_from (step_site (lock_product s) t y) ls xs next n o e
    where
      next : passes plan s c k (step_site (lock_product s) t y) ls xs ≡ true
      next =
          subst (λ (w : World). passes plan s c k (record { world = w; parts = lock_after s t.world t.parts y }) ls xs ≡ true)
          (done-world t.world (lock_event s t.world t.parts y)) (and_right (test_at t y x) _ h)

  module _ (ls : List LockEvent) (xs : List Look) (h : passes plan s c k (empty_site (lock_product s)) ls xs ≡ true) where
    abbrev site : ℕ → Site (lock_product s)
    site n = site_after (lock_product s) ls n

    abbrev es : List Event
    es = events plan s ls

    same-world : (n : ℕ) → (site n).world ≡ after es n
    same-world n = site_world (lock_product s) ls n

    row : (n : ℕ) (o : LockEvent) → get_elem? ls n ≡ some o → (x : Look) × (get_elem? xs n ≡ some x) × (test_at (site n) o x ≡ true)
    unfolding site_after
    row n o e = row_from (empty_site (lock_product s)) ls xs h n o e

    -- the three parts of an event's test
    kernel-part : (n : ℕ) (o : LockEvent) → get_elem? ls n ≡ some o
        → (typed_ok (event_at (lock_product s) (site n) o) && keeps_ok plan (site n).world (event_at (lock_product s) (site n) o)) ≡ true
    unfolding event_ok
    kernel-part n o e = and_left _ _ (row n o e).2

    lock_part : (n : ℕ) (o : LockEvent) → get_elem? ls n ≡ some o → lock_ok plan s c k (site n).world (site n).parts o ≡ true
    unfolding event_ok
    lock_part n o e = and_left _ _ (and_right (typed_ok (event_at (lock_product s) (site n) o) && keeps_ok plan (site n).world (event_at (lock_product s) (site n) o)) _ (row n o e).2)

    passed : (n : ℕ) (x : Event) → get_elem? es n ≡ some x → (typed_ok x && keeps_ok plan (after es n) x) ≡ true
    passed n x e =
        let f = event-from (lock_product s) ls n x e in
        subst (λ (w : World). (typed_ok x && keeps_ok plan w x) ≡ true) (same-world n)
        (subst (λ (y : Event). (typed_ok y && keeps_ok plan (site n).world y) ≡ true) f.2 (kernel-part n f.0 f.1))

    kernel-at : (n : ℕ) (e : Event) → AtLock plan s ls n (kernel e) → At es n e
    unfolding AtLock At event_at lock_event
    kernel-at n e a = event-there (lock_product s) ls n (kernel e) a

    aside : (n : ℕ) (e : Event) → AtLock plan s ls n (kernel e) → aside_ok s (site n).parts e ≡ true
    unfolding AtLock lock_ok
    aside n e a = lock_part n (kernel e) a

    own-issue : (n x op p a : ℕ) → AtLock plan s ls n (kernel (outside (issue x op p a))) → (is_none ((site n).parts.controllers x) ≡ true) × (gate_ok s op p ≡ true)
    unfolding aside_ok
    own-issue n x op p a e =
        let z = aside n (outside (issue x op p a)) e in
        (and_left (is_none ((site n).parts.controllers x)) (gate_ok s op p) z, and_right (is_none ((site n).parts.controllers x)) (gate_ok s op p) z)

    own-receive : (n x p : ℕ) → AtLock plan s ls n (kernel (outside (receive x p))) → is_none ((site n).parts.controllers x) ≡ true
    unfolding aside_ok
    own-receive n x p e = aside n (outside (receive x p)) e

    reads_only : (n : ℕ) (e : Event) (m : Command) → AtLock plan s ls n (kernel e) → Issues es n (m ∷ []) → IsGate plan s ls m.point → m.op ≡ read_op
    reads_only n e m a i g =
        let z : e ≡ outside (issue i.client i.op i.point i.argument) = at_once plan es n e _ (kernel-at n e a) i.event in
        let q = issue-is plan es n m i in
        let at : AtLock plan s ls n (kernel (outside (issue i.client i.op i.point i.argument))) = subst (λ (y : Event). AtLock plan s ls n (kernel y)) z a in
        let gate : IsGate plan s ls i.point = subst (IsGate plan s ls) (ap (λ (y : Command). y.point) q) g in
        ap (λ (y : Command). y.op) q ∙ reads_gate s i.op i.point (own-issue n i.client i.op i.point i.argument at).1 gate

    fenced_start : FencedAtStart plan s ls
    unfolding AtLock lock_ok
    fenced_start n x y p B l g =
        let z = lock_part n (begin B.number) B.event in
        subst (λ (w : World). FencedIn (state_given plan) (synced_state plan) w x p) (same-world n)
        (successor-is plan s c k (site n).world x p (rw l at z) g)

    pub lock_provisos : ((p : ℕ) → IsGate plan s ls p → (opened (plan_of plan) p).value ≡ pos 0) → LockProvisos plan s ls
    lock_provisos f =
        record {
          kernels = provisos_from plan es passed;
          fallback = f;
          only = reads_only;
          own-issue = λ n x op p a ch e q. none_of ((site n).parts.controllers x) ch (own-issue n x op p a e).0 q;
          own-receive = λ n x p ch e q. none_of ((site n).parts.controllers x) ch (own-receive n x p e) q;
          successor = fenced_at-start plan s ls fenced_start;
        }

    -- ---- what is looked for

    look_part : (n : ℕ) (o : LockEvent) (x : Look) → get_elem? ls n ≡ some o → get_elem? xs n ≡ some x
        → looked s (site n).world o (event_at (lock_product s) (site n) o) (done (site n).world (event_at (lock_product s) (site n) o)).answer x ≡ true
    unfolding event_ok
    look_part n o x e q =
        let r = row n o e in
        let z : r.0 ≡ x = (let y : some r.0 ≡ some x = sym r.1 ∙ q in cc) in
        let t = subst (λ (y : Look). test_at (site n) o y ≡ true) z r.2 in
        and_right (lock_ok plan s c k (site n).world (site n).parts o) _
        (and_right (typed_ok (event_at (lock_product s) (site n) o) && keeps_ok plan (site n).world (event_at (lock_product s) (site n) o)) _ t)

    pub begins-there : (n p x : ℕ) → get_elem? ls n ≡ some (begin p) → get_elem? xs n ≡ some (starting x) → Begins plan s ls n x
    unfolding AtLock looked begins_in
    begins-there n p x e q =
        let z = started_as_lem s x (packet (site n).world p) (look_part n (begin p) (starting x) e q) in
        record { number = p; event = e; bytes = z.0; delivered = z.1; answer = z.2; its = z.3 }

    pub executes-there : (n d p : ℕ) (v : Versions) (t : Lent) (m : Command) → get_elem? ls n ≡ some (kernel (call d (request v p) t)) → get_elem? xs n ≡ some (executing m)
        → Executes es n d (marked_by v m)
    unfolding looked executes_in event_at lock_event done operated AtLock
    executes-there n d p v t m e q =
        let w : World = after es n in
        let h : Maybe Operation = handed (packet w) (request v p) in
        let l : (done_silently (operation_done d t (w.servers d) h w).answer && requests m h) ≡ true =
        subst (λ (u : World). (done_silently (operation_done d t (u.servers d) (handed (packet u) (request v p)) u).answer && requests m (handed (packet u) (request v p))) ≡ true) (same-world n)
        (look_part n (kernel (call d (request v p) t)) (executing m) e q) in
        let a = silent _ (and_left _ _ l) in
        let A = answer_of_lem t (w.servers d) h (answer_of no_refusal 0) (sym (done-answer d t (w.servers d) h w) ∙ a) in
        let P = requests_of m h (and_right (done_silently (operation_done d t (w.servers d) h w).answer) _ l) in
        let o : A.operation ≡ request P.0 P.1 = (let y : some A.operation ≡ some (request P.0 P.1) = sym A.handed ∙ P.3 in cc) in
        let b = request-packet (packet w) v P.0 p P.1 P.3 in
        let own : A.operation ≡ request v P.1 = o ∙ ap (λ (u : Versions). request u P.1) (sym b.0) in
        record {
          number = p;
          versions = v;
          lent = t;
          event = kernel-at n (call d (request v p) t) e;
          stored = A.stored;
          state = A.state;
          log = A.log;
          up = A.up;
          bytes = P.1;
          delivered = b.1;
          answer = subst (λ (x : Operation). (operated x (lent_state t A.state) (lent_log t A.log) t.out).answer ≡ answer_of no_refusal 0) own A.answer;
          asked = P.2;
          parsed = P.4;
          its = ap (marked_by v) P.5;
        }

-- ---- crashes

every-at : (f : LockEvent → Bool) (ls : List LockEvent) (n : ℕ) (o : LockEvent) → every f ls ≡ true → get_elem? ls n ≡ some o → f o ≡ true
unfolding every
every-at f [] n o h e = impossible e
every-at f (x ∷ ls) zero o h e = let z : x ≡ o = cc in ap f (sym z) ∙ and_left (f x) (every f ls) h
every-at f (x ∷ ls) (suc n) o h e = every-at f ls n o (and_right (f x) (every f ls) h) e

-- a controller's call is no crash
not-crash : {A : Type 0} {o : OutsideCall} {c b : ℕ} → outside o ≡ crash c b → A
not-crash e = let z : ◌≡◌ {A = ℕ} 0 1 = cc in absurd (omega arith)

pub no_crash_lem : (plan : List ℕ) (s : LockPoints) (ls : List LockEvent) → every uncut ls ≡ true → (n c b : ℕ) → At (events plan s ls) n (crash c b) → ⊥
unfolding At event_at lock_event uncut no_crash
no_crash_lem plan s ls h n c b a =
    let f = event-from (lock_product s) ls n (crash c b) a in
    go f.0 (every-at uncut ls n f.0 h f.1) f.2
  where
    go : (o : LockEvent) → uncut o ≡ true → event_at (lock_product s) (site_after (lock_product s) ls n) o ≡ crash c b → ⊥
    go (kernel e) t q = untrue (rw q at t)
    go (begin p) t q = not-crash q
    go (command x op p r) t q = not-crash q
    go (again x p) t q = not-crash q
    go (hear x p) t q = not-crash q
