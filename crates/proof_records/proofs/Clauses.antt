-- What issues, completes, executes and survives over records does so in the run, and back.
--     like                                   worlds by number
--     issues-there, issues-here              issues, both ways
--     completes_there                        completions
--     executes-there, executes-here          executions, both ways
--     survives-there, survives-here          survivors, both ways;  notes_here   with the times that they note
-- Assumes nothing.
use Prim.Native.Nat.{ℕ, suc, ◌<◌, zero, ◌+◌, ◌-◌, ◌≤◌}
use mathlib.Core.Path.{◌≡◌, refl, sym, ◌∙◌, ap, subst}
use mathlib.Core.Logic.{◌⊎◌, inl, inr}
use mathlib.Core.List.{List, [], ◌∷◌}
use mathlib.Core.Option.{none, some}
use native.Mathlib.Omega.{arith}
use lib.ListN.{length, take, get_or, get_elem?}
use Rattle.std.specs.Prelude.{Ok, Some}
use Rattle.model.specs.Versions.{Versions}
use Rattle.model.specs.declared.Client.{Client}
use Rattle.model.specs.declared.Command.{Command}
use Rattle.model.specs.declared.Request.{Request}
use Rattle.model.specs.declared.ResultPacket.{ResultPacket}
use Rattle.model.specs.declared.Packet.TheVariants.{Requested}
use Rattle.model.specs.declared.Received.TheVariants.{Completed}
use Rattle.model.specs.Plan.{plan_of}
use Rattle.model.specs.Sequential.{Marked, EntryResult}
use Rattle.model.specs.Packets.{parse_packet}
use Rattle.model.specs.Clients.{issue_of, receive_of}
use Rattle.model.specs.Calls.{request, handed, decision}
use Rattle.model_laws.proofs.Clients.{issue-asked}
use Rattle.proof_protocol.specs.Servers as S
use Rattle.proof_protocol.specs.World as W
use Rattle.proof_protocol.specs.Explains as X
use Rattle.proof_protocol.proofs.Trace.{at-is, Crashes, is-at, after-suc, inv_at, step_cut, stands_through}
use Rattle.claim.specs.World.{issue, receive, packet, with_server, making}
use Rattle.claim.specs.Claim.{command_at}
use Rattle.claim.specs.RecordWorld.{World, Event, run, after, empty_world, kept_by, Server, Log, running, call_of, calls, calls_on, step, run_from}
use Rattle.claim.specs.RecordWorld as R
use Rattle.claim.specs.RecordProvisos.{At, length_of}
use Rattle.claim.specs.RecordClaim.{Issues, Completes, Executes, SurvivesAt, Notes}
use Rattle.proof_records.specs.Likeness.{result_of}
use Rattle.proof_records.specs.Worlds.{Running, WorldLike}
use Rattle.proof_records.specs.Matched.{Executed, Cut, Quiet, Plain, Matched, Follows, bytes_in}
use Rattle.proof_records.specs.Matched as M
use Rattle.proof_records.proofs.Calls.{some_same, running-like}
use Rattle.proof_records.proofs.Runs.{like_at, matched-at, matched-back, run_of}
use Rattle.model.specs.States.{State}
use Rattle.model.specs.Apply.{replay, with_mark}
use Rattle.model.specs.Decisions.{Decided, time_for}
use Rattle.proof_protocol.proofs.Basics.{eqb_same}
use Rattle.proof_protocol.proofs.Logs.{Tail, Tail-refl, Tail-trans, Tail-length}
use Rattle.proof_records.proofs.Worlds.{running-kept, calls-up}
use Rattle.proof_records.proofs.Sizes.{chain-bytes, tail-bytes}

-- ---- matched events, taken apart

module _ {w : World} {v v' : W.World} where
  issue_on : {x op p b : ℕ} {a : W.Change} → Matched w v v' (R.outside (issue x op p b)) a → (d : Client) (q : Request) → w.clients x ≡ some d → (issue_of d op p b).answer ≡ Ok q
      → a ≡ W.client x (W.issues d op p b)
  unfolding Quiet
  issue_on (M.issued x op p b c r e s) d q f k = rw (some_same e f)
  issue_on (M.other e a h s) d q f k = absurd (h d q f k)

  receive_on : {x p : ℕ} {a : W.Change} → Matched w v v' (R.outside (receive x p)) a → (d : Client) (b : List ℕ) (r : ResultPacket) → w.clients x ≡ some d → packet w p ≡ some b
      → (receive_of d b).answer ≡ Ok (Completed r) → a ≡ W.client x (W.receives d (record { client = r.client; call = r.call }) r.point (result_of r.result))
  unfolding Quiet
  receive_on (M.received x p c g s e f k) d b r e' f' k' =
      let i : c ≡ d = some_same e e' in
      let j : g ≡ b = some_same f f' in
      let z : Ok (Completed s) ≡ Ok (Completed r) = sym k ∙ (ap (λ (y : Client). (receive_of y g).answer) i ∙ (ap (λ (y : List ℕ). (receive_of d y).answer) j ∙ k')) in
      let t : s ≡ r = cc in
      rw (i, t)
  receive_on (M.other e a h s) d b r e' f' k = absurd (h d b r e' f' k)

  request_on : {c p room : ℕ} {vs : Versions} {a : W.Change} → Matched w v v' (R.call c (request vs p) room) a → (q : Request) → Executed w c p vs room q
      → (r : S.Result) × (n : ℕ) × (a ≡ W.server c (W.writes (S.executed (vs.rule q.command.op) q.command q.done r) n))
  unfolding Quiet
  request_on (M.executed c p vs room k r n X u) q Y =
      let j : X.bytes ≡ Y.bytes = some_same X.delivered Y.delivered in
      let z : Some (Requested k) ≡ Some (Requested q) = sym X.parsed ∙ (ap parse_packet j ∙ Y.parsed) in
      let t : k ≡ q = cc in
      (r, n, rw t)
  request_on (M.other e a h s) q Y = absurd (h _ _ q refl Y)

-- the same issue asks the same
issue-same : {d d' : Client} {op op' p p' b b' : ℕ} → W.issues d op p b ≡ W.issues d' op' p' b'
    → (W.issued_by d op p b).command ∷ [] ≡ (W.issued_by d' op' p' b').command ∷ []
issue-same {d} {d'} {op} {op'} {p} {p'} {b} {b'} e =
    let i : d ≡ d' = cc in
    let j : op ≡ op' = cc in
    let k : p ≡ p' = cc in
    let l : b ≡ b' = cc in
    rw (i, j, k, l)

-- ---- a schedule and its run

module _ (plan : List ℕ) (es : List Event) (cs : List W.Change) (F : Follows (plan_of plan) empty_world W.empty_world es cs) where
  pub like : (n : ℕ) → WorldLike (plan_of plan) (after es n) (X.after cs n)
  unfolding after run X.after W.run
  like n = like_at F n

  pairing : (n : ℕ) (e : Event) → At es n e → (a : W.Change) × X.At cs n a × Matched (after es n) (X.after cs n) (X.after cs (suc n)) e a
  unfolding after run X.after W.run At X.At
  pairing n e q = let r = matched-at F n e q in (r.0, r.1.there, r.1.matched)

  pairing_back : (n : ℕ) (a : W.Change) → X.At cs n a → (e : Event) × At es n e × Matched (after es n) (X.after cs n) (X.after cs (suc n)) e a
  unfolding after run X.after W.run At X.At
  pairing_back n a q = let r = matched-back F n a q in (r.0, r.1.here, r.1.matched)

  pub issues-there : (n : ℕ) (ks : List Command) → Issues es n ks → X.Issues cs n ks
  issues-there n ks i =
      let r = pairing n _ i.event in
      record {
        client = i.client;
        state = i.state;
        op = i.op;
        point = i.point;
        argument = i.argument;
        event = subst (X.At cs n) (issue_on r.2 i.state i.asked i.started i.answer) r.1;
        its = ap (λ (q : Request). q.command ∷ []) (sym (issue-asked _ _ _ _ _ i.answer).asks) ∙ i.its;
      }

  -- an issue in the run is of an issue not refused
  pub issues-here : (n : ℕ) (ks : List Command) → X.Issues cs n ks → Issues es n ks
  issues-here n ks i = let r = pairing_back n _ i.event in go r.0 r.1 _ r.2 refl
    where
      go : (e : Event) → At es n e → (a : W.Change) → Matched (after es n) (X.after cs n) (X.after cs (suc n)) e a
          → a ≡ W.client i.client (W.issues i.state i.op i.point i.argument) → Issues es n ks
      go e k a (M.issued x op p b d q f s) z =
          let t : W.issues d op p b ≡ W.issues i.state i.op i.point i.argument = cc in
          record {
            client = x;
            op = op;
            point = p;
            argument = b;
            event = k;
            state = d;
            started = f;
            asked = q;
            answer = s;
            its = ap (λ (y : Request). y.command ∷ []) (issue-asked d op p b q s).asks ∙ (issue-same t ∙ i.its);
          }
      go e k a (M.executed d p vs room y r g f u) z = let o : ◌≡◌ {A = ℕ} 0 1 = cc in absurd (omega arith)
      go e k a (M.cut d b j y) z = let o : ◌≡◌ {A = ℕ} 0 1 = cc in absurd (omega arith)
      go e k a (M.received x p d b r f g h) z = let o : ◌≡◌ {A = ℕ} 0 1 = cc in absurd (omega arith)
      go e k a (M.other f b h s) z = absurd (subst Plain z s)

  pub completes_there : (n : ℕ) (ks : List Command) (r : EntryResult) → Completes es n ks r → X.Completes cs n ks r
  unfolding command_at W.command_at
  completes_there n ks r i =
      let m = pairing n _ i.event in
      record {
        client = i.client;
        state = i.state;
        id = record { client = i.received.client; call = i.received.call };
        point = i.received.point;
        res = result_of i.received.result;
        event = subst (X.At cs n) (receive_on m.2 i.state i.bytes i.received i.started i.delivered i.answer) m.1;
        its = i.its;
        result = i.result;
      }

  pub executes-there : (n c : ℕ) (m : Marked) → Executes es n c m → X.Executes cs n c m
  unfolding Running decision
  executes-there n c m x =
      let r = pairing n _ x.event in
      let k = request_on r.2 x.asked
      (record { state = x.state; log = x.log; up = x.up; bytes = x.bytes; delivered = x.delivered; no_number = x.no_number; no_packet = x.no_packet; parsed = x.parsed }) in
      record {
        done = x.asked.done;
        res = k.0;
        bytes = k.1;
        event =
            subst (λ (y : Marked). X.At cs n (W.server c (W.writes (S.executed y.version y.command x.asked.done k.0) k.1))) x.its
            (subst (X.At cs n) k.2 r.1);
      }

  -- an execution in the run is of a request, and notes the time of its result
  abbrev Noted : ℕ → ℕ → Marked → ℕ → Type 0
  Noted n c m t = (y : Executes es n c m) × (time_for y.versions y.state ≡ t)

  pub executes-here : (n c : ℕ) (m : Marked) (x : X.Executes cs n c m) → Noted n c m x.res.time
  unfolding Running decision
  executes-here n c m x = let r = pairing_back n _ x.event in go r.0 r.1 _ r.2 refl
    where
      go : (e : Event) → At es n e → (a : W.Change) → Matched (after es n) (X.after cs n) (X.after cs (suc n)) e a
          → a ≡ W.server c (W.writes (S.executed m.version m.command x.done x.res) x.bytes) → Noted n c m x.res.time
      go e q a (M.executed d p vs room k r g Y u) z =
          let i : d ≡ c = cc in
          let j : vs.rule k.command.op ≡ m.version = cc in
          let t : k.command ≡ m.command = cc in
          let f : r ≡ x.res = cc in
          subst (λ (y : ℕ). Noted n y m x.res.time) i (
            record {
              number = p;
              versions = vs;
              room = room;
              event = q;
              state = Y.state;
              log = Y.log;
              up = Y.up;
              bytes = Y.bytes;
              delivered = Y.delivered;
              no_number = Y.no_number;
              no_packet = Y.no_packet;
              asked = k;
              parsed = Y.parsed;
              its = rw (j, t);
            },
            sym u ∙ ap (λ (y : S.Result). y.time) f,
          )
      go e q a (M.cut d b j y) z = let o : ◌≡◌ {A = ℕ} 0 1 = cc in absurd (omega arith)
      go e q a (M.issued y op p b d r f s) z = let o : ◌≡◌ {A = ℕ} 0 1 = cc in absurd (omega arith)
      go e q a (M.received y p d b r f g h) z = let o : ◌≡◌ {A = ℕ} 0 1 = cc in absurd (omega arith)
      go e q a (M.other f b h s) z = absurd (subst Plain z s)

  crash-there : (n c b : ℕ) → At es n (R.crash c b) → (n < length cs) × ((kept_by ((after es n).servers c) ≡ none) ⊎ Cut (X.after cs n) (X.after cs (suc n)) c b)
  crash-there n c b q = let r = pairing n _ q in ((at-is cs n r.0 r.1).0, go r.2)
    where
      go : {a : W.Change} → Matched (after es n) (X.after cs n) (X.after cs (suc n)) (R.crash c b) a → (kept_by ((after es n).servers c) ≡ none) ⊎ Cut (X.after cs n) (X.after cs (suc n)) c b
      go (M.cut c b j k) = inr k
      go (M.other e a h s) = inl (unfold Quiet in h)

  crash-here : (n c j : ℕ) → X.At cs n (W.server c (W.crashes j)) → (b : ℕ) × At es n (R.crash c b) × Cut (X.after cs n) (X.after cs (suc n)) c b
  crash-here n c j q = let r = pairing_back n _ q in go r.0 r.1 _ r.2 refl
    where
      go : (e : Event) → At es n e → (a : W.Change) → Matched (after es n) (X.after cs n) (X.after cs (suc n)) e a → a ≡ W.server c (W.crashes j)
          → (b : ℕ) × At es n (R.crash c b) × Cut (X.after cs n) (X.after cs (suc n)) c b
      go e k a (M.cut d b i y) z = let h : d ≡ c = cc in (b, rw (← h) k, rw (← h) y)
      go e k a (M.executed d p vs room y r g f u) z = let o : ◌≡◌ {A = ℕ} 0 1 = cc in absurd (omega arith)
      go e k a (M.issued x op p b d r y s) z = let o : ◌≡◌ {A = ℕ} 0 1 = cc in absurd (omega arith)
      go e k a (M.received x p d b r f g y) z = let o : ◌≡◌ {A = ℕ} 0 1 = cc in absurd (omega arith)
      go e k a (M.other f b h s) z = absurd (subst Plain z s)

-- ---- the server after a request

after_next : (es : List Event) (w : World) (n : ℕ) (e : Event) → get_elem? es n ≡ some e → run_from w (take (suc n) es) ≡ step (run_from w (take n es)) e
unfolding run_from
after_next [] w n e q = let z : ◌≡◌ {A = ℕ} 0 1 = cc in absurd (omega arith)
after_next (x ∷ es) w zero e q = let z : x ≡ e = cc in ap (step w) z
after_next (x ∷ es) w (suc n) e q = after_next es (step w x) n e q

making-servers : (b : List ℕ) (w : World) → (making b w).servers ≡ w.servers
unfolding making
making-servers [] w = refl
making-servers (x ∷ b) w = refl

-- a running server runs after a call
runs_on : (w : World) (c room : ℕ) (d : State → ℕ → Decided) (st : State) (log : Log) → Running (w.servers c) st log
    → Running ((calls c room d (w.servers c) w).servers c) (call_of st log room d).state (call_of st log room d).log
unfolding Running with_server
runs_on w c room d st log u =
    ap (λ (x : World). x.servers c) (calls-up c w room d (w.servers c) st log u)
    ∙ (ap (λ (f : ℕ → Server). f c) (making-servers (call_of st log room d).made (with_server c (running (call_of st log room d).state (call_of st log room d).log) w)) ∙ rw (eqb_same c))

one_more : (v : W.World) (c : ℕ) (a : S.LogRecord) (n : ℕ) → 1 ≤ length ((W.step v (W.server c (W.writes a n))).servers c).log
unfolding W.step W.server_after
one_more v c a n = rw (eqb_same c) (omega arith)

module _ (plan : List ℕ) (es : List Event) (cs : List W.Change) (F : Follows (plan_of plan) empty_world W.empty_world es cs) where
  abbrev log_at : ℕ → ℕ → List S.Entry
  log_at n c = ((X.after cs n).servers c).log

  -- the length of a running server's log
  running-bytes : (n c : ℕ) (st : State) (log : Log) → Running ((after es n).servers c) st log → length_of ((after es n).servers c) ≡ bytes_in (log_at n c)
  unfolding with_mark
  running-bytes n c st log u =
      let l = like plan es cs F n in
      let K = running-like l c st log u in
      let s : st.size ≡ (replay (plan_of plan) c log.entries).size = ap (λ (x : State). x.size) ((l.servers c).state st log u).is in
      (running-kept ((after es n).servers c) st log u).2 ∙ (s ∙ (rw (K.entries, K.same) (chain-bytes (plan_of plan) c K.pairs K.chain)))

  executed-bytes : (n c : ℕ) (k : Marked) → Executes es n c k → length_of ((after es (suc n)).servers c) ≡ bytes_in (log_at (suc n) c)
  executed-bytes n c k x =
      let r = runs_after n c x.number x.room x.versions x.event x.state x.log x.up x.bytes x.delivered in
      running-bytes (suc n) c r.0 r.1.0 r.1.1
    where
      runs_after : (n c p room : ℕ) (vs : Versions) → At es n (R.call c (request vs p) room) → (st : State) (log : Log) → (after es n).servers c ≡ running st log → (b : List ℕ)
          → packet (after es n) p ≡ some b → (x : State) × ((g : Log) × Running ((after es (suc n)).servers c) x g)
      runs_after n c p room vs q st log u b d =
          unfold after run At step calls_on handed Running in rw (after_next es empty_world n (R.call c (request vs p) room) q, d) (_, (_, runs_on (after es n) c room _ st log u))

  -- ---- from records to the run

  module _ (n c : ℕ) (bytes : (m b : ℕ) → n < m → At es m (R.crash c b) → bytes_in (log_at (suc n) c) ≤ b) where
    -- a crash of the server keeps the log of event n whole
    crash-stays : (m j : ℕ) → n < m → X.At cs m (W.server c (W.crashes j)) → Tail (log_at (suc n) c) (log_at m c) → Tail (log_at (suc n) c) (log_at (suc m) c)
    crash-stays m j h a t = let k = crash-here plan es cs F m c j a in k.2.stays (log_at (suc n) c) t (bytes m k.0 h k.1)

    stays : (d : ℕ) → suc n + d ≤ length cs → Tail (log_at (suc n) c) (log_at (suc n + d) c)
    stays zero h = subst (λ (z : ℕ). Tail (log_at (suc n) c) (log_at z c)) (omega arith) (Tail-refl _)
    stays (suc d) h =
        let e : suc n + suc d ≡ suc (suc n + d) = omega arith in
        subst (λ (z : ℕ). Tail (log_at (suc n) c) (log_at z c)) (sym e) (go (step_cut (plan_of plan) cs (run_of F) (suc n + d) (omega arith) c) (stays d (omega arith)))
      where
        go : Crashes (get_or cs (suc n + d) W.same) c ⊎ Tail (log_at (suc n + d) c) (log_at (suc (suc n + d)) c) → Tail (log_at (suc n) c) (log_at (suc n + d) c)
            → Tail (log_at (suc n) c) (log_at (suc (suc n + d)) c)
        go (inl j) t = crash-stays (suc n + d) j.0 (omega arith) (is-at cs (suc n + d) _ (omega arith) j.1) t
        go (inr u) t = Tail-trans t u

    kept_there : (m j : ℕ) → n < m → X.At cs m (W.server c (W.crashes j)) → X.log_length cs (suc n) c ≤ X.log_length cs (suc m) c
    kept_there m j h a =
        let i = at-is cs m _ a in
        let e : suc n + (m - suc n) ≡ m = omega arith in
        let t : Tail (log_at (suc n) c) (log_at m c) = subst (λ (z : ℕ). Tail (log_at (suc n) c) (log_at z c)) e (stays (m - suc n) (omega (arith, i.0))) in
        Tail-length (crash-stays m j h a t)

  pub survives-there : (n : ℕ) (k : Marked) → SurvivesAt es n k → X.SurvivesAt cs n k
  survives-there n k s =
      let c = s.server in
      record {
        server = c;
        executes = executes-there plan es cs F n c k s.executes;
        kept = kept_there n c (λ m b h a. subst (λ (z : ℕ). z ≤ b) (executed-bytes n c k s.executes) (s.kept m b h a));
      }

  -- ---- and back

  -- an execution is in the log
  grew : (n c : ℕ) (k : Marked) → X.Executes cs n c k → 1 ≤ length (log_at (suc n) c)
  grew n c k x =
      let i = at-is cs n _ x.event in
      let e : X.after cs (suc n) ≡ W.step (X.after cs n) (W.server c (W.writes (S.executed k.version k.command x.done x.res) x.bytes))
      = after-suc (plan_of plan) cs (run_of F) n i.0 ∙ ap (W.step (X.after cs n)) i.1 in
      subst (λ (y : W.World). 1 ≤ length (y.servers c).log) (sym e) (one_more (X.after cs n) c _ _)

  module _ (n c : ℕ) (k : Marked) (x : X.Executes cs n c k)
      (kept : (m j : ℕ) → n < m → X.At cs m (W.server c (W.crashes j)) → X.log_length cs (suc n) c ≤ X.log_length cs (suc m) c) where
    stands : (m : ℕ) → n < m → m ≤ length cs → Tail (log_at (suc n) c) (log_at m c)
    stands m h b = stands_through (plan_of plan) cs (run_of F) (suc n) m c (log_at (suc n) c) h b (Tail-refl _) (λ i j a q. kept i j a q)

    kept_here : (m b : ℕ) → n < m → At es m (R.crash c b) → bytes_in (log_at (suc n) c) ≤ b
    kept_here m b h a = let r = crash-there plan es cs F m c b a in go r.0 r.1
      where
        -- a server with an execution in its log has one
        never : m < length cs → kept_by ((after es m).servers c) ≡ none → ⊥
        never u z =
            let l = like plan es cs F m in
            let e : log_at m c ≡ [] = ((inv_at (plan_of plan) cs (run_of F) m).core.blank c ((l.servers c).absent z)).0 in
            omega (arith, grew n c k x, Tail-length (stands m h (omega arith)), ap length e)

        go : m < length cs → (kept_by ((after es m).servers c) ≡ none) ⊎ Cut (X.after cs m) (X.after cs (suc m)) c b → bytes_in (log_at (suc n) c) ≤ b
        go u (inl z) = absurd (never u z)
        go u (inr y) = omega (arith, tail-bytes (stands (suc m) (omega arith) u), y.most)

  pub notes_here : (n : ℕ) (k : Marked) (s : X.SurvivesAt cs n k) → Notes es n k s.executes.res.time
  notes_here n k s =
      let c = s.server in
      let x = executes-here plan es cs F n c k s.executes in
      (record { server = c; executes = x.0; kept = λ m b h a. rw (executed-bytes n c k x.0) (kept_here n c k s.executes s.kept m b h a) }, x.1)

  pub survives-here : (n : ℕ) (k : Marked) → X.SurvivesAt cs n k → SurvivesAt es n k
  survives-here n k s = (notes_here n k s).0
