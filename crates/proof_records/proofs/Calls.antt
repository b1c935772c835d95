-- A call of a running server is followed by a change of the protocol.
--     running-like, running-alike     a running server's log and states
--     Effect, decided-like     what a decision leaves, and the change that follows it
--     call-follows             a call of any server
--     call_step                an operation: a request that is executed, or quiet
-- Assumes nothing.
use Prim.Native.Nat.{ℕ, ◌+◌, ◌-◌, ◌≤◌, ◌<◌, zero, suc}
use mathlib.Core.Path.{◌≡◌, refl, sym, ◌∙◌, ap, subst}
use mathlib.Core.List.{List, [], ◌∷◌, ◌++◌, Memᴰ}
use mathlib.Core.Logic.{◌⊎◌, inl, inr, ◌≢◌}
use native.Mathlib.Omega.{arith}
use Rattle.model.specs.declared.PlanEntry.{PlanEntry}
use Rattle.model.specs.Choice.{refuse, deny, reply, append, marks}
use Rattle.model.specs.Logs.{LogRecord, Entry, record_size}
use Rattle.model.specs.States.{State}
use Rattle.model.specs.Apply.{apply, replay, with_mark}
use Rattle.model.specs.Decisions.{Decided}
use Rattle.model_laws.proofs.Logs.{record-least}
use Rattle.model_invariants.specs.History.{Decides, entry_for}
use Rattle.model_invariants.specs.Calls.{HandedOver}
use Rattle.model_invariants.proofs.Calls.{handed-over}
use Rattle.model.specs.Calls.{OperationOf, Operation, handed, decision}
use Rattle.model.specs.Calls as Calls
use Rattle.model_invariants.proofs.Steps.{sound-mark}
use Rattle.model_invariants.proofs.Kept.{decides-mark, apply-mark}
use Rattle.model_invariants.proofs.Recovery.{replay-next, apply-size}
use Rattle.proof_protocol.specs.Servers as S
use Rattle.proof_protocol.specs.World as W
use Rattle.proof_protocol.specs.Allowed.{Made, Allowed}
use Rattle.proof_protocol.specs.Allowed as P
use Rattle.claim.specs.World.{with_server, making, packet}
use Rattle.claim.specs.RecordWorld.{World, Event, Log, running, longer, settle, call_of, calls, step, calls_on}
use Rattle.claim.specs.RecordProvisos.{length_of}
use Rattle.proof_records.specs.Likeness.{Pair, RecordLike, entries_in, abstract_in, place_of, Alike}
use Rattle.proof_records.specs.Inverse.{Shows}
use Rattle.proof_records.specs.Worlds.{Running, LogLike, WorldLike}
use Rattle.proof_records.specs.Matched.{Source, execution, no_execution, Quiet, Matched, Stepped, Executed, executed, other}
use Rattle.proof_records.proofs.Sizes.{next-size}
use Rattle.proof_records.proofs.Places.{place_old, place_rises, place-most, abstract-length}
use Rattle.proof_records.proofs.Replays.{apply-fixed, chain-alike, replay-mark, alike-mark}
use Rattle.proof_records.proofs.Made.{like_blank, reply-some}
use Rattle.proof_records.proofs.Inverted.{decided_in, call-shown}
use Rattle.proof_records.proofs.Refined.{Handed, written, spoken}
use Rattle.proof_records.proofs.Worlds.{running-kept, or-not, calls-up, calls-down, like-running, log-marked, like-same, like-tells, like-server, like-server-same, like-making, running-same, idle-step}
use mathlib.Core.Option.{Option, none, some}
use lib.ListN.{length, get_elem?}
use Rattle.model.specs.Versions.{Versions}
use Rattle.model.specs.declared.Request.{Request}
use Rattle.claim.specs.RecordWorld as R
use Rattle.proof_records.specs.Made.{PacketLike}

-- a decision of the operation o at server c, and the change that follows it
pub data Effect (st : State) (o : Operation) (c : ℕ) : Decided → W.Change → Type 0 where
  refuses : {n : ℕ} → n ≢ 0 → Effect st o c (refuse n) W.same
  denies : {n : ℕ} {b : List ℕ} → n ≢ 0 → Effect st o c (deny n b) W.same
  replies : {b : List ℕ} {p : S.Packet} → (b ≡ [] → ⊥) → Effect st o c (reply b) (W.tells c p)
  appends : {r : LogRecord} {a : S.LogRecord} {n : ℕ} → Source st o a → Effect st o c (append r) (W.server c (W.writes a n))
  sets : {m k : ℕ} → o ≡ Calls.sync m → Effect st o c (marks m) (W.server c (W.syncs k))

-- ---- a running server

module _ {plan : List PlanEntry} {w : World} {v : W.World} (l : WorldLike plan w v) (c : ℕ) (st : State) (log : Log) (u : Running (w.servers c) st log) where
  pub running-like : LogLike plan c log st.mark st.size (v.servers c)
  running-like =
      let k = running-kept (w.servers c) st log u in
      subst (λ (n : ℕ). LogLike plan c log st.mark n (v.servers c)) k.2
      (subst (λ (m : ℕ). LogLike plan c log m (length_of (w.servers c)) (v.servers c)) k.1 ((l.servers c).kept log k.0))

  zs : List Pair
  zs = running-like.pairs

  marked : st ≡ with_mark st.mark (replay plan c (entries_in zs))
  unfolding zs
  marked = subst (λ (es : List Entry). st ≡ with_mark st.mark (replay plan c es)) running-like.entries ((l.servers c).state st log u).is

  size_is : st.size ≡ (replay plan c (entries_in zs)).size
  unfolding with_mark
  size_is = ap (λ (x : State). x.size) marked

  -- its state, in both worlds
  pub running-alike : Alike plan c running-like.pairs st (W.state_of plan v c)
  unfolding W.state_of zs
  running-alike =
      let K = running-like in
      let r = replay plan c (entries_in zs) in
      let A = chain-alike plan c K.good K.server zs K.chain in
      let N = sound-mark r st.mark A.sound (omega (arith, replay-mark plan c zs, K.head)) (omega (arith, size_is, K.synced)) in
      rw K.same (subst (λ (x : State). Alike plan c zs x (S.replay plan c (abstract_in zs))) (sym marked) (alike-mark plan c st.mark zs r _ A N))

  -- a record appended
  append-like : (free : ℕ) (r : LogRecord) (a : S.LogRecord) (L : RecordLike r a) → Decides st free r
      → WorldLike plan (with_server c (running (apply st (entry_for st r)) (longer log (entry_for st r))) w) (W.step v (W.server c (W.writes a (record_size r))))
  unfolding W.server_after longer zs abstract_in entries_in
  append-like free r a L D =
      let K = running-like in
      let e = entry_for st r in
      let z : Pair = record { entry = e; abstract = record { item = a; at = v.clock; bytes = record_size r }; like = L } in
      let past : st.mark < e.end = omega (arith, K.synced, record-least r) in
      let size : (apply st e).size ≡ e.end = unfold apply in apply-size r e.end st in
      let mark : (apply st e).mark ≡ st.mark = unfold apply in (apply-fixed r e.end st).2 in
      like-server l c (running (apply st e) (longer log e)) (W.writes a (record_size r))
      (like-running (apply st e) (longer log e)
      (record {
        pairs = z ∷ zs;
        founded = K.founded;
        same = ap (λ (es : List S.Entry). record { item = a; at = v.clock; bytes = record_size r } ∷ es) K.same;
        marked = K.marked ∙ sym (ap (place_of (z ∷ zs)) mark ∙ place_old z zs st.mark past);
        good = K.good;
        server = K.server;
        number = K.number;
        entries = ap (λ (es : List Entry). es ++ (e ∷ [])) K.entries;
        chain = (
          record {
            free = free;
            decides = decides-mark (replay plan c (entries_in zs)) free st.mark r (subst (λ (x : State). Decides x free r) marked D);
            end = ap (λ (n : ℕ). n + record_size r) size_is;
            bytes = refl;
          },
          K.chain,
        );
        head = rw mark K.head;
        synced = omega (arith, mark, size);
        within = omega (arith, size, next-size plan c (entries_in zs) e);
      })
      (record { is = again e }))
    where
      again : (e : Entry) → apply st e ≡ with_mark (apply st e).mark (replay plan c (log.entries ++ (e ∷ [])))
      again e =
          let r = replay plan c log.entries in
          let m : st ≡ with_mark st.mark r = ((l.servers c).state st log u).is in
          let k : (apply st e).mark ≡ st.mark = unfold apply in (apply-fixed e.item e.end st).2 in
          let j : apply (with_mark st.mark r) e ≡ with_mark st.mark (apply r e) = unfold apply in apply-mark e.item e.end st.mark r in
          ap (λ (x : State). apply x e) m ∙ (j ∙ (ap (with_mark st.mark) (sym (replay-next plan c log.entries e)) ∙ ap (λ (n : ℕ). with_mark n (replay plan c (log.entries ++ (e ∷ [])))) (sym k)))

  -- the mark set
  mark-like : (m : ℕ) → st.mark ≤ m → m ≤ st.size → WorldLike plan (with_server c (running (with_mark m st) log) w) (W.step v (W.server c (W.syncs (place_of zs m))))
  unfolding zs with_mark
  mark-like m low high =
      let K = running-like in
      like-server l c (running (with_mark m st) log) (W.syncs (place_of zs m))
      (like-running (with_mark m st) log (log-marked K v.clock m st.size (omega (arith, K.head)) high K.within) (record { is = ap (with_mark m) ((l.servers c).state st log u).is }))

  -- nothing of the server changes
  still : WorldLike plan (with_server c (running st log) w) v
  still = like-server-same l c (running st log) (like-running st log running-like ((l.servers c).state st log u))

  pub record Followed (o : Operation) (d : Decided) : Type 0 where
    pub change : W.Change
    pub allowed : Allowed plan v change
    pub like : WorldLike plan (making (settle st log d).made (with_server c (running (settle st log d).state (settle st log d).log) w)) (W.step v change)
    pub effect : Effect st o c d change

  pub decided-like : (free : ℕ) (o : Operation) → Handed (Made v) o → (d : Decided) → Shows st free o d
      → Followed o d
  unfolding settle making zs
  decided-like free o H (refuse n) s = record { change = W.same; allowed = P.nothing; like = like-same still; effect = refuses s }
  decided-like free o H (deny n b) s =
      record { change = W.same; allowed = P.nothing; like = like-making (like-same still) b (rw s.1.1 (like_blank s.1.0)); effect = denies s.0 }
  decided-like free o H (reply b) s =
      let K = running-like in
      let T = spoken plan c K.pairs st (W.state_of plan v c) running-alike free o b s in
      record {
        change = W.tells c T.packet;
        allowed = P.telling c T.packet K.founded (rw K.marked T.why);
        like = like-making (like-tells still c T.packet) b (T.like _ (unfold W.step in Memᴰ.head refl));
        effect = replies (reply-some s);
      }
  decided-like free o H (append r) s =
      let K = running-like in
      let T = written plan c K.pairs st (W.state_of plan v c) running-alike free o r s H in
      record {
        change = W.server c (W.writes T.abstract (record_size r));
        allowed = P.writing c T.abstract (record_size r) K.founded T.why;
        like = append-like free r T.abstract T.like T.decides;
        effect = appends T.source;
      }
  decided-like free o H (marks m) s =
      let K = running-like in
      let high : place_of zs m ≤ length (abstract_in zs) = omega (arith, place-most zs m, abstract-length zs) in
      record {
        change = W.server c (W.syncs (place_of zs m));
        allowed = P.syncing c (place_of zs m) K.founded (rw K.marked (place_rises zs st.mark m s.1)) (rw K.same high);
        like = mark-like m s.1 s.2;
        effect = sets s.0;
      }

-- ---- a call

module _ {plan : List PlanEntry} {w : World} {v : W.World} (l : WorldLike plan w v) (c room : ℕ) where
  pub call-follows : (e : Event) (o : Operation) → step w e ≡ calls c room (decision o) (w.servers c) w → Handed (Made v) o
      → (((st : State) (log : Log) → Running (w.servers c) st log → ⊥) → Quiet w e)
      → ((st : State) (log : Log) → Running (w.servers c) st log → (a : W.Change) → Effect st o c (decided_in st room o) a → Matched w v (W.step v a) e a) → Stepped plan w v e
  unfolding call_of
  call-follows e o q H quiet match = go (or-not (w.servers c))
    where
      go : ((st : State) × ((log : Log) × Running (w.servers c) st log)) ⊎ ((st : State) (log : Log) → Running (w.servers c) st log → ⊥) → Stepped plan w v e
      go (inl (st, (log, u))) =
          let F = decided-like l c st log u (room - st.size) o H (decided_in st room o) (call-shown st room o) in
          record {
            change = F.change;
            allowed = F.allowed;
            like = rw (q, calls-up c w room (decision o) (w.servers c) st log u) F.like;
            matched = match st log u F.change F.effect;
          }
      go (inr n) = idle-step l e (q ∙ calls-down c w room (decision o) (w.servers c) n) (quiet n)

-- a packet that is found by its number was made
pub packet_in_lem : {A : Type 0} (l : List A) (n : ℕ) (a : A) → get_elem? l n ≡ some a → Memᴰ a l
packet_in_lem [] n a e = let z : ◌≡◌ {A = ℕ} 0 1 = cc in absurd (omega arith)
packet_in_lem (x ∷ l) zero a e = let z : a ≡ x = cc in Memᴰ.head z
packet_in_lem (x ∷ l) (suc n) a e = Memᴰ.tail (packet_in_lem l n a e)

pub some_same : {A : Type 0} {a b : A} {o : Option A} → o ≡ some a → o ≡ some b → a ≡ b
some_same {A} {a} {b} p q = let e : some a ≡ some b = sym p ∙ q in cc

module _ {plan : List PlanEntry} {w : World} {v : W.World} (l : WorldLike plan w v) (c room : ℕ) (o : OperationOf ℕ) where
  -- the packet that a request names
  request-handed : (p : ℕ) (vs : Versions) (b : List ℕ) → o ≡ Calls.request vs p → packet w p ≡ some b → handed (packet w) o ≡ some (Calls.request vs b)
  unfolding handed
  request-handed p vs b e d = rw (e, d)

  -- o is x with the packet that it names
  module _ (x : Operation) (z : handed (packet w) o ≡ some x) where
    over : HandedOver (packet w) o x
    over = handed-over (packet w) o x z

    made-over : Handed (Made v) x
    unfolding packet
    made-over = over.named (PacketLike (Made v)) (λ n b e. l.made b (packet_in_lem w.made n b e))

    same-request : (p : ℕ) (vs : Versions) (b : List ℕ) → o ≡ Calls.request vs p → packet w p ≡ some b → x ≡ Calls.request vs b
    same-request p vs b e d = some_same z (request-handed p vs b e d)

    -- what an execution leaves, in a running server
    executed-left : (st : State) (log : Log) → Running (w.servers c) st log → (d : Decided) → decided_in st room x ≡ d → (p : ℕ) (vs : Versions) (q : Request) → o ≡ Calls.request vs p
        → Executed w c p vs room q → ((settle st log d).number ≡ 0) × ((settle st log d).made ≡ [])
    unfolding call_of
    executed-left st log u d e p vs q i X =
        let y = running-same (w.servers c) st X.state log X.log u X.up in
        rw (← e, y.0, y.1, same-request p vs X.bytes i X.delivered) (X.no_number, X.no_packet)

    call-matched : (st : State) (log : Log) → Running (w.servers c) st log → (d : Decided) → decided_in st room x ≡ d → (a : W.Change) → Effect st x c d a
        → Matched w v (W.step v a) (R.call c o room) a
    unfolding settle Quiet call_of
    call-matched st log u d e a (refuses k) = other (R.call c o room) W.same (λ p vs q i X. k (executed-left st log u d e p vs q i X).0) tt
    call-matched st log u d e a (denies k) = other (R.call c o room) W.same (λ p vs q i X. k (executed-left st log u d e p vs q i X).0) tt
    call-matched st log u d e a (replies {p = t} k) = other (R.call c o room) (W.tells c t) (λ p vs q i X. k (executed-left st log u d e p vs q i X).1) tt
    call-matched st log u d e a (appends (execution vs b q r i p t h)) =
        let n = over.requests vs b i in
        rw (h, n.1)
        (executed c n.0 vs room q r _
        (record {
          state = st;
          log = log;
          up = u;
          bytes = b;
          delivered = n.2;
          no_number = subst (λ (y : Operation). (settle st log (decided_in st room y)).number ≡ 0) i (ap (λ (y : Decided). (settle st log y).number) e);
          no_packet = subst (λ (y : Operation). (settle st log (decided_in st room y)).made ≡ []) i (ap (λ (y : Decided). (settle st log y).made) e);
          parsed = p;
        }) t)
    call-matched st log u d e a (appends (no_execution n h)) = other (R.call c o room) a (λ p vs q i X. n vs X.bytes (same-request p vs X.bytes i X.delivered)) h
    call-matched st log u d e a (sets {m = m} k) =
        other (R.call c o room) a
        (λ p vs q i X.
        let y : Calls.sync m ≡ Calls.request vs X.bytes = sym k ∙ same-request p vs X.bytes i X.delivered in
        let t : ◌≡◌ {A = ℕ} 0 1 = cc in
        omega arith) tt

  pub call_step : Stepped plan w v (R.call c o room)
  unfolding step calls_on Quiet
  call_step = go (handed (packet w) o) refl
    where
      go : (u : Option Operation) → handed (packet w) o ≡ u → Stepped plan w v (R.call c o room)
      go none z =
          idle-step l (R.call c o room) (rw z)
          (λ p vs q e X.
          let y : none ≡ some (Calls.request vs X.bytes) = sym z ∙ request-handed p vs X.bytes e X.delivered in
          let t : ◌≡◌ {A = ℕ} 0 1 = cc in
          omega arith)
      go (some x) z =
          call-follows l c room (R.call c o room) x (rw z) (made-over x z) (λ k p vs q e X. k X.state X.log X.up) (λ st log u a E. call-matched x z st log u _ refl a E)
