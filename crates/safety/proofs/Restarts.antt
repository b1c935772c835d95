-- Crash, Found and both recoveries leave both worlds alike.
--     crash-alike, found_alike, recover-alike, recover-tail-alike
-- Assumes nothing.
use Prim.Native.Nat.{ℕ, ◌+◌, ◌≤◌}
use mathlib.Core.Path.{◌≡◌, refl, sym, ◌∙◌, ap, subst}
use mathlib.Core.Bool.{true}
use mathlib.Core.List.{List, [], ◌++◌, append-nil, append_assoc}
use mathlib.Core.Option.{Option, none, some}
use native.Mathlib.Omega.{arith}
use lib.ListN.{length, take, length-take}
use lib.Seq.{take_at}
use lib.Dec.{ltb}
use borrow.Author.Tests.{le-ltb, ltb-false}
use Rattle.model.specs.Limits.{last_server, state_size, head_size}
use Rattle.model.specs.Plan.{plan_ok, plan_of}
use Rattle.model.specs.Tables.{written}
use Rattle.model.specs.Logs.{Entry, head_bytes, entries_bytes}
use Rattle.model.specs.States.{State, load}
use Rattle.model.specs.Apply.{founded, replay_from, with_mark}
use Rattle.model.specs.Operations.{After, answer_of, after, settle, left_unless, stored, found_of, recover_of, recovered, recovered_state, settle_recovered}
use Rattle.model.specs.Checkpoints.{placed, recovered_tail, recover_tail_refusal, recover_tail_of}
use Rattle.model.specs.Refusals.{too_short, bad_log, no_refusal}
use Rattle.model_laws.specs.Bytes.{Bytes}
use Rattle.model_laws.specs.Fits.{last_end}
use Rattle.model_laws.proofs.Tests.{choose}
use Rattle.model_laws.proofs.Numbers.{bytes-nil}
use Rattle.model_laws.proofs.Logs.{log-length}
use Rattle.model_invariants.specs.Sound.{Sound}
use Rattle.model_invariants.specs.History.{GoodPlan, Start}
use Rattle.model_invariants.specs.Calls as Limits
use Rattle.model_invariants.specs.Placed.{seen_from, later}
use Rattle.model_invariants.proofs.Steps.{sound-mark}
use Rattle.model_invariants.proofs.Kept.{founded-start, founded-sound}
use Rattle.model_invariants.proofs.Recovery.{recovers}
use Rattle.model_invariants.proofs.Crash.{decided-from}
use Rattle.model_invariants.proofs.Loaded.{stored-sound, stored-load}
use Rattle.model_invariants.proofs.Calls.{found_elim, recover_elim}
use Rattle.model_invariants.proofs.Running.{founded-holds}
use Rattle.model_invariants.proofs.Seen.{seen-founded}
use Rattle.claim.specs.World.{found_as, with_server}
use Rattle.claim.specs.World as B
use Rattle.claim.specs.Provisos as BP
use Rattle.claim.specs.Claim.{recovered_by}
use Rattle.claim.specs.RecordWorld as R
use Rattle.safety.specs.Holds.{Holds, Kept}
use Rattle.safety.specs.Alike.{first, Continues, RunningAlike, ServerAlike, nothing, running, storing, crashed, Both}
use Rattle.proof_records.specs.Provided.{FoundOk}
use Rattle.safety.specs.Allowed.{RecoverOk, RecoverTailOk}
use Rattle.safety.specs.Decoded.{plan_if, place_of}
use Rattle.safety.proofs.Facts.{held}
use Rattle.safety.proofs.Crashes.{holds_kept, crash-again}
use Rattle.safety.proofs.Tails.{Whole, whole-recovers, cut-continues, in_force, in_force_slice}
use Rattle.safety.proofs.Calls.{length-stored, stored_bytes_lem}
use Rattle.safety.proofs.Worlds.{alike-server, running-mark, running-size}
use Rattle.safety.proofs.Parties.{parties-server}

-- a server changes, in both worlds
pub both-server : {plan : List ℕ} {r : R.World} {b : B.World} → Both plan r b → (c : ℕ) (s : R.Server) (t : B.Server) → ServerAlike plan c s t
    → Both plan (with_server c s r) (with_server c t b)
both-server l c s t k = record { alike = alike-server l.alike c s t k; parties = parties-server l.parties c s }

-- a state that is stored in a buffer, beside a log that opens with the entries
pub started : {start : State} (es : List Entry) (state : List ℕ) (st : State) (log : List ℕ) → Start start → Sound st → Bytes state → state_size ≤ length state
    → Limits.Holds start es (stored state st) log
    → Holds start es (stored state st) (take (load (stored state st)).size log) × (load (stored state st) ≡ st)
started {start} es state st log from S b l H =
    let s : List ℕ = stored state st in
    let k = held from s [] log [] H (stored_bytes_lem state st S b) bytes-nil (rw (length-stored state st) (omega arith)) (rw (append-nil s, length-stored state st) l) in
    (rw (append-nil s, append-nil log) at k.0, stored-load state st S (omega arith))

-- ---- crash

module _ {plan : List ℕ} {r : R.World} {b : B.World} (l : Both plan r b) (c n : ℕ) where
  -- what a crash keeps of a log that is synced up to a mark
  cut : {log : R.Log} {k : B.Stored} {start : State} {tail : List Entry} {kept : List ℕ} {keptMark : ℕ} (mark : ℕ) → Continues plan c k log start tail
      → Kept start tail kept keptMark → k.replaced + keptMark ≡ mark → keptMark ≤ n → n ≤ length kept
      → Both plan (with_server c (R.crashed (R.cut_at (k.replaced + n) log) (k.replaced + n) mark) r) (with_server c (B.crashed k (take n kept) keptMark) b)
  cut {k = k} {start = start} {tail = tail} {kept = kept} mark C K m low high =
      both-server l c _ _
      (crashed (record {
        start = start;
        tail = _;
        continues = cut-continues C n (omega (arith, K.head));
        keeps = crash-again K n low high;
        reaches = ap (λ (x : ℕ). k.replaced + x) (omega (arith, length-take n kept));
        marked = m;
      }))

  pub crash-alike : BP.mark_of (b.servers c) ≤ n → n ≤ BP.length_of (b.servers c)
      → Both plan (R.crash_at c (place_of (b.servers c) n) (r.servers c) r) (B.crash_at c n (b.servers c) b)
  unfolding R.crash_at B.crash_at BP.mark_of BP.length_of place_of B.stored_of
  crash-alike = go (l.alike.servers c)
    where
      go : {x : R.Server} {y : B.Server} → ServerAlike plan c x y → BP.mark_of y ≤ n → n ≤ BP.length_of y → Both plan (R.crash_at c (place_of y n) x r) (B.crash_at c n y b)
      go nothing low high = l
      go (running {st = st} K) low high = cut st.mark K.continues (holds_kept K.holds) (sym (running-mark K)) low high
      go (storing {st = st} {k = k} {old = old} {bytes = bytes} K e L) low high =
          let same : (load old).mark ≡ length bytes = omega (arith, running-mark K, running-size K, e) in
          cut st.mark K.continues (subst (λ (m : ℕ). Kept K.start K.tail bytes m) same (holds_kept K.holds)) (sym (e ∙ running-size K)) low high
      go (crashed {mark = mark} K) low high = cut mark K.continues K.keeps K.marked low high

-- ---- found

-- a founded server: its log is whole
begun : (p : List ℕ) (n : ℕ) → plan_ok p ≡ true → (state bytes : List ℕ) → Holds (founded (plan_of p) n) [] state bytes → load state ≡ founded (plan_of p) n
    → RunningAlike p n (founded (plan_of p) n) (record { number = n; entries = [] }) B.nothing_stored state bytes
unfolding founded recovered later
begun p n ok state bytes H e =
    let same = seen-founded (plan_of p) n in
    record {
      start = founded (plan_of p) n;
      tail = [];
      continues =
          record {
            planned = ok;
            number = refl;
            before = [];
            entries = refl;
            early = tt;
            base = founded (plan_of p) n;
            replays = refl;
            size = refl;
            begins = sym same;
            gives = first refl;
          };
      holds = H;
      loads = e ∙ sym same;
      past = omega arith;
      mark = omega arith;
    }

module _ (plan : List ℕ) {r : R.World} {b : B.World} (l : Both plan r b) (c : ℕ) where
  pub found_alike : (state log p : List ℕ) (n : ℕ) → Bytes state → Bytes p → ((found_of state log p n).answer.refusal ≡ no_refusal → FoundOk plan B.nothing (b.servers c) c p n)
      → Both plan (R.founds c n (R.found_of (plan_if (found_of state log p n) p) n) r) (found_as c B.nothing_stored (found_of state log p n) b)
  unfolding plan_if plan_ok found_as R.founds R.found_of
  found_alike state log p n h bytes =
      found_elim
      (λ a. (a.answer.refusal ≡ no_refusal → FoundOk plan B.nothing (b.servers c) c p n)
      → Both plan (R.founds c n (R.found_of (plan_if a p) n) r) (found_as c B.nothing_stored a b))
      state log p n bytes (λ f. l) (λ f. l)
      (λ i j g ok m f.
      let F = f refl in
      rw (ok, le-ltb last_server n m) (both-server l c _ _ (running (here F (founds i j g ok m)))))
    where
      st : State
      st = founded (plan_of p) n

      founds : state_size ≤ length state → head_size ≤ length log → GoodPlan (plan_of p) → plan_ok p ≡ true → n ≤ last_server
          → RunningAlike p n st (record { number = n; entries = [] }) B.nothing_stored (stored state st) (take (load (stored state st)).size (written log 0 (head_bytes n)))
      founds i j g ok m =
          let x = started [] state st (written log 0 (head_bytes n)) (founded-start (plan_of p) n g m) (founded-sound (plan_of p) n g m) h i (founded-holds (plan_of p) n g m state log i j) in
          begun p n ok (stored state st) _ x.0 x.1

      here : FoundOk plan B.nothing (b.servers c) c p n → {state bytes : List ℕ} → RunningAlike p n st (record { number = n; entries = [] }) B.nothing_stored state bytes
          → RunningAlike plan c st (record { number = n; entries = [] }) B.nothing_stored state bytes
      here F {state} {bytes} K =
          subst (λ (q : List ℕ). RunningAlike q c st (record { number = n; entries = [] }) B.nothing_stored state bytes) F.one-plan
          (subst (λ (k : ℕ). RunningAlike p k st (record { number = n; entries = [] }) B.nothing_stored state bytes) F.own-number K)

-- ---- recover

-- 2, 14, or the state that checkpoint and tail give
tail_elim : (P : After → Type 0) (state k tail : List ℕ) → P (after (answer_of too_short 0) state tail []) → P (after (answer_of bad_log 0) state tail [])
    → ((st : State) → state_size ≤ length state → recovered_tail k tail ≡ some st → P (after (answer_of no_refusal 0) (stored state (with_mark st.size st)) tail []))
    → P (recover_tail_of state k tail)
unfolding recover_tail_of recover_tail_refusal left_unless settle settle_recovered
tail_elim P state k tail two fourteen f =
    choose (λ (m : ℕ). P (left_unless m state tail (settle_recovered state tail (recovered_tail k tail)))) (ltb (length state) state_size) (λ e. two)
    (λ e. go (recovered_tail k tail) refl (ltb-false _ _ e))
  where
    go : (o : Option State) → recovered_tail k tail ≡ o → state_size ≤ length state → P (settle_recovered state tail o)
    go none r l = fourteen
    go (some st) r l = f st l r

module _ (plan : List ℕ) {r : R.World} {b : B.World} (l : Both plan r b) (c : ℕ) (state : List ℕ) (h : Bytes state) where
  -- a server that recovery starts: the mark is the end of the whole records, and the incomplete rest goes
  from-kept : {k : B.Stored} {log : R.Log} {start : State} {es : List Entry} {kept : List ℕ} {mark : ℕ} (C : Continues plan c k log start es) (K : Kept start es kept mark)
      → state_size ≤ length state → (st : State) → st ≡ replay_from start es → (W : Whole plan k.replaced log (replay_from start es))
      → RunningAlike plan c (with_mark W.state.size W.state) log k (stored state (with_mark st.size st)) (take (load (stored state (with_mark st.size st))).size kept)
  unfolding with_mark seen_from placed
  from-kept {k} {log} {start} {es} {kept} C K long st e W =
      let n : ℕ = start.server in
      let S : Sound st = subst Sound (sym e) (recovers K.from es K.decided).sound in
      let M : Sound (with_mark st.size st) = sound-mark st st.size S S.mark (omega arith) in
      let q : load (stored state (with_mark st.size st)) ≡ with_mark st.size st = stored-load state (with_mark st.size st) M (omega arith) in
      let m : length (head_bytes n ++ entries_bytes es) ≡ last_end head_size es = log-length n es (decided-from K.from es K.decided) in
      let x = started es state (with_mark st.size st) kept K.from M h long
      (record {
        decided = K.decided;
        sound = stored-sound state (with_mark st.size st) M (omega arith);
        same = q ∙ ap (λ (x : State). with_mark st.size x) e ∙ ap (λ (x : ℕ). with_mark x (replay_from start es)) (sym (ap (λ (x : State). x.mark) q));
        logged =
            ap (take (last_end head_size es)) (K.logged ∙ sym (append_assoc (head_bytes n) (entries_bytes es) K.rest))
            ∙ take_at (head_bytes n ++ entries_bytes es) K.rest (last_end head_size es) m;
      }) in
      record {
        start = start;
        tail = es;
        continues = C;
        holds = x.0;
        loads = x.1 ∙ ap (λ (z : State). with_mark z.size z) (e ∙ W.seen);
        past = omega (arith, W.size, S.head, S.mark, ap (λ (z : State). z.size) e);
        mark = omega arith;
      }

  -- the server recovered, in both worlds
  recovered-alike : {k : B.Stored} {log : R.Log} {start : State} {es : List Entry} {kept : List ℕ} {mark : ℕ} → Continues plan c k log start es → Kept start es kept mark
      → state_size ≤ length state → (st : State) → st ≡ replay_from start es
      → Both plan (R.recovers_to c log (R.recover_of plan log) r)
      (with_server c (B.running k (stored state (with_mark st.size st)) (take (load (stored state (with_mark st.size st))).size kept)) b)
  unfolding R.recovers_to R.recover_of
  recovered-alike C K long st e =
      let W = whole-recovers C K in
      rw (C.planned, W.recovers) (both-server l c _ _ (running (from-kept C K long st e W)))

  -- no plan
  none_from : (o : Option R.Log) → Both plan (R.recovers_from c [] o r) b
  unfolding R.recovers_from R.recovers_to R.recover_of plan_ok
  none_from none = l
  none_from (some g) = l

  -- from what server c has kept; G: what the recovery at hand gives
  from-server : (log : List ℕ) (st : State) → BP.kept_by (b.servers c) ≡ some log → state_size ≤ length state
      → ((k : B.Stored) (g : R.Log) (start : State) (es : List Entry) (mark : ℕ) → k ≡ B.stored_of (b.servers c) → Continues plan c k g start es → Kept start es log mark → st ≡ replay_from start es)
      → Both plan (R.recovers_from c plan (R.kept_by (r.servers c)) r)
      (with_server c (B.running (B.stored_of (b.servers c)) (stored state (with_mark st.size st)) (take (load (stored state (with_mark st.size st))).size log)) b)
  unfolding R.recovers_from R.kept_by BP.kept_by B.stored_of
  from-server log st = go (l.alike.servers c)
    where
      go : {x : R.Server} {y : B.Server} → ServerAlike plan c x y → BP.kept_by y ≡ some log → state_size ≤ length state
          → ((k : B.Stored) (g : R.Log) (start : State) (es : List Entry) (mark : ℕ) → k ≡ B.stored_of y → Continues plan c k g start es → Kept start es log mark → st ≡ replay_from start es)
          → Both plan (R.recovers_from c plan (R.kept_by x) r)
          (with_server c (B.running (B.stored_of y) (stored state (with_mark st.size st)) (take (load (stored state (with_mark st.size st))).size log)) b)
      go nothing q long G = let z : ◌≡◌ {A = ℕ} 0 1 = cc in absurd (omega arith)
      go (running {state = old} {bytes = bytes} K) q long G =
          let z : bytes ≡ log = cc in
          let J = subst (λ (s : List ℕ). Kept K.start K.tail s (load old).mark) z (holds_kept K.holds) in
          recovered-alike K.continues J long st (G _ _ _ _ _ refl K.continues J)
      go (storing K e L) q long G = let z : ◌≡◌ {A = ℕ} 0 1 = cc in absurd (omega arith)
      go (crashed {kept = kept} {keptMark = mark} K) q long G =
          let z : kept ≡ log = cc in
          let J = subst (λ (s : List ℕ). Kept K.start K.tail s mark) z K.keeps in
          recovered-alike K.continues J long st (G _ _ _ _ _ refl K.continues J)

  same : {x y : State} → some x ≡ some y → x ≡ y
  same p = cc

  pub recover-alike : (log p : List ℕ) → ((recover_of state log p).answer.refusal ≡ no_refusal → RecoverOk plan (b.servers c) log p)
      → Both plan (R.recovers_from c (plan_if (recover_of state log p) p) (R.kept_by (r.servers c)) r) (found_as c (B.stored_of (b.servers c)) (recover_of state log p) b)
  unfolding plan_if found_as
  recover-alike log p =
      recover_elim
      (λ a. (a.answer.refusal ≡ no_refusal → RecoverOk plan (b.servers c) log p)
      → Both plan (R.recovers_from c (plan_if a p) (R.kept_by (r.servers c)) r) (found_as c (B.stored_of (b.servers c)) a b))
      state log p (λ f. none_from (R.kept_by (r.servers c))) (λ f. none_from (R.kept_by (r.servers c))) (λ f. none_from (R.kept_by (r.servers c)))
      (λ st long ok e f.
      let F = f refl in
      rw F.one-plan (from-server log st F.uses long
      (λ k g start es mark q C K. same (sym (rw F.one-plan at e) ∙ by_log log k.checkpoint (ap (λ (x : B.Stored). x.checkpoint) q ∙ F.first) (in_force plan K C.gives)))))
    where
      by_log : (log : List ℕ) {now : State} (k : List ℕ) → k ≡ [] → recovered_by plan k log ≡ some now → recovered_state (plan_of plan) log ≡ some now
      by_log log k e x = unfold recovered_by in rw e at x

  pub recover-tail-alike : (k tail : List ℕ) → ((recover_tail_of state k tail).answer.refusal ≡ no_refusal → RecoverTailOk (b.servers c) k tail)
      → Both plan (R.recovers_from c (plan_if (recover_tail_of state k tail) plan) (R.kept_by (r.servers c)) r) (found_as c (B.stored_of (b.servers c)) (recover_tail_of state k tail) b)
  unfolding plan_if found_as
  recover-tail-alike k tail =
      tail_elim
      (λ a. (a.answer.refusal ≡ no_refusal → RecoverTailOk (b.servers c) k tail)
      → Both plan (R.recovers_from c (plan_if a plan) (R.kept_by (r.servers c)) r) (found_as c (B.stored_of (b.servers c)) a b))
      state k tail (λ f. none_from (R.kept_by (r.servers c))) (λ f. none_from (R.kept_by (r.servers c)))
      (λ st long e f.
      let F = f refl in
      from-server tail st F.uses long
      (λ j g start es mark q C K. same (sym e ∙ in_force_slice plan K C.gives k (subst (λ (x : B.Stored). BP.Begins x.checkpoint k) (sym q) F.begins))))
