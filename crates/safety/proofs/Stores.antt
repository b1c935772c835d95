-- A checkpoint made and stored, and a call that only reads, leave both worlds alike: over records nothing changes.
--     checkpoint-alike, store-alike, look_alike
-- Assumes nothing.
use Prim.Native.Nat.{ℕ, ◌+◌, ◌-◌, ◌≤◌}
use mathlib.Core.Path.{◌≡◌, refl, sym, ◌∙◌, ap, subst}
use mathlib.Core.Bool.{Bool, true, false}
use mathlib.Core.List.{List, [], ◌∷◌, ◌++◌, append-nil}
use mathlib.Core.Option.{some}
use native.Mathlib.Omega.{arith}
use lib.Dec.{eqb}
use lib.ListN.{length, take, drop}
use lib.Seq.{take-append_seam, length_front}
use borrow.Author.Tests.{ne_eqb}
use Rattle.model.specs.Choice.{pick}
use Rattle.model.specs.Limits.{head_size}
use Rattle.model.specs.Plan.{plan_of}
use Rattle.model.specs.Tables.{written}
use Rattle.model.specs.Logs.{Entry, head_bytes, entries_bytes}
use Rattle.model.specs.States.{State, load, state_end}
use Rattle.model.specs.Apply.{founded, replay_from, with_mark}
use Rattle.model.specs.Versions.{Versions}
use Rattle.model.specs.Decisions.{Decided, timed_by}
use Rattle.model.specs.Operations.{After, stored, recovered}
use Rattle.model.specs.Checkpoints.{placed, end_before, rebased, checkpoint_bytes, AfterCheckpoint}
use Rattle.model.specs.Refusals.{no_refusal}
use Rattle.model_laws.specs.Bytes.{All}
use Rattle.model_laws.specs.Fits.{EntriesFrom, last_end}
use Rattle.model_laws.proofs.Tables.{all_append}
use Rattle.model_laws.proofs.Numbers.{bytes_drop}
use Rattle.model_laws.proofs.Written.{written-front}
use Rattle.model_invariants.specs.Sound.{Sound}
use Rattle.model_invariants.specs.History as History
use Rattle.model_invariants.specs.Calls as Limits
use Rattle.model_invariants.specs.Placed.{local, seen_from, later}
use Rattle.model_invariants.specs.Passed.{PassedCheckpoint}
use Rattle.model_invariants.proofs.Tests.{times-fit}
use Rattle.model_invariants.proofs.Recovery.{recovers}
use Rattle.model_invariants.proofs.Crash.{decided-from}
use Rattle.model_invariants.proofs.Loaded.{stored-sound, stored-load}
use Rattle.model_invariants.proofs.Placed.{placed-placed, placed_any}
use Rattle.model_invariants.proofs.Seen.{rebased-whole}
use Rattle.model_invariants.proofs.TailEquals.{rebase_mark}
use Rattle.model_invariants.proofs.Checkpoints.{rebased_sound64, checkpoint-fits}
use Rattle.model_invariants.proofs.TailCalls.{checkpoint_elim}
use Rattle.claim.specs.World.{with_server, lent_state, lent_log}
use Rattle.claim.specs.World as B
use Rattle.claim.specs.RecordWorld as R
use Rattle.safety.specs.Alike.{LocalAlike, stored as storedState, Continues, RunningAlike, ServerAlike, nothing, running, storing, crashed, Both}
use Rattle.safety.proofs.Facts.{held, holds-sound, holds-size}
use Rattle.safety.proofs.Crashes.{holds_kept}
use Rattle.safety.proofs.Tails.{Whole, whole-recovers}
use Rattle.safety.proofs.Calls.{length-stored, stored_bytes_lem, same-state, same_log, lent-load, lent-bytes}
use Rattle.safety.proofs.Called.{idle-server, refused-call}
use Rattle.safety.proofs.Restarts.{both-server}
use Rattle.safety.proofs.Worlds.{running-mark, running-size}

-- ---- places

local-local : (b d e : ℕ) → local d (local b e) ≡ local (b + d) e
unfolding local
local-local b d e = go (eqb e 0) refl
  where
    go : (p : Bool) → eqb e 0 ≡ p → local d (pick p 0 (head_size + (e - (b + head_size)))) ≡ pick p 0 (head_size + (e - (b + d + head_size)))
    go true q = refl
    go false q = rw (ne_eqb (head_size + (e - (b + head_size))) 0 (λ z. omega (arith, z))) (omega arith)

seen-seen : (b d : ℕ) (st : State) → seen_from d (seen_from b st) ≡ seen_from (b + d) st
unfolding seen_from
seen-seen b d st = placed-placed (local d) (local b) st ∙ placed_any (λ (e : ℕ). local d (local b e)) (local (b + d)) (local-local b d) st

-- the ends of entries lie before the last one
ends_within : (k : ℕ) (es : List Entry) → EntriesFrom k es → (k ≤ last_end k es) × All (λ (e : Entry). e.end ≤ last_end k es) es
unfolding last_end
ends_within k [] f = (omega arith, tt)
ends_within k (e ∷ es) f =
    let x = ends_within e.end es f.1 in
    (omega (arith, x.0, f.0.end), (x.0, x.1))

early-later : (b n : ℕ) (es : List Entry) → All (λ (e : Entry). e.end ≤ n) es → All (λ (e : Entry). e.end ≤ b + n) (later b es)
unfolding later
early-later b n [] a = tt
early-later b n (e ∷ es) a = (omega (arith, a.0), early-later b n es a.1)

early-more : (m n : ℕ) → m ≤ n → (es : List Entry) → All (λ (e : Entry). e.end ≤ m) es → All (λ (e : Entry). e.end ≤ n) es
early-more m n h [] a = tt
early-more m n h (e ∷ es) a = (omega (arith, h, a.0), early-more m n h es a.1)

-- ---- what a checkpoint leaves

module _ {plan : List ℕ} {c : ℕ} {st : State} {log : R.Log} {k : B.Stored} {state bytes : List ℕ} (K : RunningAlike plan c st log k state bytes) (v : Versions) (t : B.Lent) (tail : List ℕ)
    (P : PassedCheckpoint (lent_state t state) t.out tail) where
  abbrev front : List ℕ
  front = lent_state t state

  -- the state before the call, by the server's own log
  abbrev now : State
  now = load state

  abbrev own : R.Log
  own = record { number = log.number; entries = K.tail }

  abbrev local-alike : LocalAlike K.start now own state bytes
  local-alike = record { holds = K.holds; loads = refl }

  lent_same : load front ≡ now
  lent_same = lent-load {log = own} local-alike t P.whole

  good : Sound now
  good = holds-sound K.holds

  -- bytes of records that this checkpoint replaces
  abbrev more : ℕ
  more = length bytes - head_size

  long : more + head_size ≡ now.size
  long = omega (arith, holds-size K.holds, good.head, good.mark)

  pub all_synced : st.mark ≡ st.size
  all_synced =
      let s : (load front).size ≤ (load front).mark = P.synced in
      let z : now.size ≤ now.mark = rw lent_same at s in
      omega (arith, z, good.mark, running-mark K, running-size K, holds-size K.holds)

  abbrev next : B.Stored
  next = record { checkpoint = checkpoint_bytes (timed_by v now) now; replaced = k.replaced + more }

  -- the state that the call leaves, as the whole log has it
  rebased_now : rebased now ≡ seen_from more now
  rebased_now = rebased-whole now good ∙ ap (λ (n : ℕ). seen_from n now) (omega (arith, long))

  loads-next : rebased now ≡ seen_from (k.replaced + more) st
  loads-next = rebased_now ∙ ap (seen_from more) K.loads ∙ seen-seen k.replaced more st

  -- and as the replay of the whole log has it
  replay : State
  replay = replay_from K.start K.tail

  now_replay : now ≡ with_mark now.mark replay
  unfolding replay
  now_replay = K.holds.opens.same

  begins-next : (W : Whole plan k.replaced log replay) → Sound replay → rebased now ≡ seen_from (k.replaced + more) W.state
  unfolding with_mark
  begins-next W S =
      let same : rebased now ≡ rebased replay = ap rebased now_replay ∙ rebase_mark now.mark replay (omega (arith, good.head)) (omega (arith, S.head)) in
      let size : now.size ≡ replay.size = ap (λ (x : State). x.size) now_replay in
      same ∙ rebased-whole replay S ∙ ap (λ (n : ℕ). seen_from n replay) (omega (arith, long, size)) ∙ ap (seen_from more) W.seen ∙ seen-seen k.replaced more W.state

  -- the log before the checkpoint, all of it
  early-next : All (λ (e : Entry). e.end ≤ k.replaced + more + head_size) log.entries
  early-next =
      let C = K.continues in
      let E = ends_within head_size K.tail (decided-from K.holds.from K.tail K.holds.opens.decided) in
      let end : last_end head_size K.tail ≡ more + head_size = omega (arith, K.holds.end, long, holds-size K.holds) in
      let n : ℕ = k.replaced + more + head_size in
      let i = early-more (k.replaced + head_size) n (omega arith) C.before C.early in
      let j = early-more (k.replaced + last_end head_size K.tail) n (omega (arith, end)) (later k.replaced K.tail) (early-later k.replaced (last_end head_size K.tail) K.tail E.1) in
      subst (All (λ (e : Entry). e.end ≤ n)) (sym C.entries) (all_append (λ (e : Entry). e.end ≤ n) C.before (later k.replaced K.tail) i j)

  whole_from : {x : State} → log.number ≡ c → R.recovered_from plan log ≡ some x → recovered (founded (plan_of plan) c) log.entries ≡ some x
  unfolding R.recovered_from
  whole_from e r = ap (λ (n : ℕ). recovered (founded (plan_of plan) n) log.entries) (sym e) ∙ r

  continues-next : Continues plan c next log (rebased now) []
  unfolding later replay
  continues-next =
      let C = K.continues in
      let W = whole-recovers C (holds_kept K.holds) in
      let S = (recovers K.holds.from K.tail K.holds.opens.decided).sound in
      let size : now.size ≡ replay.size = unfold with_mark in ap (λ (x : State). x.size) now_replay in
      record {
        planned = C.planned;
        number = C.number;
        before = log.entries;
        entries = sym (append-nil log.entries);
        early = early-next;
        base = W.state;
        replays = whole_from C.number W.recovers;
        size = omega (arith, W.size, size, long);
        begins = begins-next W S;
        gives = storedState (timed_by v now) good (times-fit v now good) refl;
      }

  -- the buffers that the call leaves
  abbrev left : List ℕ
  left = stored front (rebased now)

  abbrev headed : List ℕ
  headed = written tail 0 (head_bytes now.server)

  enough : state_end ≤ length front
  enough = omega (arith, P.whole)

  rebased-good : Sound (rebased now)
  rebased-good = rebased_sound64 now good

  rebased-size : (rebased now).size ≡ head_size
  unfolding rebased placed end_before
  rebased-size = rw (ne_eqb now.size 0 (λ z. omega (arith, z, good.head, good.mark)))

  head-front : take head_size headed ≡ head_bytes now.server
  unfolding head_bytes
  head-front = rw (written-front tail (head_bytes now.server) (omega (arith, P.head))) (take-append_seam (head_bytes now.server) (drop head_size tail))

  logged-next : take (last_end head_size []) headed ≡ head_bytes (rebased now).server ++ entries_bytes []
  unfolding last_end entries_bytes rebased placed
  logged-next = head-front ∙ sym (append-nil (head_bytes now.server))

  opens-next : Limits.Holds (rebased now) [] left headed
  unfolding replay_from with_mark
  opens-next =
      let e : load left ≡ rebased now = stored-load front (rebased now) rebased-good enough in
      record {
        decided = History.none;
        sound = stored-sound front (rebased now) rebased-good enough;
        same = e ∙ ap (λ (m : ℕ). with_mark m (rebased now)) (sym (ap (λ (x : State). x.mark) e));
        logged = logged-next;
      }

  pub runs-next : RunningAlike plan c st log next (left ++ drop t.state state) (take head_size headed)
  unfolding lent_state
  runs-next =
      let h = held (record { sound = rebased-good; empty = rebased-size }) left (drop t.state state) headed [] opens-next
      (stored_bytes_lem front (rebased now) rebased-good (lent-bytes {log = own} local-alike t P.whole)) (bytes_drop t.state state K.holds.bytes)
      (rw (length-stored front (rebased now)) enough) (rw (length_front state left t.state (length-stored front (rebased now))) K.holds.long) in
      let e : load (left ++ drop t.state state) ≡ rebased now = h.1 ∙ stored-load front (rebased now) rebased-good enough in
      let size : (load (left ++ drop t.state state)).size ≡ head_size = ap (λ (x : State). x.size) e ∙ rebased-size in
      record {
        start = rebased now;
        tail = [];
        continues = continues-next;
        holds = rw (size, append-nil headed) at h.0;
        loads = e ∙ loads-next;
        past = omega (arith, running-size K, all_synced, long, holds-size K.holds);
        mark = omega (arith, all_synced);
      }

-- ---- the worlds

module _ {plan : List ℕ} {r : R.World} {b : B.World} (l : Both plan r b) (c : ℕ) (d : State → ℕ → Decided) where
  -- a server that runs over records becomes another over bytes
  becomes : {st : State} {log : R.Log} (t : B.Server) → 1 ≤ st.size → ServerAlike plan c (R.running st log) t → Both plan (R.calls c 0 d (R.running st log) r) (with_server c t b)
  becomes {st} {log} t h k = rw (refused-call c d st log r h) (both-server l c (R.running st log) t k)

  pub store-alike : Both plan (R.calls c 0 d (r.servers c) r) (B.stores c (b.servers c) b)
  unfolding R.calls B.stores
  store-alike = go (r.servers c) (b.servers c) (l.alike.servers c) (l.alike.servers c)
    where
      go : (x : R.Server) (y : B.Server) → ServerAlike plan c x y → ServerAlike plan c x (b.servers c) → Both plan (R.calls c 0 d x r) (B.stores c y b)
      go x y nothing k = l
      go x y (running {st = st} {log = log} K) k = rw (refused-call c d st log r (omega (arith, K.past, K.mark))) (idle-server l c (R.running st log) k)
      go x y (storing {next = next} {state = state} {tail = tail} K e L) k = becomes (B.running next state tail) (omega (arith, K.past, K.mark)) (running L)
      go x y (crashed K) k = l

  -- a checkpoint made, or refused
  makes : (v : Versions) (t : B.Lent) (tail : List ℕ) {st : State} {log : R.Log} {k : B.Stored} {state bytes : List ℕ} → RunningAlike plan c st log k state bytes
      → ServerAlike plan c (R.running st log) (b.servers c) → Both plan (R.calls c 0 d (R.running st log) r) (B.checkpoints c v tail t (B.running k state bytes) b)
  unfolding B.checkpoints
  makes v t tail {st} {log} {k} {state} {bytes} K here =
      let low : 1 ≤ st.size = omega (arith, K.past, K.mark) in
      let front : List ℕ = lent_state t state in
      let next : AfterCheckpoint → B.Stored
      = λ (a : AfterCheckpoint). record { checkpoint = take a.answer.wrote a.checkpoint; replaced = k.replaced + (length bytes - head_size) } in
      checkpoint_elim v front (lent_log t bytes) t.out tail
      (λ a. Both plan (R.calls c 0 d (R.running st log) r)
      (pick (eqb a.answer.refusal no_refusal) (with_server c (B.storing k bytes (next a) (a.state ++ drop t.state state) (take head_size a.tail)) b) b))
      (λ n h. rw (ne_eqb n no_refusal (λ z. omega (arith, h, z)), refused-call c d st log r low) (idle-server l c (R.running st log) here))
      (λ P.
      let same : load front ≡ load state = lent_same K v t tail P in
      let S : Sound (load state) = holds-sound K.holds in
      let made : List ℕ = checkpoint_bytes (timed_by v (load state)) (load state) in
      let cut : take (length made) (written t.out 0 made) ≡ made
      = rw (written-front t.out made (omega (arith, checkpoint-fits (timed_by v (load state)) (load state) S, P.room))) (take-append_seam made (drop (length made) t.out)) in
      rw (same, cut) (becomes _ low (storing K (all_synced K v t tail P) (runs-next K v t tail P))))

  pub checkpoint-alike : (v : Versions) (t : B.Lent) (tail : List ℕ) → Both plan (R.calls c 0 d (r.servers c) r) (B.checkpoints c v tail t (b.servers c) b)
  unfolding R.calls
  checkpoint-alike v t tail = go (r.servers c) (b.servers c) (l.alike.servers c) (l.alike.servers c)
    where
      go : (x : R.Server) (y : B.Server) → ServerAlike plan c x y → ServerAlike plan c x (b.servers c) → Both plan (R.calls c 0 d x r) (B.checkpoints c v tail t y b)
      go x y nothing k = unfold B.checkpoints in l
      go x y (running K) k = makes v t tail K k
      go x y (storing {st = st} {log = log} K e L) k =
          unfold B.checkpoints in rw (refused-call c d st log r (omega (arith, K.past, K.mark))) (idle-server l c (R.running st log) k)
      go x y (crashed K) k = unfold B.checkpoints in l

  -- a call that only reads
  pub look_alike : (t : B.Lent) (f : List ℕ → List ℕ → ℕ) → Both plan (R.calls c 0 d (r.servers c) r) (B.calls c t (λ s g. B.looked (f s g) s g t.out) (b.servers c) b)
  unfolding R.calls B.calls B.looked B.making
  look_alike t f = go (r.servers c) (b.servers c) (l.alike.servers c) (l.alike.servers c)
    where
      reads : {st : State} {log : R.Log} {k : B.Stored} {state bytes : List ℕ} → RunningAlike plan c st log k state bytes
          → Both plan (R.calls c 0 d (R.running st log) r) (B.calls c t (λ s g. B.looked (f s g) s g t.out) (B.running k state bytes) b)
      reads {k = k} {state = state} {bytes = bytes} K =
          let own : R.Log = record { number = 0; entries = K.tail } in
          let here : LocalAlike K.start (load state) own state bytes = record { holds = K.holds; loads = refl } in
          let a : After = B.looked (f (lent_state t state) (lent_log t bytes)) (lent_state t state) (lent_log t bytes) t.out in
          rw (same-state {log = own} here t a refl, same_log {log = own} here t a refl refl) (becomes (B.running k state bytes) (omega (arith, K.past, K.mark)) (running K))

      go : (x : R.Server) (y : B.Server) → ServerAlike plan c x y → ServerAlike plan c x (b.servers c)
          → Both plan (R.calls c 0 d x r) (B.calls c t (λ s g. B.looked (f s g) s g t.out) y b)
      go x y nothing k = l
      go x y (running K) k = reads K
      go x y (storing {st = st} {log = log} K e L) k = rw (refused-call c d st log r (omega (arith, K.past, K.mark))) (idle-server l c (R.running st log) k)
      go x y (crashed K) k = l
