-- Demand 3 over bytes, from demand 3 over states and log records: what issues, completes or survives over bytes does so over records, what
-- survives over records survives over bytes, and the servers count with the same states at the end, places of the log aside.
--     issues-here, issues-there, completes_here
--     executes-here, executes-there
--     survives-here, survives-there, notes_there
--     tells-here
--     same-given, same-final, recovers-end
--     from-records
-- Assumes nothing.
use Prim.Native.Nat.{ℕ, suc, ◌+◌, ◌≤◌}
use mathlib.Core.Path.{◌≡◌, refl, sym, ◌∙◌, ap, subst}
use mathlib.Core.List.{List}
use mathlib.Core.Option.{some}
use native.Mathlib.Omega.{arith}
use borrow.Author.Tests.{lt-ltb}
use Rattle.model.specs.Versions.{Versions}
use Rattle.model.specs.declared.Command.{Command}
use Rattle.model.specs.declared.ResultPacket.{ResultPacket}
use Rattle.model.specs.Sequential.{Marked, EntryResult}
use Rattle.model.specs.Packets.{parse_packet}
use Rattle.model.specs.States.{State, load}
use Rattle.model.specs.Checkpoints.{placed}
use Rattle.model.specs.Decisions.{Decided, on_request, time_for}
use Rattle.model.specs.Calls.{request}
use Rattle.model_laws.specs.Bytes.{Bytes}
use Rattle.model_invariants.specs.Calls.{output_size, has_output, output}
use Rattle.model_invariants.specs.Placed.{seen_from}
use Rattle.claim.specs.World.{Lent, packet}
use Rattle.claim.specs.World as B
use Rattle.claim.specs.Provisos.{Counted}
use Rattle.claim.specs.Provisos as BP
use Rattle.claim.specs.Claim as BC
use Rattle.claim.specs.RecordWorld as R
use Rattle.claim.specs.RecordProvisos as RP
use Rattle.claim.specs.RecordClaim as RC
use Rattle.safety.specs.Alike.{RunningAlike, ServerAlike, nothing, running, storing, crashed, Shown, neither, both, whole}
use Rattle.safety.specs.Decoded.{room_in, room_of, told_size, place_of, decoded, schedule}
use Rattle.safety.proofs.Worlds.{running-here, running-room, same-packet, same-client, alike-reach}
use Rattle.safety.proofs.Parties.{packet-made}
use Rattle.safety.proofs.Called.{request-answer}
use Rattle.safety.proofs.Tails.{recovered-shown, recovered-some}
use Rattle.safety.proofs.Runs.{both_at, at_here, at_back, provisos_here, end-alike}
use Rattle.safety.proofs.Carried.{explained_too}

-- a server counts with the same state in both worlds, places of the log aside
pub same-given : (plan : List ℕ) (c : ℕ) {x : R.Server} {y : B.Server} → ServerAlike plan c x y
    → Shown (BC.state_given plan y) (RC.state_given plan x)
unfolding RC.state_given BC.state_given
same-given plan c nothing = neither
same-given plan c (running {st = st} {k = k} K) = rw K.loads (both k.replaced st)
same-given plan c (storing {st = st} {next = k} K e L) = rw L.loads (both k.replaced st)
same-given plan c (crashed K) = recovered-shown K

-- places of the log are no part of the time of execution
time-seen : (v : Versions) (b : ℕ) (st : State) → time_for v (seen_from b st) ≡ time_for v st
unfolding time_for seen_from placed
time-seen v b st = refl

-- a call that is not refused over records: no checkpoint is being stored, and the server runs over bytes
module _ {plan : List ℕ} {c : ℕ} where
  no_room : {st : State} {log : R.Log} {k : B.Stored} {state bytes : List ℕ} → RunningAlike plan c st log k state bytes → (d : State → ℕ → Decided)
      → (R.call_of st log 0 d).number ≡ 0 → ⊥
  unfolding R.call_of R.settle
  no_room {st = st} {log = log} K d = rw (lt-ltb 0 st.size (omega (arith, K.past, K.mark))) (λ z. absurd (omega (arith, z)))

  running-there : {x : R.Server} {y : B.Server} → ServerAlike plan c x y → (st : State) (log : R.Log) → x ≡ R.running st log → (t : Lent) (out : List ℕ) (need : State → ℕ)
      → (d : State → ℕ → Decided) → (R.call_of st log (room_of y t out need) d).number ≡ 0
      → (k : B.Stored) × (state : List ℕ) × (bytes : List ℕ) × (y ≡ B.running k state bytes) × RunningAlike plan c st log k state bytes
  unfolding room_of
  running-there nothing st log e t out need d z = let q : ◌≡◌ {A = ℕ} 0 1 = cc in absurd (omega arith)
  running-there (running {st = s} {log = g} {k = k} {state = state} {bytes = bytes} K) st log e t out need d z =
      let i : s ≡ st = cc in
      let j : g ≡ log = cc in (
        k,
        state,
        bytes,
        refl,
        subst (λ (o : R.Log). RunningAlike plan c st o k state bytes) j (subst (λ (o : State). RunningAlike plan c o g k state bytes) i K),
      )
  running-there (storing {st = s} {log = g} K m L) st log e t out need d z =
      let i : s ≡ st = cc in
      let j : g ≡ log = cc in
      absurd (no_room K d (rw (i, j) z))
  running-there (crashed K) st log e t out need d z = let q : ◌≡◌ {A = ℕ} 0 1 = cc in absurd (omega arith)

module _ (plan : List ℕ) (ys : List B.Event) (P : BP.Provisos plan ys) where
  abbrev r : ℕ → R.World
  r n = R.after (schedule plan ys) n

  abbrev b : ℕ → B.World
  b n = B.after ys n

  client-here : (n x : ℕ) → (r n).clients x ≡ (b n).clients x
  client-here n x = same-client (both_at plan ys P n).alike x

  pub packet-here : (n p : ℕ) → packet (r n) p ≡ packet (b n) p
  packet-here n p = same-packet (both_at plan ys P n).alike p

  pub made_bytes : (n p : ℕ) (x : List ℕ) → packet (b n) p ≡ some x → Bytes x
  made_bytes n p x e = packet-made (both_at plan ys P n).parties p x (packet-here n p ∙ e)

  -- ---- issues and completions

  pub issues-here : (n : ℕ) (k : List Command) → BC.Issues ys n k → RC.Issues (schedule plan ys) n k
  unfolding decoded
  issues-here n k i =
      record {
        client = i.client;
        op = i.op;
        point = i.point;
        argument = i.argument;
        event = at_here plan ys P n _ i.event;
        state = i.state;
        started = client-here n i.client ∙ i.started;
        asked = i.asked;
        answer = i.answer;
        its = i.its;
      }

  pub issues-there : (n : ℕ) (k : List Command) → RC.Issues (schedule plan ys) n k → BC.Issues ys n k
  issues-there n k i =
      let e = at_back plan ys P n _ i.event in
      record {
        client = i.client;
        op = i.op;
        point = i.point;
        argument = i.argument;
        event = subst (BP.At ys n) (e.2.outsides _ refl) e.1;
        state = i.state;
        started = sym (client-here n i.client) ∙ i.started;
        asked = i.asked;
        answer = i.answer;
        its = i.its;
      }

  pub completes_here : (n : ℕ) (k : List Command) (x : EntryResult) → BC.Completes ys n k x → RC.Completes (schedule plan ys) n k x
  unfolding decoded
  completes_here n k x c =
      record {
        client = c.client;
        number = c.number;
        event = at_here plan ys P n _ c.event;
        state = c.state;
        started = client-here n c.client ∙ c.started;
        bytes = c.bytes;
        delivered = packet-here n c.number ∙ c.delivered;
        received = c.received;
        answer = c.answer;
        its = c.its;
        result = c.result;
      }

  -- ---- executions

  counted : (n c p : ℕ) (vs : Versions) (t : Lent) → BP.At ys n (B.call c (request vs p) t) → Counted t
  unfolding BP.Typed
  counted n c p vs t a = P.typed n (B.call c (request vs p) t) a

  pub executes-here : (n c : ℕ) (k : Marked) → BC.Executes ys n c k → RC.Executes (schedule plan ys) n c k
  unfolding decoded whole output has_output output_size
  executes-here n c k x =
      let u = running-here ((both_at plan ys P n).alike.servers c) x.stored x.state x.log x.up in
      let ok = counted n c x.number x.versions x.lent x.event in
      let z = (request-answer x.versions x.lent ok x.bytes (made_bytes n x.number x.bytes x.delivered) u.3).0 x.answer in
      record {
        number = x.number;
        versions = x.versions;
        room = x.stored.replaced + room_in x.lent x.state x.log x.lent.out (told_size x.versions);
        event =
            subst (λ (k : ℕ). RP.At (schedule plan ys) n (R.call c (request x.versions x.number) k)) (running-room x.up x.lent x.lent.out (told_size x.versions))
            (at_here plan ys P n (B.call c (request x.versions x.number) x.lent) x.event);
        state = u.0;
        log = u.1;
        up = u.2;
        bytes = x.bytes;
        delivered = packet-here n x.number ∙ x.delivered;
        no_number = z.0;
        no_packet = z.1;
        asked = x.asked;
        parsed = x.parsed;
        its = x.its;
      }

  -- with the time that it notes: places aside, the state is the same
  abbrev Noted : ℕ → ℕ → Marked → ℕ → Type 0
  Noted n c k t = (x : BC.Executes ys n c k) × (time_for x.versions (load x.state) ≡ t)

  executes-there : (n c : ℕ) (k : Marked) (x : RC.Executes (schedule plan ys) n c k) → Noted n c k (time_for x.versions x.state)
  executes-there n c k x =
      let e = at_back plan ys P n (R.call c (request x.versions x.number) x.room) x.event in
      let f = e.2.requests c x.number x.versions x.room refl in
      let t : Lent = f.0 in
      let decide : State → ℕ → Decided = λ s free. on_request x.versions s free (parse_packet x.bytes) in
      let u = running-there ((both_at plan ys P n).alike.servers c) x.state x.log x.up t t.out (told_size x.versions) decide (rw f.2 at x.no_number) in
      let at : BP.At ys n (B.call c (request x.versions x.number) t) = subst (BP.At ys n) f.1 e.1 in
      let room : x.room ≡ u.0.replaced + room_in t u.1 u.2 t.out (told_size x.versions) = f.2 ∙ running-room u.3 t t.out (told_size x.versions) in
      let d : packet (b n) x.number ≡ some x.bytes = sym (packet-here n x.number) ∙ x.delivered in
      let z = (request-answer x.versions t (counted n c x.number x.versions t at) x.bytes (made_bytes n x.number x.bytes d) u.4).1 in (
        record {
          number = x.number;
          versions = x.versions;
          lent = t;
          event = at;
          stored = u.0;
          state = u.1;
          log = u.2;
          up = u.3;
          bytes = x.bytes;
          delivered = d;
          answer = z (rw room at x.no_number, rw room at x.no_packet);
          asked = x.asked;
          parsed = x.parsed;
          its = x.its;
        },
        ap (time_for x.versions) u.4.loads ∙ time-seen x.versions u.0.replaced x.state,
      )

  -- ---- survivors

  reach_here : (n c : ℕ) → RP.length_of ((r n).servers c) ≡ BP.reach_of ((b n).servers c)
  reach_here n c = alike-reach ((both_at plan ys P n).alike.servers c)

  -- a crash keeps as much of the whole log in both
  crash-here : (n c m : ℕ) → BC.Crashes ys n c m → RP.At (schedule plan ys) n (R.crash c m)
  unfolding decoded place_of
  crash-here n c m x = subst (λ (k : ℕ). RP.At (schedule plan ys) n (R.crash c k)) (sym x.reaches) (at_here plan ys P n (B.crash c x.kept) x.event)

  crash-there : (n c m : ℕ) → RP.At (schedule plan ys) n (R.crash c m) → BC.Crashes ys n c m
  crash-there n c m a =
      let e = at_back plan ys P n (R.crash c m) a in
      let q = e.2.crashes c m refl in
      record { kept = q.0; event = subst (BP.At ys n) q.1 e.1; reaches = q.2 }

  pub survives-here : (n : ℕ) (k : Marked) → BC.SurvivesAt ys n k → RC.SurvivesAt (schedule plan ys) n k
  survives-here n k s =
      record {
        server = s.server;
        executes = executes-here n s.server k s.executes;
        kept = λ m d h a. subst (λ (z : ℕ). z ≤ d) (sym (reach_here (suc n) s.server)) (s.kept m d h (crash-there m s.server d a));
      }

  pub notes_there : (n : ℕ) (k : Marked) (t : ℕ) → RC.Notes (schedule plan ys) n k t → BC.Notes ys n k t
  notes_there n k t (s, e) =
      let x = executes-there n s.server k s.executes in (
        record {
          server = s.server;
          executes = x.0;
          kept = λ m d h a. subst (λ (z : ℕ). z ≤ d) (reach_here (suc n) s.server) (s.kept m d h (crash-here m s.server d a));
        },
        x.1 ∙ e,
      )

  pub survives-there : (n : ℕ) (k : Marked) → RC.SurvivesAt (schedule plan ys) n k → BC.SurvivesAt ys n k
  survives-there n k s = (notes_there n k _ (s, refl)).0

  -- ---- results told

  tells-here : (x : ResultPacket) → BC.Tells ys x → RC.Tells (schedule plan ys) x
  tells-here x t = record { number = t.number; bytes = t.bytes; made = same-packet (end-alike plan ys P) t.number ∙ t.made; parsed = t.parsed }

  -- ---- the end

  same-final : (c : ℕ) → Shown (BC.final_state plan ys c) (RC.final_state plan (schedule plan ys) c)
  unfolding RC.final_state BC.final_state
  same-final c = same-given plan c ((end-alike plan ys P).servers c)

  recovers-end : BC.Recovers plan ys
  recovers-end c k kept mark = go ((end-alike plan ys P).servers c)
    where
      go : {x : R.Server} {y : B.Server} → ServerAlike plan c x y → y ≡ B.crashed k kept mark → (st : State) × (BC.recovered_by plan k.checkpoint kept ≡ some st)
      go nothing e = let z : ◌≡◌ {A = ℕ} 0 1 = cc in absurd (omega arith)
      go (running K) e = let z : ◌≡◌ {A = ℕ} 0 1 = cc in absurd (omega arith)
      go (storing K m L) e = let z : ◌≡◌ {A = ℕ} 0 1 = cc in absurd (omega arith)
      go (crashed {k = j} {kept = s} K) e =
          let p : k ≡ j = cc in
          let q : kept ≡ s = cc in
          rw (p, q) (let u = recovered-some K in (u.0, u.1))

pub from-records : RC.Demand3 → BC.Demand3
unfolding RC.Demand3 BC.Demand3
from-records d plan ys P =
    let x = d plan (schedule plan ys) (provisos_here plan ys P) in (
      x.0,
      explained_too plan (BC.account plan ys) (RC.account plan (schedule plan ys)) (issues-here plan ys P) (completes_here plan ys P) (survives-here plan ys P)
          (survives-there plan ys P) (tells-here plan ys P) (notes_there plan ys P) (same-final plan ys P) (recovers-end plan ys P) x.0 x.1,
    )
