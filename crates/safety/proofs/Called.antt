-- A call of a server leaves both worlds alike.
--     idle-server              over records a server becomes what is still alike
--     refused-call             a call without room changes nothing over records
--     request-answer           a request gives neither number nor packet in both worlds, or in none
--     call-alike               the worlds after a call
-- Assumes nothing.
use Prim.Native.Nat.{ℕ, ◌+◌, ◌≤◌}
use mathlib.Core.Path.{◌≡◌, refl, sym, ◌∙◌, subst}
use mathlib.Core.Bool.{Bool, true, false}
use mathlib.Core.List.{List, []}
use mathlib.Core.Logic.{◌↔◌}
use native.Mathlib.Omega.{arith}
use lib.Dec.{eqb}
use lib.ListN.{take}
use borrow.Author.Tests.{eqb-true, lt-ltb}
use Rattle.model.specs.Choice.{pick}
use Rattle.model.specs.Versions.{Versions}
use Rattle.model.specs.Packets.{parse_packet}
use Rattle.model.specs.States.{State}
use Rattle.model.specs.Decisions.{Decided, on_request}
use Rattle.model.specs.Operations.{After, answer_of, request_of}
use Rattle.model.specs.Refusals.{no_refusal}
use Rattle.model_laws.specs.Bytes.{Bytes}
use Rattle.model_invariants.specs.Sound.{Sound}
use Rattle.model.specs.Calls.{Operation, request, decision, operated}
use Rattle.model_invariants.specs.Calls.{output, has_output, output_size, LentBytes}
use Rattle.model_invariants.specs.Placed.{seen_from}
use Rattle.claim.specs.World.{with_server, making, lent_state, lent_log, state_back, log_back}
use Rattle.claim.specs.World as B
use Rattle.claim.specs.Provisos.{Counted}
use Rattle.claim.specs.RecordWorld as R
use Rattle.safety.specs.Alike.{RunningAlike, ServerAlike, nothing, running, storing, crashed, Both, LeftAlike, LeftSeen, whole}
use Rattle.safety.specs.Decoded.{room_in, room_of, told_size}
use Rattle.safety.proofs.Facts.{holds-sound}
use Rattle.safety.proofs.Worlds.{alike-server, alike-making}
use Rattle.safety.proofs.Parties.{parties-server, parties-making}
use Rattle.safety.proofs.Calls.{call-left, made_bytes}
use Rattle.safety.proofs.Seen.{left-seen}

-- ---- what changes nothing over records

pub idle-server : {plan : List ℕ} {r : R.World} {b : B.World} → Both plan r b → (c : ℕ) (s : R.Server) → ServerAlike plan c s (b.servers c) → Both plan (with_server c s r) b
unfolding with_server
idle-server {plan} {r} {b} l c s k =
    record {
      alike = record { servers = λ d. go d (eqb d c) refl; clients = l.alike.clients; manager = l.alike.manager; made = l.alike.made };
      parties = parties-server l.parties c s;
    }
  where
    go : (d : ℕ) (q : Bool) → eqb d c ≡ q → ServerAlike plan d (pick q s (r.servers d)) (b.servers d)
    go d true e = rw (eqb-true d c e) k
    go d false e = l.alike.servers d

pub refused-call : (c : ℕ) (d : State → ℕ → Decided) (st : State) (log : R.Log) (r : R.World) → 1 ≤ st.size → R.calls c 0 d (R.running st log) r ≡ with_server c (R.running st log) r
unfolding R.calls R.call_of R.settle making
refused-call c d st log r h = rw (lt-ltb 0 st.size h)

-- ---- an operation

module _ (o : Operation) (h : LentBytes o) (t : B.Lent) (ok : Counted t) where
  abbrev out : List ℕ
  out = output o t.out

  abbrev need : State → ℕ
  need st = output_size st o

  module _ {plan : List ℕ} {c : ℕ} {st : State} {log : R.Log} {k : B.Stored} {state bytes : List ℕ} (K : RunningAlike plan c st log k state bytes) where
    abbrev b : ℕ
    b = k.replaced

    abbrev room : ℕ
    room = room_in t state bytes out need

    abbrev own : R.Log
    own = record { number = log.number; entries = K.tail }

    abbrev left : After
    left = operated o (lent_state t state) (lent_log t bytes) t.out

    -- by the server's own log, and by the whole log
    abbrev here : R.Left
    here = R.call_of (seen_from b st) own room (decision o)

    abbrev there : R.Left
    there = R.call_of st log (b + room) (decision (whole b o))

    by_own : LeftAlike K.start t state bytes left here
    by_own = call-left o h t ok {log = own} (record { holds = K.holds; loads = K.loads })

    by_whole : LeftSeen b K.continues.before log.number here there
    by_whole = left-seen b st K.past K.mark K.continues.before own log K.continues.entries o room

    pub call-answer : (left.answer ≡ answer_of no_refusal 0) ↔ ((there.number ≡ 0) × (there.made ≡ []))
    call-answer =
        let L = by_own.answer in
        let Z = by_whole in (
          λ e. let x = L.0 e in (sym Z.number ∙ x.0, sym Z.made ∙ x.1),
          λ x. L.1 (Z.number ∙ x.0, Z.made ∙ x.1),
        )

    pub call-made : take left.answer.wrote left.out ≡ there.made
    call-made = by_own.made ∙ by_whole.made

    made-here : Bytes there.made
    made-here =
        let S : Sound (seen_from b st) = subst Sound K.loads (holds-sound K.holds) in
        subst Bytes by_whole.made (made_bytes o h t ok (seen_from b st) S own room)

    runs_on : RunningAlike plan c there.state there.log k (state_back t state left) (log_back t state bytes left)
    runs_on =
        let C = K.continues in
        let L = by_own in
        let Z = by_whole in
        record {
          start = K.start;
          tail = here.log.entries;
          continues =
              record {
                planned = C.planned;
                number = Z.log ∙ C.number;
                before = C.before;
                entries = Z.entries;
                early = C.early;
                base = C.base;
                replays = C.replays;
                size = C.size;
                begins = C.begins;
                gives = C.gives;
              };
          holds = L.server.holds;
          loads = L.server.loads ∙ Z.state;
          past = Z.past;
          mark = Z.mark;
        }

    pub runs-alike : {r : R.World} {w : B.World} → Both plan r w → Both plan (making there.made (with_server c (R.running there.state there.log) r))
        (making (take left.answer.wrote left.out) (with_server c (B.running k (state_back t state left) (log_back t state bytes left)) w))
    runs-alike l =
        rw call-made (record {
          alike = alike-making (alike-server l.alike c _ _ (running runs_on)) there.made;
          parties = parties-making (parties-server l.parties c _) there.made made-here;
        })

  -- the worlds after a call
  pub call-alike : {plan : List ℕ} {r : R.World} {b : B.World} → Both plan r b → (c : ℕ)
      → Both plan (R.calls c (room_of (b.servers c) t out need) (decision (whole (B.stored_of (b.servers c)).replaced o)) (r.servers c) r)
      (B.calls c t (λ s g. operated o s g t.out) (b.servers c) b)
  unfolding R.calls B.calls room_of B.stored_of
  call-alike {plan} {r} {b} l c = go (r.servers c) (b.servers c) (l.alike.servers c) (l.alike.servers c)
    where
      go : (x : R.Server) (y : B.Server) → ServerAlike plan c x y → ServerAlike plan c x (b.servers c)
          → Both plan (R.calls c (room_of y t out need) (decision (whole (B.stored_of y).replaced o)) x r) (B.calls c t (λ s g. operated o s g t.out) y b)
      go x y nothing k = l
      go x y (running K) k = runs-alike K l
      go x y (storing {st = st} {log = log} K e L) k =
          rw (refused-call c (decision (whole _ o)) st log r (omega (arith, K.past, K.mark))) (idle-server l c (R.running st log) k)
      go x y (crashed K) k = l

-- a request gives neither number nor packet in both worlds, or in none
pub request-answer : (vs : Versions) (t : B.Lent) → Counted t → (p : List ℕ) → Bytes p
    → {plan : List ℕ} {c : ℕ} {st : State} {log : R.Log} {k : B.Stored} {state bytes : List ℕ} → RunningAlike plan c st log k state bytes
    → ((request_of vs (lent_state t state) (lent_log t bytes) p t.out).answer ≡ answer_of no_refusal 0)
    ↔ (((R.call_of st log (k.replaced + room_in t state bytes t.out (told_size vs)) (λ s free. on_request vs s free (parse_packet p))).number ≡ 0)
    × ((R.call_of st log (k.replaced + room_in t state bytes t.out (told_size vs)) (λ s free. on_request vs s free (parse_packet p))).made ≡ []))
unfolding decision output has_output output_size operated whole
request-answer vs t ok p h K = call-answer (request vs p) h t ok K
