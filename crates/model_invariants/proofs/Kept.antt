-- Soundness is kept: by every record that an operation decides to append, and by every record that follows the state (recovery).
--     founded_by, founded-start, founded-sound     founding leaves a sound state, which a log starts from
--     follows-sound       a well-formed record that follows a sound state leaves a sound state
--     decided-good        a decided record is well formed
--     decided-follows     a decided record follows the state it was decided on
--     decided-sound       a decided record leaves a sound state
--     decided-space       the log has space for it
--     sync-sound          so does a mark that sync sets
--     decides-mark, apply-mark     decisions and records do not depend on the mark
-- Assumes nothing.
use Prim.Native.Nat.{ℕ, zero, suc, ◌+◌, ◌≤◌, ◌<◌}
use mathlib.Core.Path.{◌≡◌, refl, ◌∙◌}
use mathlib.Core.Bool.{Bool, true, false, ◌&&◌, not, false≢true}
use mathlib.Core.List.{List, [], ◌∷◌, map}
use mathlib.Core.Option.{Option, none, some}
use mathlib.Core.Logic.{◌≢◌}
use native.Mathlib.Omega.{arith}
use lib.ListN.{length, get_or, length-map}
use lib.Dec.{eqb, lit<}
use borrow.Author.Tests.{eqb-true, not-true}
use Rattle.model.specs.Versions.{Versions}
use Rattle.model.specs.declared.PlanEntry.{PlanEntry}
use Rattle.model.specs.declared.Executed.{Executed}
use Rattle.model.specs.declared.Request.{Request}
use Rattle.model.specs.declared.Give.{Give}
use Rattle.model.specs.declared.Release.{Release}
use Rattle.model.specs.declared.Completion.{Completion}
use Rattle.model.specs.Choice.{pick, append, marks, is_passed}
use Rattle.model.specs.Limits.{last_point, last_server, head_size, give_size, take_head, release_size, invalid}
use Rattle.model.specs.Plan.{entry_at, no_entry}
use Rattle.model.specs.Rules.{argument_ok}
use Rattle.model.specs.Packets.{command_ok, outcome_ok, id_ok, done_ok, request_ok}
use Rattle.model.specs.Images.{Image, image_length, floor_of}
use Rattle.model.specs.Logs.{LogRecord, executed, gone, gave, took, released, record_size, executed_ok, executed_size_of}
use Rattle.model.specs.States
use Rattle.model.specs.States.{State, point_at, no_point}
use Rattle.model.specs.Apply.{apply_record, apply_executed, apply_gone, apply_gave, apply_took, apply_released, founded_point, founded, with_mark}
use Rattle.model.specs.Decisions.{find, request_refusal, new_refusal, result_for, time_for, with_time, executed_for, decide_request, decide_notice, places_bad, give_refusal, on_give, take_tests, decide_take, release_refusal, decide_release, on_sync, is_none, follows}
use Rattle.model_laws.specs.Bytes.{All}
use Rattle.model_laws.specs.Fits.{TimeFits}
use Rattle.model_laws.proofs.Tests.{and_both}
use Rattle.model_laws.proofs.Reflects.{eq, flag, of, both, facts}
use Rattle.model_laws.proofs.Commands.{command-parts}
use Rattle.model_laws.specs.Results.{ResultOk}
use Rattle.model_laws.proofs.Range.{rule_in_range}
use Rattle.model_invariants.specs.Sound.{GoodEntry, Ranged, GoodPoint, SoundBy, Sound, GoodRequest, GoodExecuted, GoodRecord}
use Rattle.model_invariants.specs.Passed.{PassedRequest, PassedGive, PassedTake, PassedRelease}
use Rattle.model_invariants.specs.History.{GoodPlan, StartBy, Start, Decides, by_request, by_notice, by_give, by_take, by_release}
use Rattle.model_invariants.proofs.Floors.{eqb_same, eqb_no}
use Rattle.model_invariants.proofs.Tests.{sound-entry, split, entry-good, range_says}
use Rattle.model_invariants.proofs.Steps.{sound-executed, sound-gone, sound-gave, sound-took, sound-released, sound-mark}
use Rattle.model_invariants.proofs.Decided.{find-fresh, request-tests, new_tests, give-tests, take-tests, release-tests, request-again, new_again, notice-again, give-again, take_again, release-again, Requested, requested, requested_appends, request-passed, request_terms, notice-passed, give-passed, take-passed, release-passed, sync-passed}

-- ---- founding

founded-point : (n : ℕ) (e : PlanEntry) → GoodEntry e → GoodPoint n head_size e (founded_point n e)
unfolding founded_point
founded-point n e g = go (eqb e.home n) refl
  where
    go : (b : Bool) → eqb e.home n ≡ b → GoodPoint n head_size e
        (record { status = pick b States.held States.absent; quality = invalid; destination = 0; value = e.fallback; move_number = 0; taken_move = 0; give_end = 0; take_end = 0 })
    go b h =
        let l : pick b States.held States.absent < States.given = small b in
        record {
          status = omega arith;
          quality = omega arith;
          destination = omega arith;
          value = record { low = g.low; high = g.high };
          give_end = record { past = λ (k : ◌≢◌ {A = ℕ} 0 0). absurd (k refl); within = omega arith };
          take_end = record { past = λ (k : ◌≢◌ {A = ℕ} 0 0). absurd (k refl); within = omega arith };
          standing =
              record {
                absent = λ (k : ◌≡◌ {A = ℕ} (pick b 1 0) 0). record { home = elsewhere b h k; value = refl; quality = refl; move_number = refl; taken_move = refl; take_end = refl };
                held = λ (k : ◌≡◌ {A = ℕ} (pick b 1 0) 1). refl;
                given = λ (k : 2 ≤ pick b 1 0). absurd (omega arith);
                away = λ (k : 2 ≤ pick b 1 0). absurd (omega arith);
                ended = λ (k : 2 ≤ pick b 1 0). absurd (omega arith);
                stays = λ (k : pick b States.held States.absent < States.given). refl;
                unended = λ (k : pick b States.held States.absent < States.given). refl;
                origin =
                    λ (k : 1 ≤ pick b 1 0).
                    record {
                      founded = λ (z : ◌≡◌ {A = ℕ} 0 0). here b h k;
                      untaken = λ (z : ◌≡◌ {A = ℕ} 0 0). refl;
                      taken_at = λ (z : ◌≢◌ {A = ℕ} 0 0). absurd (z refl);
                    };
              };
          taken_move = omega arith;
          move_number = omega arith;
        }
      where
        small : (b : Bool) → pick b States.held States.absent < States.given
        small true = omega arith
        small false = omega arith

        here : (b : Bool) → eqb e.home n ≡ b → 1 ≤ pick b 1 0 → e.home ≡ n
        here true h k = eqb-true _ _ h
        here false h k = absurd (omega arith)

        elsewhere : (b : Bool) → eqb e.home n ≡ b → ◌≡◌ {A = ℕ} (pick b 1 0) 0 → e.home ≢ n
        elsewhere true h k = absurd (omega arith)
        elsewhere false h k = eqb_no _ _ h

founded-points : (n : ℕ) (es : List PlanEntry) → All GoodEntry es → (p : ℕ) → p < length es
    → GoodPoint n head_size (get_or es p no_entry) (get_or (map (founded_point n) es) p no_point)
founded-points n [] h p l = absurd (omega arith)
founded-points n (e ∷ es) h zero l = founded-point n e h.0
founded-points n (e ∷ es) h (suc p) l = founded-points n es h.1 p (omega arith)

pub founded_by : {P : ℕ → Type 0} → P head_size → (plan : List PlanEntry) (n : ℕ) → GoodPlan plan → n ≤ last_server → StartBy P (founded plan n)
unfolding founded point_at entry_at
founded_by z plan n g h =
    record {
      sound =
          record {
            server = h;
            heard = omega arith;
            head = omega arith;
            mark = omega arith;
            size = z;
            plan = g.length;
            entries = g.entries;
            points = length-map plan (founded_point n) ∙ g.length;
            point = λ (p : ℕ) (l : p ≤ last_point). founded-points n plan g.entries p (omega (arith, g.length));
            clients = omega arith;
            floors = tt;
            ascending = tt;
            count = omega arith;
            records = tt;
            windows = tt;
            kept = tt;
            ids = tt;
            arrived = tt;
          };
      empty = refl;
    }

-- with ends of 64 bits
pub founded-start : (plan : List PlanEntry) (n : ℕ) → GoodPlan plan → n ≤ last_server → Start (founded plan n)
founded-start plan n g h = founded_by (lit< tt) plan n g h

pub founded-sound : (plan : List PlanEntry) (n : ℕ) → GoodPlan plan → n ≤ last_server → Sound (founded plan n)
founded-sound plan n g h = (founded-start plan n g h).sound

-- ---- what follows a state

-- a passed test's number is 0
is_zero : (n : ℕ) → is_passed n ≡ true → n ≡ 0
is_zero n e = eqb-true n 0 e

none_is : (o : Option Completion) → is_none o ≡ true → o ≡ none
unfolding is_none
none_is none e = refl
none_is (some r) e = absurd (false≢true e)

pub executed-follows : (st : State) (x : Executed) → follows st (executed x) ≡ true
    → PassedRequest st x.command.client x.command.call x.command.point × Ranged (entry_at st.plan x.command.point) x.result.value
unfolding follows
executed-follows st x h =
    let f : ℕ = floor_of x.command.client st.floors in
    let first : ℕ = request_refusal (point_at st x.command.point) false f x.command.call in
    let second : ℕ = new_refusal f (length st.floors) (executed_size_of x.timed) (executed_size_of x.timed) in
    let free : Bool = is_none (find x.command.client x.command.call st.records) in
    let t = facts
    (flag (is_passed first) ∷ flag free ∷ flag (is_passed second) ∷ of (range_says (entry_at st.plan x.command.point) x.result.value) ∷ []) h in
    let a = request-tests (point_at st x.command.point) false f x.command.call (is_zero first (t 0)) in
    let n = find-fresh x.command.client x.command.call st.records (none_is (find x.command.client x.command.call st.records) (t 1)) in
    let p = new_tests f (length st.floors) (executed_size_of x.timed) (executed_size_of x.timed) (is_zero second (t 2)) in
    (record { held = a.0; over = a.2; fresh = n; place = p.0 }, t 3)

pub gave-follows : (st : State) (g : Give) → follows st (gave g) ≡ true
    → PassedGive st g.point g.destination × (g.move_number ≡ suc (point_at st g.point).move_number)
unfolding follows
gave-follows st g h =
    let n : ℕ = give_refusal (point_at st g.point) st.server give_size g.destination in
    let t = facts (flag (not (places_bad g.point g.destination)) ∷ flag (is_passed n) ∷ eq g.move_number (suc (point_at st g.point).move_number) ∷ []) h in
    ((give-tests st give_size g.point g.destination (not-true _ (t 0)) (is_zero n (t 1))).0, t 2)

pub took-follows : (st : State) (i : Image) → follows st (took i) ≡ true → PassedTake st i
unfolding follows
took-follows st i h = (take-tests st (take_head + image_length i) i (is_zero _ h)).0

pub released-follows : (st : State) (r : Release) → follows st (released r) ≡ true
    → PassedRelease st r.point r.move_number × (r.move_number ≡ (point_at st r.point).move_number)
unfolding follows
released-follows st r h =
    let n : ℕ = release_refusal (point_at st r.point) release_size r.move_number in
    let t = (both (flag (is_passed n)) (eq r.move_number (point_at st r.point).move_number)).holds h in
    ((release-tests st release_size r.point r.move_number (is_zero n t.0)).0, t.1)

pub follows-sound : {P : ℕ → Type 0} (st : State) (r : LogRecord) → SoundBy P st → GoodRecord r → follows st r ≡ true → P (st.size + record_size r)
    → SoundBy P (apply_record r (st.size + record_size r) st)
unfolding apply_record record_size
follows-sound st (executed x) S G h z = let k = executed-follows st x h in sound-executed st x S G k.0 k.1 z
follows-sound st (gone n) S G h z = sound-gone st n S G z
follows-sound st (gave g) S G h z = let k = gave-follows st g h in sound-gave st g S G k.0 k.1 z
follows-sound st (took i) S G h z = sound-took st i S G (took-follows st i h) z
follows-sound st (released r) S G h z = let k = released-follows st r h in sound-released st r S r.move_number k.0 z

-- ---- what an operation decides

-- the parts of a request's test
record Asked (q : Request) : Type 0 where
  command : command_ok q.command.op q.command.point q.command.argument ≡ true
  ids : (id_ok q.command.client q.command.call && done_ok q.done q.command.call) ≡ true
  point : q.command.point ≤ last_point
  argument : argument_ok q.command.op q.command.argument ≡ true

asked : (q : Request) → request_ok q ≡ true → Asked q
unfolding request_ok
asked q h =
    let k = split (command_ok q.command.op q.command.point q.command.argument) (id_ok q.command.client q.command.call && done_ok q.done q.command.call) h in
    let c = command-parts q.command.op q.command.point q.command.argument k.0 in
    record { command = k.0; ids = k.1; point = c.point; argument = c.ranged }

pub result-good : {P : ℕ → Type 0} (v : Versions) (st : State) (q : Request) → SoundBy P st → GoodRequest q → ResultOk (entry_at st.plan q.command.point) (result_for v st q)
unfolding result_for
result-good v st q S G =
    let A = asked q G.ok in
    let x = point_at st q.command.point in
    let e = entry_at st.plan q.command.point in
    let P : GoodPoint st.server st.size e x = S.point q.command.point A.point in
    rule_in_range e q.command.op q.command.argument (record { value = x.value; quality = x.quality })
    (entry-good e (sound-entry st S q.command.point A.point)) ((range_says e x.value).passes P.value) P.quality A.argument (v.rule q.command.op)

request-good : {P : ℕ → Type 0} (v : Versions) (st : State) (q : Request) → SoundBy P st → GoodRequest q → GoodExecuted (executed_for v st q)
unfolding executed_for executed_ok with_time time_for
request-good v st q S G =
    let A = asked q G.ok in
    let R = result-good v st q S G in
    record {
      ok =
          and_both (command_ok q.command.op q.command.point q.command.argument) _ A.command
          (and_both (outcome_ok (result_for v st q).outcome (result_for v st q).quality) (id_ok q.command.client q.command.call && done_ok q.done q.command.call) R.outcome A.ids);
      client = G.client;
      call = G.call;
      value = R.fits (sound-entry st S q.command.point A.point).fits;
      time = noted v.timed;
    }
  where
    noted : (timed : Bool) → TimeFits timed (pick timed st.heard 0)
    noted true = S.heard
    noted false = refl

pub decided-good : {P : ℕ → Type 0} (st : State) (free : ℕ) (r : LogRecord) → SoundBy P st → Decides st free r → GoodRecord r
decided-good st free r S (by_request v q G e) = rw (request-passed v st free q r e).1 (request-good v st q S G)
decided-good st free r S (by_notice n G e) = rw (notice-passed st free n r e).2 G
decided-good st free r S (by_give p d e) =
    let k = give-passed st free p d r e in
    rw k.2 (record { point = k.0.point; destination = k.0.destination; move_number = omega (arith, k.0.move_number) })
decided-good st free r S (by_take i G e) = rw (take-passed st free i r e).2 G
decided-good st free r S (by_release p m l e) =
    rw (release-passed st free p m r e).2 (record { point = l; move_number = (S.point p l).move_number })

request-follows : {P : ℕ → Type 0} (v : Versions) (st : State) (free : ℕ) (q : Request) (r : LogRecord) → SoundBy P st → GoodRequest q → Requested v st free q r
    → follows st (executed (executed_for v st q)) ≡ true
unfolding follows executed_for with_time is_none
request-follows v st free q r S G k = rw (request-again _ _ _ _ k.first, k.fresh, new_again _ _ _ _ k.second) (result-good v st q S G).range

pub decided-follows : {P : ℕ → Type 0} (st : State) (free : ℕ) (r : LogRecord) → SoundBy P st → Decides st free r → follows st r ≡ true
unfolding follows
decided-follows st free r S (by_request v q G e) = let k = requested v st free q r e in rw k.same (request-follows v st free q r S G k)
decided-follows st free r S (by_notice n G e) = rw ((notice-passed st free n r e).2, notice-again st free n e)
decided-follows st free r S (by_give p d e) =
    let a = give-again st free p d e in
    rw ((give-passed st free p d r e).2, a.0, a.1, eqb_same (suc (point_at st p).move_number))
decided-follows st free r S (by_take i G e) = rw ((take-passed st free i r e).2, take_again st free i e)
decided-follows st free r S (by_release p m l e) = rw ((release-passed st free p m r e).2, release-again st free p m e, eqb_same (point_at st p).move_number)

pub decided-sound : {P : ℕ → Type 0} (st : State) (free : ℕ) (r : LogRecord) → SoundBy P st → Decides st free r → P (st.size + record_size r)
    → SoundBy P (apply_record r (st.size + record_size r) st)
decided-sound st free r S D z = follows-sound st r S (decided-good st free r S D) (decided-follows st free r S D) z

-- the log has space for what is appended
pub decided-space : (st : State) (free : ℕ) (r : LogRecord) → Decides st free r → record_size r ≤ free
unfolding record_size executed_for
decided-space st free r (by_request v q G e) = rw (request-passed v st free q r e).1 (request_terms v st free q r e).1
decided-space st free r (by_notice n G e) = let k = notice-passed st free n r e in rw k.2 k.1
decided-space st free r (by_give p d e) = let k = give-passed st free p d r e in rw k.2 k.1
decided-space st free r (by_take i G e) = let k = take-passed st free i r e in rw k.2 k.1
decided-space st free r (by_release p m l e) = let k = release-passed st free p m r e in rw k.2 k.1

pub sync-sound : {P : ℕ → Type 0} (st : State) (m n : ℕ) → SoundBy P st → on_sync st m ≡ marks n → SoundBy P (with_mark n st)
sync-sound st m n S e = let k = sync-passed st m n e in rw k.0 (sound-mark st m S k.1 k.2)

-- ---- the mark

request-mark : (v : Versions) (st : State) (m free : ℕ) (q : Request) (r : LogRecord) → decide_request v (with_mark m st) free q ≡ append r
    → decide_request v st free q ≡ append r
unfolding with_mark point_at executed_for result_for time_for
request-mark v st m free q r e =
    let k = requested v (with_mark m st) free q r e in
    requested_appends v st free q r (record { first = k.first; fresh = k.fresh; second = k.second; same = k.same })

-- what is decided does not depend on the mark
pub decides-mark : (st : State) (free : ℕ) (m : ℕ) (r : LogRecord) → Decides (with_mark m st) free r → Decides st free r
unfolding with_mark point_at decide_notice on_give take_tests decide_take decide_release
decides-mark st free m r (by_request v q G e) = by_request v q G (request-mark v st m free q r e)
decides-mark st free m r (by_notice n G e) = by_notice n G e
decides-mark st free m r (by_give p d e) = by_give p d e
decides-mark st free m r (by_take i G e) = by_take i G e
decides-mark st free m r (by_release p k l e) = by_release p k l e

-- nor does what a record changes
pub apply-mark : (r : LogRecord) (end m : ℕ) (st : State) → apply_record r end (with_mark m st) ≡ with_mark m (apply_record r end st)
unfolding apply_record with_mark apply_executed apply_gone apply_gave apply_took apply_released point_at
apply-mark (executed x) end m st = refl
apply-mark (gone n) end m st = refl
apply-mark (gave g) end m st = refl
apply-mark (took i) end m st = refl
apply-mark (released r) end m st = refl
