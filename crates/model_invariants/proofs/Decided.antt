-- The inversion of a server's decisions: what each call's tests say where they are passed, once for all proofs. The tests are walked by
-- `search passing`, so that no proof counts or names them: a test more in a call changes nothing here, unless its fact is wanted.
--     find-fresh, fresh-find, find-has   no record of an id is found, and none has it; one is found
--     request-tests, new_tests, held-tests, fetch-tests, sync-tests, notice-tests, give-tests, image-tests, take-tests, receipt-tests, release-tests
--     place-tests, point-tests           a give's places, a point's number in front of these; tests-held: held-tests back
--     request-again, new_again, notice-again, give-again, take_again, release-again     the tests as recovery asks them: lease passed, just the space needed
--     request_still                      a request that passed its first tests passes them again
--     founded-executes                   a founded server executes a first request
--     requested, requested_appends, request-passed, request_terms     decide_request
--     notice-passed, give-passed, take-passed, release-passed, sync-passed     what the others do, and the log's space
--     request-byte, held-byte, new_byte  the numbers of a request's refusals have one byte
--     request-other, held-other, new_other     8 and 9 come from a new id's tests alone
-- Assumes nothing.
use Prim.Native.Nat.{ℕ, zero, suc, ◌+◌, ◌≤◌, ◌<◌}
use mathlib.Core.Path.{◌≡◌, refl, sym, ap, ◌∙◌, subst}
use mathlib.Core.Bool.{Bool, true, false, ◌&&◌, ◌||◌, not, false≢true}
use mathlib.Core.List.{List, [], ◌∷◌, map}
use mathlib.Core.Option.{Option, none, some}
use mathlib.Core.Logic.{◌≢◌}
use native.Mathlib.Omega.{arith}
use lib.ListN.{length, get_or}
use lib.Dec.{eqb, leb, ltb}
use borrow.Author.Tests.{eqb-true, ltb-true, leb-false, eq-eqb, ne_eqb, le-ltb, le-leb, lt-leb}
use Rattle.model.specs.Versions.{Versions}
use Rattle.model.specs.declared.PlanEntry.{PlanEntry}
use Rattle.model.specs.declared.Point.{Point}
use Rattle.model.specs.declared.Completion.{Completion}
use Rattle.model.specs.declared.ImageEntry.{ImageEntry}
use Rattle.model.specs.declared.Request.{Request}
use Rattle.model.specs.declared.Notice.{Notice}
use Rattle.model.specs.Choice.{pick, reply, append, marks, ◌if◌else◌, passed}
use Rattle.model.specs.Refusals.{malformed, clients_full, log_full}
use Rattle.model.specs.Limits.{last_point, client_count, gone_size, give_size, take_head, release_size}
use Rattle.model.specs.Tables.{every}
use Rattle.model.specs.Plan.{entry_at, no_entry}
use Rattle.model.specs.Packets.{result_bytes}
use Rattle.model.specs.Images.{Image, floor_of, not_known, image_length, image_in_range, entry_in_range}
use Rattle.model.specs.Logs.{LogRecord, executed, gone, gave, took, released, executed_size_of}
use Rattle.model.specs.States.{State, point_at, is_held, is_given, is_synced, is_id, held, given, no_point}
use Rattle.model.specs.Apply.{founded_point, founded}
use Rattle.model.specs.Decisions.{Decided, timed_by, find, same_command, request_refusal, held_refusal, on_held, new_refusal, on_new, on_id, executed_for, decide_request, fetch_refusal, notice_refusal, decide_notice, places_bad, give_refusal, on_give, image_refusal, free_for, take_refusal, take_tests, decide_take, receipt_refusal, release_refusal, decide_release, sync_refusal, on_sync, result_of_record}
use Rattle.model_laws.specs.Bytes.{All}
use Rattle.model_laws.proofs.Tests.{or_left, or_right}
use Rattle.model_laws.proofs.Reflects.{flag, of, both}
use Rattle.model_laws.proofs.Refused.{unless_passed, unless_does, unless_appends, passing, small-if, other-if, other_test}
use Rattle.model_invariants.specs.Sound.{Ranged, GoodValues}
use Rattle.model_invariants.specs.Passed.{Fresh, Admits, FirstRequest, PassedRequest, PassedGive, FreeFor, PassedTake, PassedRelease}
use Rattle.model_laws.proofs.Tables.{every_all}
use Rattle.model_invariants.proofs.Lists.{all_to}
use Rattle.model_invariants.proofs.Floors.{eqb_no}
use Rattle.model_invariants.proofs.Tests.{is-id, id-is, id-not, not-id, range_says}

-- ---- request

pub find-fresh : (x c : ℕ) (rs : List Completion) → find x c rs ≡ none → Fresh x c rs
unfolding find
find-fresh x c [] e = tt
find-fresh x c (r ∷ rs) e = go (is_id x c r) refl e (find-fresh x c rs)
  where
    go : (b : Bool) → is_id x c r ≡ b → pick b (some r) (find x c rs) ≡ none → (find x c rs ≡ none → Fresh x c rs) → Fresh x c (r ∷ rs)
    go true i k ih = let z : ◌≡◌ {A = ℕ} 0 1 = cc in absurd (omega arith)
    go false i k ih = (not-id x c r i, ih k)

-- a record found is held, and has the id
pub find-has : (P : Completion → Type 0) (x c : ℕ) (rs : List Completion) (r : Completion) → find x c rs ≡ some r → All P rs
    → P r × (r.command.client ≡ x) × (r.command.call ≡ c)
unfolding find
find-has P x c [] r e h = let z : ◌≡◌ {A = ℕ} 0 1 = cc in absurd (omega arith)
find-has P x c (s ∷ rs) r e h = go (is_id x c s) refl e (find-has P x c rs r)
  where
    go : (b : Bool) → is_id x c s ≡ b → pick b (some s) (find x c rs) ≡ some r → (find x c rs ≡ some r → All P rs → P r × (r.command.client ≡ x) × (r.command.call ≡ c))
        → P r × (r.command.client ≡ x) × (r.command.call ≡ c)
    go true i k ih =
        let q : s ≡ r = cc in
        let d = is-id x c s i in
        subst (λ (y : Completion). P y × (y.command.client ≡ x) × (y.command.call ≡ c)) q (h.0, d.0, d.1)
    go false i k ih = ih k h.1

pub fresh-find : (x c : ℕ) (rs : List Completion) → Fresh x c rs → find x c rs ≡ none
unfolding find
fresh-find x c [] h = refl
fresh-find x c (r ∷ rs) h = rw (id-not x c r h.0) (fresh-find x c rs h.1)

pub request-tests : (x : Point) (over : Bool) (floor call : ℕ) → request_refusal x over floor call ≡ passed
    → (x.status ≡ held) × (over ≡ false) × (floor ≤ call)
unfolding request_refusal is_held
request-tests x over floor call e = search passing depth 12

pub request-again : (x : Point) (over : Bool) (floor call : ℕ) → request_refusal x over floor call ≡ passed → request_refusal x false floor call ≡ passed
request-again x over floor call e = subst (λ (b : Bool). request_refusal x b floor call ≡ passed) (request-tests x over floor call e).1 e

-- of a point with the same status, under another floor that is not above the call
pub request_still : (x y : Point) (over : Bool) (floor after call : ℕ) → y.status ≡ x.status → after ≤ call → request_refusal x over floor call ≡ passed
    → request_refusal y over after call ≡ passed
unfolding request_refusal is_held
request_still x y over floor after call s l e = let f : ltb call floor ≡ false = search passing depth 12 in rw (s, le-ltb call after l) (rw f at e)

full_not : (floor clients : ℕ) → (not_known floor && leb client_count clients) ≡ false → floor ≡ 0 → clients < client_count
full_not floor clients e z = leb-false _ _ (sym (rw (eq-eqb _ _ z)) ∙ e)

pub new_tests : (floor clients free need : ℕ) → new_refusal floor clients free need ≡ passed → (floor ≡ 0 → clients < client_count) × (need ≤ free)
unfolding new_refusal
new_tests floor clients free need e = (full_not floor clients (search passing depth 12), search passing depth 12)

pub new_again : (floor clients free need : ℕ) → new_refusal floor clients free need ≡ passed → new_refusal floor clients need need ≡ passed
unfolding new_refusal
new_again floor clients free need e = let s : ltb free need ≡ false = search passing depth 12 in rw (le-ltb need need (omega arith)) (rw s at e)

pub held-tests : (mark : ℕ) (q : Request) (r : Completion) → held_refusal mark q r ≡ passed → (same_command r q ≡ true) × (r.end ≤ mark)
unfolding held_refusal is_synced
held-tests mark q r e = search passing depth 12

pub tests-held : (mark : ℕ) (q : Request) (r : Completion) → same_command r q ≡ true → r.end ≤ mark → held_refusal mark q r ≡ passed
unfolding held_refusal is_synced
tests-held mark q r s l = rw (s, le-leb r.end mark l)

held_never : (v : Versions) (st : State) (q : Request) (s : Completion) (r : LogRecord) → on_held v st q s ≡ append r → ⊥
unfolding on_held
held_never v st q s r e =
    let k = unless_appends (held_refusal st.mark q s) (reply (result_bytes (result_of_record (timed_by v st) s))) e in
    let c : reply (result_bytes (result_of_record (timed_by v st) s)) ≡ append r = k.1 in
    let z : ◌≡◌ {A = ℕ} 0 1 = cc in
    omega arith

-- what an appended record comes from
pub record Requested (v : Versions) (st : State) (free : ℕ) (q : Request) (r : LogRecord) : Type 0 where
  pub first : Admits st q
  pub fresh : find q.command.client q.command.call st.records ≡ none
  pub second : new_refusal (floor_of q.command.client st.floors) (length st.floors) free (executed_size_of v.timed) ≡ passed
  pub same : r ≡ executed (executed_for v st q)

pub requested : (v : Versions) (st : State) (free : ℕ) (q : Request) (r : LogRecord) → decide_request v st free q ≡ append r → Requested v st free q r
unfolding decide_request on_id on_new
requested v st free q r e =
    let a = unless_appends _ _ e in
    go a.0 (find q.command.client q.command.call st.records) refl a.1
  where
    go : Admits st q → (o : Option Completion) → find q.command.client q.command.call st.records ≡ o → on_id v st free q o ≡ append r → Requested v st free q r
    go a none f k =
        let b = unless_appends (new_refusal (floor_of q.command.client st.floors) (length st.floors) free (executed_size_of v.timed)) (append (executed (executed_for v st q))) k in
        let m : append (executed (executed_for v st q)) ≡ append r = b.1 in
        record { first = a; fresh = f; second = b.0; same = cc }
    go a (some s) f k = absurd (held_never v st q s r k)

pub requested_appends : (v : Versions) (st : State) (free : ℕ) (q : Request) (r : LogRecord) → Requested v st free q r → decide_request v st free q ≡ append r
unfolding decide_request on_id on_new
requested_appends v st free q r k =
    unless_passed _ _ k.first ∙ rw k.fresh (unless_passed _ (append (executed (executed_for v st q))) k.second) ∙ ap append (sym k.same)

pub request-passed : (v : Versions) (st : State) (free : ℕ) (q : Request) (r : LogRecord) → decide_request v st free q ≡ append r
    → PassedRequest st q.command.client q.command.call q.command.point × (r ≡ executed (executed_for v st q))
request-passed v st free q r e =
    let k = requested v st free q r e in
    let a = request-tests _ _ _ _ k.first in
    let b = new_tests _ _ _ _ k.second in
    (record { held = a.0; over = a.2; fresh = find-fresh _ _ _ k.fresh; place = b.0 }, k.same)

pub request_terms : (v : Versions) (st : State) (free : ℕ) (q : Request) (r : LogRecord) → decide_request v st free q ≡ append r
    → (st.heard < q.lease) × (executed_size_of v.timed ≤ free)
request_terms v st free q r e =
    let k = requested v st free q r e in
    (leb-false _ _ (request-tests _ _ _ _ k.first).1, (new_tests _ _ _ _ k.second).1)

-- ---- a first request, at a founded server

founded-held : (n : ℕ) (es : List PlanEntry) (p : ℕ) → p < length es → (get_or es p no_entry).home ≡ n → (get_or (map (founded_point n) es) p no_point).status ≡ held
unfolding founded_point
founded-held n [] p l e = absurd (omega arith)
founded-held n (x ∷ es) zero l e = rw (eq-eqb _ _ e)
founded-held n (x ∷ es) (suc p) l e = founded-held n es p (omega arith) e

pub founded-executes : (v : Versions) (plan : List PlanEntry) (n free : ℕ) (q : Request) → q.command.point < length plan → FirstRequest plan n q
    → executed_size_of v.timed ≤ free
    → decide_request v (founded plan n) free q ≡ append (executed (executed_for v (founded plan n) q))
unfolding founded point_at entry_at floor_of find request_refusal is_held new_refusal
founded-executes v plan n free q p F space =
    requested_appends v (founded plan n) free q _ (record {
      first = rw (founded-held n plan q.command.point p F.home, lt-leb q.lease 0 F.lease, le-ltb q.command.call 0 (omega arith));
      fresh = refl;
      second = rw (le-ltb free (executed_size_of v.timed) space);
      same = refl;
    })

-- ---- notice

pub notice-tests : (floor free : ℕ) → notice_refusal floor free ≡ passed → (floor ≢ 0) × (gone_size ≤ free)
unfolding notice_refusal
notice-tests floor free e = (eqb_no floor 0 (search passing depth 12), search passing depth 12)

pub notice-again : (st : State) (free : ℕ) (n : Notice) {r : LogRecord} → decide_notice st free n ≡ append r → notice_refusal (floor_of n.client st.floors) gone_size ≡ passed
unfolding decide_notice notice_refusal
notice-again st free n k =
    let e = (unless_appends (notice_refusal (floor_of n.client st.floors) free) _ k).0 in
    let s : ltb free gone_size ≡ false = search passing depth 12 in
    rw s at e

pub notice-passed : (st : State) (free : ℕ) (n : Notice) (r : LogRecord) → decide_notice st free n ≡ append r
    → (floor_of n.client st.floors ≢ 0) × (gone_size ≤ free) × (r ≡ gone n)
unfolding decide_notice
notice-passed st free n r e =
    let a = unless_appends (notice_refusal (floor_of n.client st.floors) free) (append (gone n)) e in
    let b = notice-tests (floor_of n.client st.floors) free a.0 in
    let m : append (gone n) ≡ append r = a.1 in
    (b.0, b.1, cc)

-- ---- give

-- a point's number in front of its tests, and a give's places
pub point-tests : (p n : ℕ) → (malformed if ltb last_point p else n) ≡ 0 → (p ≤ last_point) × (n ≡ 0)
point-tests p n e = search passing depth 12

pub place-tests : (p d n : ℕ) → (malformed if places_bad p d else n) ≡ 0 → (places_bad p d ≡ false) × (n ≡ 0)
place-tests p d n e = search passing depth 12

pub give-tests : (st : State) (free p d : ℕ) → places_bad p d ≡ false → give_refusal (point_at st p) st.server free d ≡ passed
    → PassedGive st p d × (give_size ≤ free)
unfolding places_bad give_refusal is_held
give-tests st free p d g e = (
  record {
    point = search (passing, or_left) depth 12;
    destination = search (passing, or_right) depth 12;
    held = search passing depth 12;
    other = eqb_no d st.server (search passing depth 12);
    move_number = search passing depth 12;
  },
  search passing depth 12,
)

pub give-again : (st : State) (free p d : ℕ) {r : LogRecord} → on_give st free p d ≡ append r
    → (places_bad p d ≡ false) × (give_refusal (point_at st p) st.server give_size d ≡ passed)
unfolding on_give give_refusal
give-again st free p d k =
    let b = place-tests p d (give_refusal (point_at st p) st.server free d) (unless_appends _ _ k).0 in
    let e = b.1 in
    let s : ltb free give_size ≡ false = search passing depth 12 in
    (b.0, rw s at e)

pub give-passed : (st : State) (free p d : ℕ) (r : LogRecord) → on_give st free p d ≡ append r
    → PassedGive st p d × (give_size ≤ free) × (r ≡ gave (record { point = p; destination = d; move_number = suc (point_at st p).move_number }))
unfolding on_give
give-passed st free p d r e =
    let x = append (gave (record { point = p; destination = d; move_number = suc (point_at st p).move_number })) in
    let a = unless_appends _ x e in
    let b = place-tests p d _ a.0 in
    let c = give-tests st free p d b.0 b.1 in
    let m : x ≡ append r = a.1 in
    (c.0, c.1, cc)

-- ---- release

pub release-tests : (st : State) (free p m : ℕ) → release_refusal (point_at st p) free m ≡ passed → PassedRelease st p m × (release_size ≤ free)
unfolding release_refusal is_given
release-tests st free p m e = (record { given = search passing depth 12; newer = search passing depth 12 }, search passing depth 12)

-- with the point's own move for the receipt's
pub release-again : (st : State) (free p m : ℕ) {r : LogRecord} → decide_release st free p m ≡ append r
    → release_refusal (point_at st p) release_size (point_at st p).move_number ≡ passed
unfolding decide_release release_refusal
release-again st free p m k =
    let n : ℕ = (point_at st p).move_number in
    let e = (unless_appends (release_refusal (point_at st p) free m) _ k).0 in
    let s : ltb free release_size ≡ false = search passing depth 12 in
    let l : ltb m n ≡ false = search passing depth 12 in
    rw (le-ltb n n (omega arith)) (rw (s, l) at e)

pub release-passed : (st : State) (free p m : ℕ) (r : LogRecord) → decide_release st free p m ≡ append r
    → PassedRelease st p m × (release_size ≤ free) × (r ≡ released (record { point = p; move_number = (point_at st p).move_number }))
unfolding decide_release
release-passed st free p m r e =
    let x = append (released (record { point = p; move_number = (point_at st p).move_number })) in
    let a = unless_appends (release_refusal (point_at st p) free m) x e in
    let b = release-tests st free p m a.0 in
    let k : x ≡ append r = a.1 in
    (b.0, b.1, cc)

-- ---- take

pub image_in_range_lem : (e : PlanEntry) (i : Image) → image_in_range e i ≡ true → GoodValues e i
unfolding image_in_range entry_in_range
image_in_range_lem e i h =
    let p = (both (of (range_says e i.value)) (flag (every (entry_in_range e) i.entries))).holds h in
    let values : All (λ (r : ImageEntry). Ranged e r.result.value) i.entries =
    all_to i.entries (λ (r : ImageEntry) (k : entry_in_range e r ≡ true). (range_says e r.result.value).holds tt k) (every_all (entry_in_range e) i.entries p.1) in
    record { value = p.0; values = values }

-- an id held for another point, as a test and as a fact
one_free : (p : ℕ) (e : ImageEntry) (r : Completion) → (not (is_id e.client e.call r) || eqb r.command.point p) ≡ true
    → r.command.client ≡ e.client → r.command.call ≡ e.call → r.command.point ≡ p
one_free p e r h c d = eqb-true _ _ (go (is_id e.client e.call r) (id-is e.client e.call r c d) h)
  where
    go : (b : Bool) → b ≡ true → (not b || eqb r.command.point p) ≡ true → eqb r.command.point p ≡ true
    go true k l = l
    go false k l = absurd (false≢true k)

pub free_for_lem : (p : ℕ) (rs : List Completion) (e : ImageEntry) → free_for p rs e ≡ true → FreeFor p rs e
unfolding free_for
free_for_lem p rs e h = all_to rs (one_free p e) (every_all (λ (r : Completion). not (is_id e.client e.call r) || eqb r.command.point p) rs h)

pub frees_all : (p : ℕ) (rs : List Completion) (es : List ImageEntry) → every (free_for p rs) es ≡ true → All (FreeFor p rs) es
frees_all p rs es h = all_to es (λ (x : ImageEntry) (k : free_for p rs x ≡ true). free_for_lem p rs x k) (every_all (free_for p rs) es h)

pub take-tests : (st : State) (free : ℕ) (i : Image) → take_tests st free i ≡ passed → PassedTake st i × (take_head + image_length i ≤ free)
unfolding take_tests take_refusal is_held
take-tests st free i e = (
  record {
    values = image_in_range_lem (entry_at st.plan i.point) i (search passing depth 12);
    destination = search passing depth 12;
    newer = search passing depth 12;
    away = eqb_no (point_at st i.point).status held (search (passing, or_left) depth 12);
    free = frees_all i.point st.records i.entries (search (passing, or_right) depth 12);
    clients = search passing depth 12;
  },
  search passing depth 12,
)

pub take_again : (st : State) (free : ℕ) (i : Image) {r : LogRecord} → decide_take st free i ≡ append r → take_tests st (take_head + image_length i) i ≡ passed
unfolding decide_take take_tests take_refusal
take_again st free i k =
    let n : ℕ = take_head + image_length i in
    let e = (unless_appends (take_tests st free i) _ k).0 in
    let s : ltb free n ≡ false = search passing depth 12 in
    rw (le-ltb n n (omega arith)) (rw s at e)

pub take-passed : (st : State) (free : ℕ) (i : Image) (r : LogRecord) → decide_take st free i ≡ append r
    → PassedTake st i × (take_head + image_length i ≤ free) × (r ≡ took i)
unfolding decide_take
take-passed st free i r e =
    let a = unless_appends (take_tests st free i) (append (took i)) e in
    let b = take-tests st free i a.0 in
    let m : append (took i) ≡ append r = a.1 in
    (b.0, b.1, cc)

-- ---- sync and the calls that reply

pub sync-tests : (mark size m : ℕ) → sync_refusal mark size m ≡ passed → (mark ≤ m) × (m ≤ size)
unfolding sync_refusal
sync-tests mark size m e = (search (passing, or_left) depth 12, search (passing, or_right) depth 12)

pub sync-passed : (st : State) (m n : ℕ) → on_sync st m ≡ marks n → (n ≡ m) × (st.mark ≤ m) × (m ≤ st.size)
unfolding on_sync
sync-passed st m n e =
    let a = unless_does (sync_refusal st.mark st.size m) (marks m) (marks n) (λ k h. let z : ◌≡◌ {A = ℕ} 0 1 = cc in omega arith) e in
    let b = sync-tests st.mark st.size m a.0 in
    let c : ◌≡◌ {A = Decided} (marks m) (marks n) = a.1 in
    (cc, b.0, b.1)

pub fetch-tests : (mark : ℕ) (r : Completion) → fetch_refusal mark r ≡ passed → r.end ≤ mark
unfolding fetch_refusal is_synced
fetch-tests mark r e = search passing depth 12

pub image-tests : (x : Point) (mark : ℕ) → image_refusal x mark ≡ passed → (x.status ≡ given) × (x.give_end ≤ mark)
unfolding image_refusal is_given is_synced
image-tests x mark e = search passing depth 12

pub receipt-tests : (x : Point) (mark : ℕ) → receipt_refusal x mark ≡ passed → (x.taken_move ≢ 0) × (x.take_end ≤ mark)
unfolding receipt_refusal is_synced
receipt-tests x mark e = (eqb_no x.taken_move 0 (search passing depth 12), search passing depth 12)

-- ---- the numbers of a request's refusals

pub request-byte : (x : Point) (over : Bool) (floor call : ℕ) → request_refusal x over floor call < 256
unfolding request_refusal
request-byte x over floor call = search (ltb-true, small-if) depth 16

pub held-byte : (mark : ℕ) (q : Request) (r : Completion) → held_refusal mark q r < 256
unfolding held_refusal
held-byte mark q r = search (ltb-true, small-if) depth 16

pub new_byte : (floor clients free need : ℕ) → new_refusal floor clients free need < 256
unfolding new_refusal
new_byte floor clients free need = search (ltb-true, small-if) depth 16

-- of 8 and 9, no place and no space, only where a new id is refused so: every other number is neither
neither : (n k : ℕ) → (ltb n clients_full || ltb log_full n) ≡ true → clients_full ≤ k → k ≤ log_full → eqb n k ≡ false
neither n k o l h = ne_eqb n k (λ e. go (ltb n clients_full) refl (ltb log_full n) refl o e)
  where
    go : (a : Bool) → ltb n clients_full ≡ a → (b : Bool) → ltb log_full n ≡ b → (a || b) ≡ true → n ≡ k → ⊥
    go true p b q r e = omega (arith, ltb-true n clients_full p)
    go false p true q r e = omega (arith, ltb-true log_full n q)
    go false p false q r e = absurd (false≢true r)

pub request-other : (x : Point) (over : Bool) (floor call n : ℕ) → clients_full ≤ n → n ≤ log_full → eqb (request_refusal x over floor call) n ≡ false
unfolding request_refusal
request-other x over floor call n l h = search (other-if, neither) depth 16

pub held-other : (mark : ℕ) (q : Request) (r : Completion) (n : ℕ) → clients_full ≤ n → n ≤ log_full → eqb (held_refusal mark q r) n ≡ false
unfolding held_refusal
held-other mark q r n l h = search (other-if, neither) depth 16

pub new_other : (floor clients free need n : ℕ) → clients_full ≤ n → n ≤ log_full → (n ≡ clients_full → (not_known floor && leb client_count clients) ≡ false)
    → (n ≡ log_full → ltb free need ≡ false) → eqb (new_refusal floor clients free need) n ≡ false
unfolding new_refusal
new_other floor clients free need n l h full space =
    search (other-if, neither, other_test clients_full n (not_known floor && leb client_count clients) full, other_test log_full n (ltb free need) space) depth 16
