-- Each log record, applied to a sound state that it may follow, leaves a sound state.
--     sound-executed, sound-gone, sound-gave, sound-took, sound-released
--     sound-mark                         so does a mark from the present one to the log's length
-- Assumes nothing.
use Prim.Native.Nat.{ℕ, suc, ◌+◌, ◌≤◌, ◌<◌, max}
use mathlib.Core.Path.{◌≡◌, refl, sym, ◌∙◌, subst}
use mathlib.Core.Bool.{Bool, true, false, ◌||◌, not}
use mathlib.Core.List.{List, [], ◌∷◌, ◌++◌, map}
use mathlib.Core.Logic.{◌≢◌}
use native.Mathlib.Omega.{arith}
use lib.ListN.{length, get_or, set, length-set}
use lib.Seq.{get_or-set_same, get_or-set_other}
use lib.Dec.{eqb, leb}
use borrow.Author.Tests.{eqb-true, leb-true, lt-ltb, not-true}
use Rattle.model.specs.declared.PlanEntry.{PlanEntry}
use Rattle.model.specs.declared.Floor.{Floor}
use Rattle.model.specs.declared.Point.{Point}
use Rattle.model.specs.declared.Completion.{Completion}
use Rattle.model.specs.declared.ImageEntry.{ImageEntry}
use Rattle.model.specs.declared.Executed.{Executed}
use Rattle.model.specs.declared.Notice.{Notice}
use Rattle.model.specs.declared.Give.{Give}
use Rattle.model.specs.declared.Release.{Release}
use Rattle.model.specs.Numbers.{word}
use Rattle.model.specs.Tables.{keep}
use Rattle.model.specs.Limits.{last_point, last_server, last_quality, point_count, gone_size, give_size, take_head, release_size, head_size, client_count, record_count, last_in_window}
use Rattle.model.specs.Plan.{entry_at}
use Rattle.model.specs.Packets.{command_ok, outcome_ok, id_ok, done_ok}
use Rattle.model.specs.Images.{Image, floor_of, image_length}
use Rattle.model.specs.Logs.{executed_ok, executed_size_of}
use Rattle.model.specs.States.{State, point_at, no_point, ends_in_order, absent as absentStatus, held as heldStatus, given as givenStatus, released_status}
use Rattle.model.specs.Apply
use Rattle.model.specs.Apply.{raise, merge_floors, is_not_client, stays_over, stays_over_floors, is_of_other, is_on_other, completion, taken_record, apply_executed, apply_gone, apply_gave, apply_took, apply_released, with_mark}
use Rattle.model_laws.specs.Bytes.{All}
use Rattle.model_laws.proofs.Reflects.{le, flag, both, facts}
use Rattle.model_invariants.specs.Sound.{Ranged, GoodEnd, GoodPoint, Keeps, GoodFloor, Ascending, InWindow, GoodCompletion, Windowed, Other, Distinct, NotBelow, Arrived, SoundBy, Before, EntriesAscending, GoodImageEntry, GoodImage, GoodExecuted, GoodNotice, GoodGive, Tested}
use Rattle.model_invariants.specs.Passed.{PassedRequest, PassedGive, PassedTake, PassedRelease}
use Rattle.model_laws.proofs.Tables.{all_keep, all_append, length-keep}
use Rattle.model_invariants.proofs.Lists.{all_to, all_with, all_any, all_image, all_swap, keep-passes}
use Rattle.model_invariants.proofs.Floors.{eqb_no, raise-same, raise-other, raise-ascending, raise-good, raise-length, raise-known, merge_ascending, merge_good, merge_floor, ascending-keep, without_other}
use Rattle.model_invariants.proofs.Count.{pairs-keep, pairs-append, distinct-keep, distinct_append, windows_few}
use Rattle.model_invariants.proofs.Tests.{command-fits, outcome_fits, time-fits}

-- ---- what the log's growth keeps

end_grows : (s t end : ℕ) → s ≤ t → GoodEnd s end → GoodEnd t end
end_grows s t end h g = record { past = g.past; within = omega (arith, g.within) }

point_grows : (server s t : ℕ) (e : PlanEntry) (x : Point) → s ≤ t → GoodPoint server s e x → GoodPoint server t e x
point_grows server s t e x h g =
    record {
      status = g.status;
      quality = g.quality;
      destination = g.destination;
      value = g.value;
      give_end = end_grows s t x.give_end h g.give_end;
      take_end = end_grows s t x.take_end h g.take_end;
      standing = g.standing;
      taken_move = g.taken_move;
      move_number = g.move_number;
    }

record_grows : (plan : List PlanEntry) (s t : ℕ) → s ≤ t → (r : Completion) → GoodCompletion plan s r → GoodCompletion plan t r
record_grows plan s t h r g =
    record {
      command = g.command;
      outcome = g.outcome;
      client = g.client;
      call = g.call;
      client-fits = g.client-fits;
      call_fits = g.call_fits;
      value = g.value;
      time = g.time;
      past = g.past;
      within = omega (arith, g.within);
    }

-- a good point set among good ones
pub set-point : (server size : ℕ) (plan : List PlanEntry) (xs : List Point) (q : ℕ) (v : Point) → length xs ≡ point_count
    → ((p : ℕ) → p ≤ last_point → GoodPoint server size (entry_at plan p) (get_or xs p no_point))
    → (q ≤ last_point → GoodPoint server size (entry_at plan q) v)
    → (p : ℕ) → p ≤ last_point → GoodPoint server size (entry_at plan p) (get_or (set xs q v) p no_point)
set-point server size plan xs q v n h g p l = go (eqb p q) refl
  where
    go : (b : Bool) → eqb p q ≡ b → GoodPoint server size (entry_at plan p) (get_or (set xs q v) p no_point)
    go true e =
        let s : p ≡ q = eqb-true p q e in
        let m : q ≤ last_point = omega arith in
        subst (λ (k : ℕ). GoodPoint server size (entry_at plan k) (get_or (set xs q v) k no_point)) (sym s)
        (rw (get_or-set_same xs q v no_point (omega arith)) (g m))
    go false e = rw (get_or-set_other xs q p v no_point (eqb_no p q e)) (h p l)

-- records stay on points that keep theirs: the point q is set to v, and either v keeps its records or they are on other points
abbrev KeptOn : List Point → Completion → Type 0
KeptOn xs r = Keeps (get_or xs r.command.point no_point)

set-kept : (xs : List Point) (q : ℕ) (v : Point) → length xs ≡ point_count → Keeps v → (r : Completion) → r.command.point ≤ last_point → KeptOn xs r → KeptOn (set xs q v) r
set-kept xs q v n h r l k = go (eqb r.command.point q) refl
  where
    go : (b : Bool) → eqb r.command.point q ≡ b → KeptOn (set xs q v) r
    go true e =
        let s : q ≡ r.command.point = sym (eqb-true r.command.point q e) in
        subst (λ (i : ℕ). Keeps (get_or (set xs i v) r.command.point no_point)) (sym s) (rw (get_or-set_same xs r.command.point v no_point (omega arith)) h)
    go false e = rw (get_or-set_other xs q r.command.point v no_point (eqb_no r.command.point q e)) k

set_others : (xs : List Point) (q : ℕ) (v : Point) (r : Completion) → r.command.point ≢ q → KeptOn xs r → KeptOn (set xs q v) r
set_others xs q v r d k = rw (get_or-set_other xs q r.command.point v no_point d) k

-- the fields of a sound state whose log has grown from s to t
module _ {P : ℕ → Type 0} (st : State) (S : SoundBy P st) (t : ℕ) (h : st.size ≤ t) where
  points_grow : (p : ℕ) → p ≤ last_point → GoodPoint st.server t (entry_at st.plan p) (get_or st.points p no_point)
  unfolding point_at
  points_grow p l = point_grows st.server st.size t (entry_at st.plan p) (get_or st.points p no_point) h (S.point p l)

  records_grow : All (GoodCompletion st.plan t) st.records
  records_grow = all_to st.records (record_grows st.plan st.size t h) S.records

  -- a record that ends at t comes after all others
  before_new : (q : Completion) → q.end ≡ t → All (λ (r : Completion). NotBelow r q) st.records
  before_new q e = all_to st.records (λ (r : Completion) (g : GoodCompletion st.plan st.size r). omega (arith, g.within)) S.records

  -- a point is set that keeps its records: those there stay
  kept_by_lem : (q : ℕ) (v : Point) → Keeps v → All (KeptOn (set st.points q v)) st.records
  unfolding point_at
  kept_by_lem q v k =
      all_with st.records
      (λ (r : Completion) (g : GoodCompletion st.plan st.size r) (o : KeptOn st.points r).
      set-kept st.points q v S.points k r (command-fits r.command.op r.command.point r.command.argument g.command).point o)
      S.records S.kept

-- at most 16 for each of 32 clients
count_kept : (fs : List Floor) (rs : List Completion) → length fs ≤ client_count → All (Windowed fs) rs → Distinct rs → length rs ≤ record_count
count_kept fs rs h w d = omega (arith, windows_few fs rs w d)

-- ---- executed

-- what every record is after the client's floor rose to that of fs; client x apart, its call is not under its floor
record Reached (x : ℕ) (fs : List Floor) (r : Completion) : Type 0 where
  known : 1 ≤ floor_of r.command.client fs
  high : r.command.call ≤ floor_of r.command.client fs + last_in_window
  low : r.command.client ≢ x → floor_of r.command.client fs ≤ r.command.call

reached_old : (x n : ℕ) (fs : List Floor) → Ascending fs → (r : Completion) → Windowed fs r → Reached x (raise x n fs) r
reached_old x n fs a r w = go (eqb r.command.client x) refl
  where
    go : (b : Bool) → eqb r.command.client x ≡ b → Reached x (raise x n fs) r
    go true e =
        let s : r.command.client ≡ x = eqb-true _ _ e in
        let m : floor_of r.command.client (raise x n fs) ≡ max (floor_of r.command.client fs) n
        = subst (λ (y : ℕ). floor_of r.command.client (raise y n fs) ≡ max (floor_of r.command.client fs) n) s (raise-same r.command.client n fs a) in
        record { known = omega (arith, w.known); high = omega (arith, w.high); low = λ (k : r.command.client ≢ x). absurd (k s) }
    go false e =
        let m : floor_of r.command.client (raise x n fs) ≡ floor_of r.command.client fs = raise-other r.command.client x n fs (eqb_no _ _ e) in
        record { known = omega (arith, w.known); high = omega (arith, w.high); low = λ (k : r.command.client ≢ x). omega (arith, w.low) }

reached_stays : (x : ℕ) (fs : List Floor) (r : Completion) → Reached x fs r → stays_over x (floor_of x fs) r ≡ true → Windowed fs r
unfolding stays_over
reached_stays x fs r h t = go (eqb r.command.client x) refl t
  where
    go : (b : Bool) → eqb r.command.client x ≡ b → (not b || leb (floor_of x fs) r.command.call) ≡ true → Windowed fs r
    go true e k =
        let s : r.command.client ≡ x = eqb-true _ _ e in
        let l : floor_of r.command.client fs ≤ r.command.call = subst (λ (y : ℕ). floor_of y fs ≤ r.command.call) (sym s) (leb-true _ _ k) in
        record { known = h.known; low = l; high = h.high }
    go false e k = record { known = h.known; low = h.low (eqb_no _ _ e); high = h.high }

pub tested : (x : Executed) → executed_ok x ≡ true → Tested x
unfolding executed_ok id_ok done_ok
tested x e =
    let c = x.command in
    let p = facts
    (flag (command_ok c.op c.point c.argument) ∷ flag (outcome_ok x.result.outcome x.result.quality) ∷ both (le 1 c.client) (le 1 c.call)
    ∷ le 1 x.done ∷ le x.done c.call ∷ le c.call (x.done + last_in_window) ∷ []) e in
    record {
      command = p 0;
      outcome = p 1;
      quality = (outcome_fits x.result.outcome x.result.quality (p 1)).1;
      client = (p 2).0;
      call = (p 2).1;
      done = p 3;
      low = p 4;
      high = p 5;
    }

executed-point : (server size : ℕ) (e : PlanEntry) (x : Executed) (q : Point) → GoodPoint server size e q → q.status ≡ heldStatus → x.result.quality ≤ last_quality
    → Ranged e x.result.value → GoodPoint server size e (Apply.executed_point x q)
unfolding Apply.executed_point
executed-point server size e x q g s l v =
    let h = g.standing in
    record {
      status = g.status;
      quality = l;
      destination = g.destination;
      value = v;
      give_end = g.give_end;
      take_end = g.take_end;
      standing =
          record {
            absent = λ (k : q.status ≡ absentStatus). absurd (omega arith);
            held = h.held;
            given = h.given;
            away = h.away;
            ended = h.ended;
            stays = h.stays;
            unended = h.unended;
            origin = h.origin;
          };
      taken_move = g.taken_move;
      move_number = g.move_number;
    }

raise-place : (x n : ℕ) (fs : List Floor) → Ascending fs → length fs ≤ client_count → (floor_of x fs ≡ 0 → length fs < client_count) → length (raise x n fs) ≤ client_count
raise-place x n fs a h k = go (eqb (floor_of x fs) 0) refl
  where
    go : (b : Bool) → eqb (floor_of x fs) 0 ≡ b → length (raise x n fs) ≤ client_count
    go true e = omega (arith, k (eqb-true _ _ e), raise-length x n fs)
    go false e = omega (arith, raise-known x n fs a (eqb_no _ _ e))

pub sound-executed : {P : ℕ → Type 0} (st : State) (x : Executed) → SoundBy P st → GoodExecuted x → PassedRequest st x.command.client x.command.call x.command.point
    → Ranged (entry_at st.plan x.command.point) x.result.value → P (st.size + executed_size_of x.timed)
    → SoundBy P (apply_executed x (st.size + executed_size_of x.timed) st)
unfolding apply_executed Apply.executed_point point_at completion
sound-executed st x S G P v z =
    let end = st.size + executed_size_of x.timed in
    let up : st.size ≤ end = omega arith in
    let T = tested x G.ok in
    let fs = raise x.command.client x.done st.floors in
    let new = completion x end in
    let most : length fs ≤ client_count = raise-place x.command.client x.done st.floors S.ascending S.clients P.place in
    let same : floor_of x.command.client fs ≡ max (floor_of x.command.client st.floors) x.done = raise-same x.command.client x.done st.floors S.ascending in
    let t : Completion → Bool = stays_over x.command.client (floor_of x.command.client fs) in
    let here : Reached x.command.client fs new
    = record {
      known = omega (arith, T.done);
      high = omega (arith, T.high);
      low = λ (k : x.command.client ≢ x.command.client). absurd (k refl);
    } in
    let all : List Completion = st.records ++ (new ∷ []) in
    let reached : All (Reached x.command.client fs) all
    = all_append (Reached x.command.client fs) st.records (new ∷ [])
    (all_to st.records (reached_old x.command.client x.done st.floors S.ascending) S.windows) (here, tt) in
    let windows : All (Windowed fs) (keep t all)
    = all_with (keep t all) (reached_stays x.command.client fs) (all_keep (Reached x.command.client fs) t all reached) (keep-passes t all) in
    let distinct : Distinct (keep t all)
    = distinct-keep t all
    (distinct_append st.records (new ∷ []) S.ids (tt, tt)
    (all_to st.records (λ (r : Completion) (k : r.command.client ≡ x.command.client → r.command.call ≡ x.command.call → ⊥). (k, tt)) P.fresh)) in
    let point : Point = Apply.executed_point x (get_or st.points x.command.point no_point) in
    let points : List Point = set st.points x.command.point point in
    let keeps : Keeps point = record { low = omega (arith, P.held); high = omega (arith, P.held) } in
    let low : x.command.point ≤ last_point = (command-fits x.command.op x.command.point x.command.argument T.command).point in
    let here-kept : KeptOn points new = rw (get_or-set_same st.points x.command.point point no_point (omega (arith, S.points))) keeps in
    let good : GoodCompletion st.plan end new
    = record {
      command = T.command;
      outcome = T.outcome;
      client = T.client;
      call = T.call;
      client-fits = G.client;
      call_fits = G.call;
      value = v;
      time = time-fits x.timed x.result.time G.time;
      past = omega (arith, S.head, S.mark);
      within = omega arith;
    } in
    record {
      server = S.server;
      heard = S.heard;
      head = S.head;
      mark = omega (arith, S.mark);
      size = z;
      plan = S.plan;
      entries = S.entries;
      points = length-set st.points x.command.point _ ∙ S.points;
      point =
          set-point st.server end st.plan st.points x.command.point _ S.points (points_grow st S end up)
          (λ (l : x.command.point ≤ last_point).
          executed-point st.server end (entry_at st.plan x.command.point) x _ (points_grow st S end up x.command.point l) P.held T.quality v);
      clients = most;
      floors =
          raise-good x.command.client x.done st.floors
          (record { client = T.client; floor = T.done; client-fits = G.client; floor-fits = omega (arith, T.low, G.call) }) S.floors;
      ascending = raise-ascending x.command.client x.done st.floors S.ascending;
      count = count_kept fs (keep t all) most windows distinct;
      records = all_keep (GoodCompletion st.plan end) t all (all_append (GoodCompletion st.plan end) st.records (new ∷ []) (records_grow st S end up) (good, tt));
      windows = windows;
      kept = all_keep (KeptOn points) t all (all_append (KeptOn points) st.records (new ∷ []) (kept_by_lem st S end up x.command.point point keeps) (here-kept, tt));
      ids = distinct;
      arrived =
          pairs-keep NotBelow t all
          (pairs-append NotBelow st.records (new ∷ []) S.arrived (tt, tt)
          (all_to st.records (λ (r : Completion) (k : NotBelow r new). (k, tt)) (before_new st S end up new refl)));
    }

-- ---- gone

is_of-other : (x : ℕ) (r : Completion) → is_of_other x r ≡ true → r.command.client ≢ x
unfolding is_of_other
is_of-other x r e = eqb_no r.command.client x (not-true _ e)

pub sound-gone : {P : ℕ → Type 0} (st : State) (n : Notice) → SoundBy P st → GoodNotice n → P (st.size + gone_size)
    → SoundBy P (apply_gone n (st.size + gone_size) st)
unfolding apply_gone point_at
sound-gone st n S G z =
    let end = st.size + gone_size in
    let up : st.size ≤ end = omega arith in
    let fs = keep (is_not_client n.client) st.floors in
    let t : Completion → Bool = is_of_other n.client in
    let most : length fs ≤ client_count = omega (arith, length-keep (is_not_client n.client) st.floors, S.clients) in
    let windows : All (Windowed fs) (keep t st.records)
    = all_with (keep t st.records)
    (λ (r : Completion) (w : Windowed st.floors r) (e : t r ≡ true).
    let m : floor_of r.command.client fs ≡ floor_of r.command.client st.floors = without_other r.command.client n.client st.floors (is_of-other n.client r e) in
    subst (λ (f : ℕ). InWindow f r.command.call) (sym m) w)
    (all_keep (Windowed st.floors) t st.records S.windows) (keep-passes t st.records) in
    let distinct : Distinct (keep t st.records) = distinct-keep t st.records S.ids in
    record {
      server = S.server;
      heard = omega (arith, S.heard, G.time);
      head = S.head;
      mark = omega (arith, S.mark);
      size = z;
      plan = S.plan;
      entries = S.entries;
      points = S.points;
      point = points_grow st S end up;
      clients = most;
      floors = all_keep GoodFloor (is_not_client n.client) st.floors S.floors;
      ascending = ascending-keep (is_not_client n.client) st.floors S.ascending;
      count = count_kept fs (keep t st.records) most windows distinct;
      records = all_keep (GoodCompletion st.plan end) t st.records (records_grow st S end up);
      windows = windows;
      kept = all_keep (KeptOn st.points) t st.records S.kept;
      ids = distinct;
      arrived = pairs-keep NotBelow t st.records S.arrived;
    }

-- ---- give

later_ends : (e f : ℕ) → e < f → ends_in_order e f ≡ true
unfolding ends_in_order
later_ends e f h = rw (lt-ltb e f h)

gave-point : (server size : ℕ) (e : PlanEntry) (g : Give) (q : Point) → GoodPoint server size e q → q.status ≡ heldStatus → q.take_end < size → g.destination ≤ last_server
    → g.destination ≢ server → g.move_number ≡ suc q.move_number → g.move_number < word → head_size < size → GoodPoint server size e (Apply.gave_point g size q)
unfolding Apply.gave_point
gave-point server size e g q h s u d o n f l =
    record {
      status = omega arith;
      quality = h.quality;
      destination = d;
      value = h.value;
      give_end = record { past = λ (k : size ≢ 0). omega (arith, l); within = omega arith };
      take_end = h.take_end;
      standing =
          record {
            absent = λ (k : ◌≡◌ {A = ℕ} givenStatus absentStatus). absurd (omega arith);
            held = λ (k : ◌≡◌ {A = ℕ} givenStatus heldStatus). absurd (omega arith);
            given = λ (k : givenStatus ≤ givenStatus). omega (arith, h.standing.held s);
            away = λ (k : givenStatus ≤ givenStatus). o;
            ended = λ (k : givenStatus ≤ givenStatus). later_ends q.take_end size u;
            stays = λ (k : givenStatus < givenStatus). absurd (omega arith);
            unended = λ (k : givenStatus < givenStatus). absurd (omega arith);
            origin = λ (k : heldStatus ≤ givenStatus). h.standing.origin (omega arith);
          };
      taken_move = omega (arith, h.taken_move);
      move_number = f;
    }

pub sound-gave : {P : ℕ → Type 0} (st : State) (g : Give) → SoundBy P st → GoodGive g → PassedGive st g.point g.destination
    → g.move_number ≡ suc (point_at st g.point).move_number → P (st.size + give_size)
    → SoundBy P (apply_gave g (st.size + give_size) st)
unfolding apply_gave Apply.gave_point point_at
sound-gave st g S G P m z =
    let end = st.size + give_size in
    let up : st.size ≤ end = omega arith in
    record {
      server = S.server;
      heard = S.heard;
      head = S.head;
      mark = omega (arith, S.mark);
      size = z;
      plan = S.plan;
      entries = S.entries;
      points = length-set st.points g.point _ ∙ S.points;
      point =
          set-point st.server end st.plan st.points g.point _ S.points (points_grow st S end up)
          (λ (l : g.point ≤ last_point).
          gave-point st.server end (entry_at st.plan g.point) g _ (points_grow st S end up g.point l) P.held
          (omega (arith, (S.point g.point l).take_end.within)) P.destination P.other m G.move_number
          (omega (arith, S.head, S.mark)));
      clients = S.clients;
      floors = S.floors;
      ascending = S.ascending;
      count = S.count;
      records = records_grow st S end up;
      windows = S.windows;
      kept = kept_by_lem st S end up g.point _ (record { low = omega arith; high = omega arith });
      ids = S.ids;
      arrived = S.arrived;
    }

-- ---- release

on_other : (p : ℕ) (r : Completion) → is_on_other p r ≡ true → r.command.point ≢ p
unfolding is_on_other
on_other p r e = eqb_no r.command.point p (not-true _ e)

-- a point is set, and its records go
kept_others : {P : ℕ → Type 0} (st : State) → SoundBy P st → (q : ℕ) (v : Point) → All (KeptOn (set st.points q v)) (keep (is_on_other q) st.records)
unfolding point_at
kept_others st S q v =
    all_with (keep (is_on_other q) st.records)
    (λ (r : Completion) (k : KeptOn st.points r) (e : is_on_other q r ≡ true). set_others st.points q v r (on_other q r e) k)
    (all_keep (KeptOn st.points) (is_on_other q) st.records S.kept) (keep-passes (is_on_other q) st.records)

released-point : (server size : ℕ) (e : PlanEntry) (q : Point) → GoodPoint server size e q → q.status ≡ givenStatus
    → GoodPoint server size e (Apply.released_point q)
unfolding Apply.released_point
released-point server size e q h s =
    let l : givenStatus ≤ q.status = omega arith in
    record {
      status = omega arith;
      quality = h.quality;
      destination = h.destination;
      value = h.value;
      give_end = h.give_end;
      take_end = h.take_end;
      standing =
          record {
            absent = λ (k : ◌≡◌ {A = ℕ} released_status absentStatus). absurd (omega arith);
            held = λ (k : ◌≡◌ {A = ℕ} released_status heldStatus). absurd (omega arith);
            given = λ (k : givenStatus ≤ released_status). h.standing.given l;
            away = λ (k : givenStatus ≤ released_status). h.standing.away l;
            ended = λ (k : givenStatus ≤ released_status). h.standing.ended l;
            stays = λ (k : released_status < givenStatus). absurd (omega arith);
            unended = λ (k : released_status < givenStatus). absurd (omega arith);
            origin = λ (k : heldStatus ≤ released_status). h.standing.origin (omega arith);
          };
      taken_move = h.taken_move;
      move_number = h.move_number;
    }

pub sound-released : {P : ℕ → Type 0} (st : State) (r : Release) → SoundBy P st → (m : ℕ) → PassedRelease st r.point m → P (st.size + release_size)
    → SoundBy P (apply_released r (st.size + release_size) st)
unfolding apply_released point_at
sound-released st r S m P z =
    let end = st.size + release_size in
    let up : st.size ≤ end = omega arith in
    let t : Completion → Bool = is_on_other r.point in
    record {
      server = S.server;
      heard = S.heard;
      head = S.head;
      mark = omega (arith, S.mark);
      size = z;
      plan = S.plan;
      entries = S.entries;
      points = length-set st.points r.point _ ∙ S.points;
      point =
          set-point st.server end st.plan st.points r.point _ S.points (points_grow st S end up)
          (λ (l : r.point ≤ last_point). released-point st.server end (entry_at st.plan r.point) _ (points_grow st S end up r.point l) P.given);
      clients = S.clients;
      floors = S.floors;
      ascending = S.ascending;
      count = omega (arith, length-keep t st.records, S.count);
      records = all_keep (GoodCompletion st.plan end) t st.records (records_grow st S end up);
      windows = all_keep (Windowed st.floors) t st.records S.windows;
      kept = kept_others st S r.point _;
      ids = distinct-keep t st.records S.ids;
      arrived = pairs-keep NotBelow t st.records S.arrived;
    }

-- ---- take

took-point : (server end : ℕ) (e : PlanEntry) (i : Image) → GoodImage i → Ranged e i.value → 1 ≤ i.move_number → head_size < end
    → GoodPoint server end e (Apply.took_point i end)
unfolding Apply.took_point
took-point server end e i G v n l =
    record {
      status = omega arith;
      quality = G.quality;
      destination = omega arith;
      value = v;
      give_end = record { past = λ (k : ◌≢◌ {A = ℕ} 0 0). absurd (k refl); within = omega arith };
      take_end = record { past = λ (k : end ≢ 0). omega (arith, l); within = omega arith };
      standing =
          record {
            absent = λ (k : ◌≡◌ {A = ℕ} heldStatus absentStatus). absurd (omega arith);
            held = λ (k : ◌≡◌ {A = ℕ} heldStatus heldStatus). refl;
            given = λ (k : givenStatus ≤ heldStatus). absurd (omega arith);
            away = λ (k : givenStatus ≤ heldStatus). absurd (omega arith);
            ended = λ (k : givenStatus ≤ heldStatus). absurd (omega arith);
            stays = λ (k : heldStatus < givenStatus). refl;
            unended = λ (k : heldStatus < givenStatus). refl;
            origin =
                λ (k : heldStatus ≤ heldStatus).
                record {
                  founded = λ (z : i.move_number ≡ 0). absurd (omega arith);
                  untaken = λ (z : i.move_number ≡ 0). absurd (omega arith);
                  taken_at = λ (z : i.move_number ≢ 0). omega arith;
                };
          };
      taken_move = omega arith;
      move_number = G.move_number;
    }

-- ids of an image's records stay distinct once they are completion records
before-other : (p end : ℕ) (e f : ImageEntry) → Before e f → Other (taken_record p end e) (taken_record p end f)
unfolding taken_record
before-other p end e f b k l = omega (arith, b.call k)

pub taken-distinct : (p end : ℕ) (es : List ImageEntry) → EntriesAscending es → Distinct (map (taken_record p end) es)
taken-distinct p end [] a = tt
taken-distinct p end (e ∷ es) a =
    (all_image (Other (taken_record p end e)) (taken_record p end) es (all_to es (before-other p end e) a.0), taken-distinct p end es a.1)

-- what every record is once floors are merged
record Under (fs : List Floor) (r : Completion) : Type 0 where
  known : 1 ≤ floor_of r.command.client fs
  high : r.command.call ≤ floor_of r.command.client fs + last_in_window

under_stays : (fs : List Floor) (r : Completion) → Under fs r → stays_over_floors fs r ≡ true → Windowed fs r
unfolding stays_over_floors
under_stays fs r u e = record { known = u.known; low = leb-true _ _ e; high = u.high }

-- all end at the take's end
taken-arrived : (p end : ℕ) (es : List ImageEntry) → Arrived (map (taken_record p end) es)
unfolding taken_record
taken-arrived p end [] = tt
taken-arrived p end (e ∷ es) =
    (all_image (NotBelow (taken_record p end e)) (taken_record p end) es (all_any es (λ (f : ImageEntry). omega arith)), taken-arrived p end es)

pub sound-took : {P : ℕ → Type 0} (st : State) (i : Image) → SoundBy P st → GoodImage i → PassedTake st i → P (st.size + (take_head + image_length i))
    → SoundBy P (apply_took i (st.size + (take_head + image_length i)) st)
unfolding apply_took Apply.took_point point_at taken_record image_length
sound-took st i S G P z =
    let end = st.size + (take_head + image_length i) in
    let up : st.size ≤ end = omega arith in
    let fs = merge_floors i.floors st.floors in
    let t : Completion → Bool = is_on_other i.point in
    let own : List Completion = keep t st.records in
    let new : List Completion = map (taken_record i.point end) i.entries in
    let all : List Completion = own ++ new in
    let u : Completion → Bool = stays_over_floors fs in
    let under_own : All (Under fs) own
    = all_to own
    (λ (r : Completion) (w : Windowed st.floors r).
    let m = merge_floor r.command.client i.floors st.floors G.ascending S.ascending in
    record { known = omega (arith, m, w.known); high = omega (arith, m, w.high) })
    (all_keep (Windowed st.floors) t st.records S.windows) in
    let under_new : All (Under fs) new
    = all_image (Under fs) (taken_record i.point end) i.entries
    (all_to i.entries
    (λ (e : ImageEntry) (g : GoodImageEntry i.timed i.point i.floors e).
    let m = merge_floor e.client i.floors st.floors G.ascending S.ascending in
    record { known = omega (arith, m, g.window.known); high = omega (arith, m, g.window.high) })
    G.entries) in
    let windows : All (Windowed fs) (keep u all)
    = all_with (keep u all) (under_stays fs) (all_keep (Under fs) u all (all_append (Under fs) own new under_own under_new)) (keep-passes u all) in
    let good_new : All (GoodCompletion st.plan end) new
    = all_image (GoodCompletion st.plan end) (taken_record i.point end) i.entries
    (all_with i.entries
    (λ (e : ImageEntry) (g : GoodImageEntry i.timed i.point i.floors e) (v : Ranged (entry_at st.plan i.point) e.result.value).
    record {
      command = g.command;
      outcome = g.outcome;
      client = g.client;
      call = g.call;
      client-fits = g.client-fits;
      call_fits = g.call_fits;
      value = v;
      time = time-fits i.timed e.result.time g.time;
      past = omega (arith, S.head, S.mark);
      within = omega arith;
    })
    G.entries P.values.values) in
    let cross : All (λ (r : Completion). All (Other r) new) own
    = all_with own
    (λ (r : Completion) (o : All (λ (e : ImageEntry). r.command.client ≡ e.client → r.command.call ≡ e.call → r.command.point ≡ i.point) i.entries) (k : t r ≡ true).
    all_image (Other r) (taken_record i.point end) i.entries
    (all_to i.entries
    (λ (e : ImageEntry) (f : r.command.client ≡ e.client → r.command.call ≡ e.call → r.command.point ≡ i.point) (c : r.command.client ≡ e.client) (d : r.command.call ≡ e.call).
    on_other i.point r k (f c d))
    o))
    (all_keep (λ (r : Completion). All (λ (e : ImageEntry). r.command.client ≡ e.client → r.command.call ≡ e.call → r.command.point ≡ i.point) i.entries) t st.records
    (all_swap (λ (e : ImageEntry) (r : Completion). r.command.client ≡ e.client → r.command.call ≡ e.call → r.command.point ≡ i.point) i.entries st.records P.free))
    (keep-passes t st.records) in
    let point : Point = Apply.took_point i end in
    let points : List Point = set st.points i.point point in
    let here-kept : Keeps (get_or points i.point no_point)
    = rw (get_or-set_same st.points i.point point no_point (omega (arith, S.points, G.point))) (record { low = omega arith; high = omega arith }) in
    let kept_new : All (KeptOn points) new
    = all_image (KeptOn points) (taken_record i.point end) i.entries (all_any i.entries (λ (e : ImageEntry). here-kept)) in
    let behind : All (λ (r : Completion). All (NotBelow r) new) own
    = all_to own
    (λ (r : Completion) (g : GoodCompletion st.plan st.size r).
    all_image (NotBelow r) (taken_record i.point end) i.entries (all_any i.entries (λ (e : ImageEntry). omega (arith, g.within))))
    (all_keep (GoodCompletion st.plan st.size) t st.records S.records) in
    let distinct : Distinct (keep u all)
    = distinct-keep u all
    (distinct_append own new (distinct-keep t st.records S.ids) (taken-distinct i.point end i.entries G.ids) cross) in
    record {
      server = S.server;
      heard = omega (arith, S.heard, G.heard);
      head = S.head;
      mark = omega (arith, S.mark);
      size = z;
      plan = S.plan;
      entries = S.entries;
      points = length-set st.points i.point _ ∙ S.points;
      point =
          set-point st.server end st.plan st.points i.point _ S.points (points_grow st S end up)
          (λ (l : i.point ≤ last_point).
          took-point st.server end (entry_at st.plan i.point) i G P.values.value (omega (arith, P.newer)) (omega (arith, S.head, S.mark)));
      clients = P.clients;
      floors = merge_good i.floors st.floors G.floors S.floors;
      ascending = merge_ascending i.floors st.floors S.ascending;
      count = count_kept fs (keep u all) P.clients windows distinct;
      records =
          all_keep (GoodCompletion st.plan end) u all
          (all_append (GoodCompletion st.plan end) own new (all_keep (GoodCompletion st.plan end) t st.records (records_grow st S end up)) good_new);
      windows = windows;
      kept = all_keep (KeptOn points) u all (all_append (KeptOn points) own new (kept_others st S i.point point) kept_new);
      ids = distinct;
      arrived =
          pairs-keep NotBelow u all
          (pairs-append NotBelow own new (pairs-keep NotBelow t st.records S.arrived) (taken-arrived i.point end i.entries) behind);
    }

-- ---- the mark

pub sound-mark : {P : ℕ → Type 0} (st : State) (m : ℕ) → SoundBy P st → st.mark ≤ m → m ≤ st.size → SoundBy P (with_mark m st)
unfolding with_mark point_at
sound-mark st m S l h =
    record {
      server = S.server;
      heard = S.heard;
      head = omega (arith, S.head);
      mark = h;
      size = S.size;
      plan = S.plan;
      entries = S.entries;
      points = S.points;
      point = S.point;
      clients = S.clients;
      floors = S.floors;
      ascending = S.ascending;
      count = S.count;
      records = S.records;
      windows = S.windows;
      kept = S.kept;
      ids = S.ids;
      arrived = S.arrived;
    }
