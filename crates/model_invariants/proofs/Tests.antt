-- The tests of States and Plan against their propositions, both ways.
--     entry_says, range_says             plan_entry_ok (entry-good: one way), inRange
--     command-fits, outcome_fits         command_ok, outcome_ok
--     time-fits, times-fit               a time of either form; those of a sound state, in the form that a program writes it in
--     point_says                         point_ok;     points-length, points-at, at-points: points_ok
--     floor_says                         floor_ok;     ascends, ascend-test: clients_ascend
--     window_says, completion_says       in_window (in_window: one way), completion_ok
--     differ, differ_test                ids_differ;   arrives, arrive-test: ends_from
--     sound_of, state_of_lem, fits_of        state_ok, of a state that fits, is Sound
-- Assumes nothing.
use Prim.Native.Nat.{ℕ, zero, suc, ◌+◌, ◌*◌, ◌≤◌, ◌<◌}
use mathlib.Core.Path.{◌≡◌, refl, sym, ap, ◌∙◌}
use mathlib.Core.Bool.{Bool, true, false, ◌&&◌, not, false≢true}
use mathlib.Core.List.{List, [], ◌∷◌}
use mathlib.Core.Logic.{◌≢◌}
use native.Mathlib.Omega.{arith}
use lib.ListN.{length, get_or}
use lib.Dec.{eqb, leb, ltb}
use borrow.Author.Tests.{eqb-true, eqb-false, ltb-true, leb-true, eq-eqb, ne_eqb, lt-ltb, le-leb, not-true}
use Rattle.model.specs.declared.PlanEntry.{PlanEntry}
use Rattle.model.specs.declared.Floor.{Floor}
use Rattle.model.specs.declared.Point.{Point}
use Rattle.model.specs.declared.Completion.{Completion}
use Rattle.model.specs.Numbers.{word}
use Rattle.model.specs.Limits.{last_point, last_server, last_outcome, last_quality, head_size, invalid, last_in_window}
use Rattle.model.specs.Tables.{every}
use Rattle.model.specs.Plan.{plan_entry_ok, in_range, entry_at, no_entry}
use Rattle.model.specs.Packets.{command_ok, outcome_ok, id_ok}
use Rattle.model.specs.Images.{floor_of, floor_ok, in_window, clients_ascend}
use Rattle.model.specs.States.{State, point_at, no_point, is_held, is_given, end_ok, ends_in_order, not_given, origin_ok, absent_ok, held_ok, given_ok, status_ok, point_ok, points_ok, keeps_records, completion_ok, is_id, ids_differ, ends_from, state_ok, absent as absentStatus, held as heldStatus, given as givenStatus, released_status}
use Rattle.model.specs.Versions.{Versions}
use Rattle.model.specs.Decisions.{timed_by}
use Rattle.model_laws.specs.Bytes.{All}
use Rattle.model_laws.specs.Fits.{TimeFits, FloorFits, PlanEntryFits, PointFits, CompletionFits, StateFits}
use Rattle.model_laws.proofs.Tests.{and_left, and_right, and_both, choose}
use Rattle.model_laws.proofs.Reflects.{Reflects, Test, le, eq, ne, flag, of, both, SaysAt, facts, passed, reflects, rows_hold, rows_pass, choose_or, not_of_false}
use Rattle.model_laws.proofs.Checkpoints.{Timely, timely_by}
use Rattle.model_laws.proofs.Commands.{command-parts}
use Rattle.model_invariants.specs.Sound.{GoodEntry, Ranged, GoodEnd, Origin, Standing, GoodPoint, Keeps, GoodFloor, Ascending, InWindow, GoodCompletion, Windowed, Other, Distinct, Arrived, SoundBy, Sound, CommandFits}
use Rattle.model_laws.proofs.Tables.{every_all, all_every, all_get_d}
use Rattle.model_invariants.proofs.Lists.{all_to, all_with, get_or_all, impossible}
use Rattle.model_invariants.proofs.Floors.{eqb_no, above_from}
use Rattle.model_invariants.proofs.Count.{windows_few}

pub split : (s t : Bool) → (s && t) ≡ true → (s ≡ true) × (t ≡ true)
split s t e = (and_left s t e, and_right s t e)

-- ---- plan and ranges

pub entry_says : (e : PlanEntry) → Reflects (e.high < word) (plan_entry_ok e) (GoodEntry e)
unfolding plan_entry_ok
entry_says e =
    reflects (le e.home last_server ∷ le e.low e.fallback ∷ le e.fallback e.high ∷ []) (λ f p. record { home = p 0; low = p 1; high = p 2; fits = f })
    (λ g k. k g.home g.low g.high)

pub entry-good : (e : PlanEntry) → GoodEntry e → plan_entry_ok e ≡ true
entry-good e g = (entry_says e).passes g

pub range_says : (e : PlanEntry) (v : ℕ) → Reflects Unit (in_range e v) (Ranged e v)
unfolding in_range
range_says e v = reflects (le e.low v ∷ le v e.high ∷ []) (λ u p. record { low = p 0; high = p 1 }) (λ h k. k h.low h.high)

-- ---- commands and outcomes

pub command-fits : (op p a : ℕ) → command_ok op p a ≡ true → CommandFits op p a
command-fits op p a h = let c = command-parts op p a h in record { op = c.op; point = c.point; argument = c.fits }

pub outcome_fits : (o q : ℕ) → outcome_ok o q ≡ true → (o ≤ last_outcome) × (q ≤ last_quality)
unfolding outcome_ok
outcome_fits o q h = (both (le o last_outcome) (le q last_quality)).holds h

-- ---- times of execution

pub time-fits : (timed : Bool) (t : ℕ) → TimeFits timed t → t < word
time-fits true t h = h
time-fits false t h = omega arith

-- ---- points

end_says : (size end : ℕ) → Reflects Unit (end_ok size end) (GoodEnd size end)
unfolding end_ok
end_says size end =
    let ts = le head_size end ∷ le end size ∷ [] in
    let late = leb head_size end && leb end size in
    record {
      holds = λ u. choose_or (λ t. t ≡ true → GoodEnd size end) (eqb end 0) late
          (λ e h. let z : end ≡ 0 = eqb-true _ _ e in record { past = λ (n : end ≢ 0). absurd (n z); within = omega arith })
          (λ e h. record { past = λ (n : end ≢ 0). facts ts h 0; within = facts ts h 1 });
      passes = λ g. choose_or (λ t. t ≡ true) (eqb end 0) late (λ e. refl) (λ e. passed ts (g.past (eqb_no _ _ e)) g.within);
    }

-- where a point came from
origin_says : (server : ℕ) (e : PlanEntry) (x : Point) → Reflects Unit (origin_ok server e x) (Origin server e.home x.taken_move x.take_end)
unfolding origin_ok
origin_says server e x =
    let ts = eq x.take_end 0 ∷ eq e.home server ∷ [] in
    let P : Type 0 = Origin server e.home x.taken_move x.take_end in
    record {
      holds = λ u. choose (λ t. t ≡ true → P) (eqb x.taken_move 0)
          (λ t h. record { founded = λ l. facts ts h 1; untaken = λ l. facts ts h 0; taken_at = λ l. absurd (l (eqb-true _ _ t)) })
          (λ t h. record { founded = λ l. absurd (eqb-false _ _ t l); untaken = λ l. absurd (eqb-false _ _ t l); taken_at = λ l. leb-true _ _ h });
      passes = λ o. choose (λ t. t ≡ true) (eqb x.taken_move 0)
          (λ t. passed ts (o.untaken (eqb-true _ _ t)) (o.founded (eqb-true _ _ t)))
          (λ t. le-leb _ _ (o.taken_at (eqb_no _ _ t)));
    }

-- what a status says, by status
module _ (server : ℕ) (e : PlanEntry) (x : Point) where
  abbrev absent_tests : List Test
  absent_tests =
      ne e.home server ∷ eq x.value e.fallback ∷ eq x.quality invalid ∷ eq x.move_number 0 ∷ eq x.taken_move 0 ∷ eq x.take_end 0 ∷ eq x.destination 0
      ∷ eq x.give_end 0 ∷ []

  abbrev held_tests : List Test
  held_tests = eq x.move_number x.taken_move ∷ both (eq x.destination 0) (eq x.give_end 0) ∷ of (origin_says server e x) ∷ []

  abbrev given_tests : List Test
  given_tests =
      eq x.move_number (suc x.taken_move) ∷ ne x.destination server ∷ flag (ends_in_order x.take_end x.give_end) ∷ of (origin_says server e x) ∷ []

  -- which status it is
  by_status : {R : Type 0} → (x.status ≡ absentStatus → R) → (x.status ≡ heldStatus → R) → (givenStatus ≤ x.status → R) → R
  by_status {R} f g h = go (eqb x.status absentStatus) (eqb x.status heldStatus) refl refl
    where
      past-held : x.status ≢ absentStatus → x.status ≢ heldStatus → givenStatus ≤ x.status
      past-held p q = omega arith

      go : (b d : Bool) → eqb x.status absentStatus ≡ b → eqb x.status heldStatus ≡ d → R
      go true d p q = f (eqb-true _ _ p)
      go false true p q = g (eqb-true _ _ q)
      go false false p q = h (past-held (eqb_no _ _ p) (eqb_no _ _ q))

  -- the tests of one status are those of all
  status-absent : x.status ≡ absentStatus → status_ok server e x ≡ absent_ok server e x
  unfolding status_ok
  status-absent z = rw (eq-eqb x.status absentStatus z)

  status-held : x.status ≡ heldStatus → status_ok server e x ≡ held_ok server e x
  unfolding status_ok
  status-held z = rw (ne_eqb x.status absentStatus (λ y. absurd (omega arith)), eq-eqb x.status heldStatus z)

  status-given : givenStatus ≤ x.status → status_ok server e x ≡ given_ok server e x
  unfolding status_ok
  status-given z = rw (ne_eqb x.status absentStatus (λ y. absurd (omega arith)), ne_eqb x.status heldStatus (λ y. absurd (omega arith)))

  standing_says : Reflects Unit (status_ok server e x) (Standing server e x)
  unfolding absent_ok held_ok given_ok not_given
  standing_says =
      record {
        holds = λ u t.
            let A : x.status ≡ absentStatus → (k : ℕ) → SaysAt absent_tests k = λ z. facts absent_tests (sym (status-absent z) ∙ t) in
            let H : x.status ≡ heldStatus → (k : ℕ) → SaysAt held_tests k = λ z. facts held_tests (sym (status-held z) ∙ t) in
            let G : givenStatus ≤ x.status → (k : ℕ) → SaysAt given_tests k = λ z. facts given_tests (sym (status-given z) ∙ t) in
            record {
              absent = λ z. record { home = A z 0; value = A z 1; quality = A z 2; move_number = A z 3; taken_move = A z 4; take_end = A z 5 };
              held = λ z. H z 0;
              given = λ z. G z 0;
              away = λ z. G z 1;
              ended = λ z. G z 2;
              stays = λ l. by_status (λ z. A z 6) (λ z. (H z 1).0) (λ z. absurd (omega arith));
              unended = λ l. by_status (λ z. A z 7) (λ z. (H z 1).1) (λ z. absurd (omega arith));
              origin = λ l. by_status (λ z. absurd (omega arith)) (λ z. H z 2) (λ z. G z 3);
            };
        passes = λ g. by_status
            (λ z.
            let u = g.absent z in
            status-absent z
            ∙ passed absent_tests u.home u.value u.quality u.move_number u.taken_move u.take_end (g.stays (omega arith)) (g.unended (omega arith)))
            (λ z. status-held z ∙ passed held_tests (g.held z) (g.stays (omega arith), g.unended (omega arith)) (g.origin (omega arith)))
            (λ z. status-given z ∙ passed given_tests (g.given z) (g.away z) (g.ended z) (g.origin (omega arith)));
      }

  -- the latest taken move is not above the move number
  taken-low : Standing server e x → x.taken_move ≤ x.move_number
  taken-low g =
      by_status (λ z. omega (arith, (g.absent z).taken_move)) (λ z. omega (arith, g.held z)) (λ z. omega (arith, g.given z))

pub point_says : (server size : ℕ) (e : PlanEntry) (x : Point) → Reflects (x.move_number < word) (point_ok server size e x) (GoodPoint server size e x)
unfolding point_ok
point_says server size e x =
    reflects
    (le x.status released_status ∷ le x.quality last_quality ∷ le x.destination last_server ∷ of (range_says e x.value) ∷ of (end_says size x.give_end)
    ∷ of (end_says size x.take_end) ∷ of (standing_says server e x) ∷ [])
    (λ f p.
    record {
      status = p 0;
      quality = p 1;
      destination = p 2;
      value = p 3;
      give_end = p 4;
      take_end = p 5;
      standing = p 6;
      taken_move = taken-low server e x (p 6);
      move_number = f;
    })
    (λ g k. k g.status g.quality g.destination g.value g.give_end g.take_end g.standing)

pub points-length : (server size : ℕ) (es : List PlanEntry) (xs : List Point) → points_ok server size es xs ≡ true → length xs ≡ length es
unfolding points_ok
points-length server size [] [] h = refl
points-length server size [] (x ∷ xs) h = absurd (false≢true h)
points-length server size (e ∷ es) [] h = absurd (false≢true h)
points-length server size (e ∷ es) (x ∷ xs) h =
    ap suc (points-length server size es xs (and_right (point_ok server size e x) (points_ok server size es xs) h))

pub points-at : (server size : ℕ) (es : List PlanEntry) (xs : List Point) → points_ok server size es xs ≡ true → (p : ℕ) → p < length es
    → point_ok server size (get_or es p no_entry) (get_or xs p no_point) ≡ true
unfolding points_ok
points-at server size [] [] h p l = absurd (omega arith)
points-at server size [] (x ∷ xs) h p l = absurd (false≢true h)
points-at server size (e ∷ es) [] h p l = absurd (false≢true h)
points-at server size (e ∷ es) (x ∷ xs) h zero l = and_left (point_ok server size e x) (points_ok server size es xs) h
points-at server size (e ∷ es) (x ∷ xs) h (suc p) l =
    points-at server size es xs (and_right (point_ok server size e x) (points_ok server size es xs) h) p (omega arith)

pub at-points : (server size : ℕ) (es : List PlanEntry) (xs : List Point) → length xs ≡ length es
    → ((p : ℕ) → p < length es → point_ok server size (get_or es p no_entry) (get_or xs p no_point) ≡ true) → points_ok server size es xs ≡ true
unfolding points_ok
at-points server size [] [] n h = refl
at-points server size [] (x ∷ xs) n h = absurd (omega arith)
at-points server size (e ∷ es) [] n h = absurd (omega arith)
at-points server size (e ∷ es) (x ∷ xs) n h =
    and_both (point_ok server size e x) (points_ok server size es xs) (h zero (omega arith))
    (at-points server size es xs (omega arith) (λ (p : ℕ) (l : p < length es). h (suc p) (omega arith)))

-- ---- floors

pub floor_says : (f : Floor) → Reflects (FloorFits f) (floor_ok f) (GoodFloor f)
unfolding floor_ok
floor_says f =
    reflects (le 1 f.client ∷ le 1 f.floor ∷ []) (λ h p. record { client = p 0; floor = p 1; client-fits = h.client; floor-fits = h.floor })
    (λ g k. k g.client g.floor)

pub floor-fits : (f : Floor) → GoodFloor f → FloorFits f
floor-fits f g = record { client = g.client-fits; floor = g.floor-fits }

pub ascends : (fs : List Floor) → clients_ascend fs ≡ true → Ascending fs
unfolding clients_ascend
ascends [] h = tt
ascends (f ∷ []) h = (tt, tt)
ascends (f ∷ (g ∷ gs)) h =
    let a = split (ltb f.client g.client) (clients_ascend (g ∷ gs)) h in
    let l : f.client < g.client = ltb-true _ _ a.0 in
    let r = ascends (g ∷ gs) a.1 in
    ((l, above_from f.client g.client gs (omega arith) r.0), r)

pub ascend_test : (fs : List Floor) → Ascending fs → clients_ascend fs ≡ true
unfolding clients_ascend
ascend_test [] a = refl
ascend_test (f ∷ []) a = refl
ascend_test (f ∷ (g ∷ gs)) a =
    and_both (ltb f.client g.client) (clients_ascend (g ∷ gs)) (lt-ltb _ _ a.0.0) (ascend_test (g ∷ gs) a.1)

-- ---- completion records

pub window_says : (floor call : ℕ) → Reflects Unit (in_window floor call) (InWindow floor call)
unfolding in_window
window_says floor call =
    reflects (le 1 floor ∷ le floor call ∷ le call (floor + last_in_window) ∷ []) (λ u p. record { known = p 0; low = p 1; high = p 2 }) (λ w k. k w.known w.low w.high)

pub in_window_lem : (floor call : ℕ) → in_window floor call ≡ true → InWindow floor call
in_window_lem floor call h = (window_says floor call).holds tt h

-- a point whose records stay
keeps_says : (x : Point) → Reflects Unit (keeps_records x) (Keeps x)
unfolding keeps_records is_held is_given
keeps_says x =
    record {
      holds = λ u. choose_or (λ t. t ≡ true → Keeps x) (eqb x.status heldStatus) (eqb x.status givenStatus)
          (λ e h. let z : x.status ≡ heldStatus = eqb-true _ _ e in record { low = omega arith; high = omega arith })
          (λ e h. let z : x.status ≡ givenStatus = eqb-true _ _ h in record { low = omega arith; high = omega arith });
      passes = λ k. choose_or (λ t. t ≡ true) (eqb x.status heldStatus) (eqb x.status givenStatus) (λ e. refl)
          (λ e. let n : x.status ≢ heldStatus = eqb_no _ _ e in eq-eqb x.status givenStatus (omega (arith, k.low, k.high)));
    }

-- what the test of a completion record says
pub record Passed (st : State) (r : Completion) : Type 0 where
  pub good : GoodCompletion st.plan st.size r
  pub kept : Keeps (point_at st r.command.point)
  pub window : Windowed st.floors r

pub completion_says : (st : State) (r : Completion) → Reflects (CompletionFits r) (completion_ok st r) (Passed st r)
unfolding completion_ok id_ok
completion_says st r =
    let c = r.command in
    reflects
    (flag (command_ok c.op c.point c.argument) ∷ flag (outcome_ok r.result.outcome r.result.quality) ∷ both (le 1 c.client) (le 1 c.call)
    ∷ of (range_says (entry_at st.plan c.point) r.result.value) ∷ of (keeps_says (point_at st c.point)) ∷ le head_size r.end ∷ le r.end st.size
    ∷ of (window_says (floor_of c.client st.floors) c.call) ∷ [])
    (λ f p.
    record {
      good =
          record {
            command = p 0;
            outcome = p 1;
            client = (p 2).0;
            call = (p 2).1;
            client-fits = f.client;
            call_fits = f.call;
            value = p 3;
            time = f.time;
            past = p 5;
            within = p 6;
          };
      kept = p 4;
      window = p 7;
    })
    (λ q k. let g = q.good in k g.command g.outcome (g.client, g.call) g.value q.kept g.past g.within q.window)

-- ---- ids

-- an id against a record's
pub is-id : (x c : ℕ) (r : Completion) → is_id x c r ≡ true → (r.command.client ≡ x) × (r.command.call ≡ c)
unfolding is_id
is-id x c r e = (both (eq r.command.client x) (eq r.command.call c)).holds e

pub id-is : (x c : ℕ) (r : Completion) → r.command.client ≡ x → r.command.call ≡ c → is_id x c r ≡ true
unfolding is_id
id-is x c r p q = (both (eq r.command.client x) (eq r.command.call c)).passes (p, q)

pub id-not : (x c : ℕ) (r : Completion) → (r.command.client ≡ x → r.command.call ≡ c → ⊥) → is_id x c r ≡ false
id-not x c r h = go (is_id x c r) refl
  where
    go : (b : Bool) → is_id x c r ≡ b → b ≡ false
    go true e = let k = is-id x c r e in absurd (h k.0 k.1)
    go false e = refl

pub not-id : (x c : ℕ) (r : Completion) → is_id x c r ≡ false → r.command.client ≡ x → r.command.call ≡ c → ⊥
not-id x c r e p q = impossible (sym (id-is x c r p q) ∙ e)

pub differ : (rs : List Completion) → ids_differ rs ≡ true → Distinct rs
unfolding ids_differ
differ [] h = tt
differ (r ∷ rs) h =
    let t : Completion → Bool = λ (q : Completion). not (is_id r.command.client r.command.call q) in
    let a = split (every t rs) (ids_differ rs) h in
    (all_to rs other (every_all t rs a.0), differ rs a.1)
  where
    other : (q : Completion) → not (is_id r.command.client r.command.call q) ≡ true → Other r q
    other q k c d = not-id r.command.client r.command.call q (not-true _ k) (sym c) (sym d)

pub differ_test : (rs : List Completion) → Distinct rs → ids_differ rs ≡ true
unfolding ids_differ
differ_test [] d = refl
differ_test (r ∷ rs) d =
    let t : Completion → Bool = λ (q : Completion). not (is_id r.command.client r.command.call q) in
    and_both (every t rs) (ids_differ rs)
    (all_every t rs (all_to rs other d.0)) (differ_test rs d.1)
  where
    other : (q : Completion) → Other r q → not (is_id r.command.client r.command.call q) ≡ true
    other q o = not_of_false _ (id-not r.command.client r.command.call q (λ c e. o (sym c) (sym e)))

-- ---- order of arrival

not-below : (last : ℕ) (rs : List Completion) → ends_from last rs ≡ true → All (λ (r : Completion). last ≤ r.end) rs
unfolding ends_from
not-below last [] h = tt
not-below last (r ∷ rs) h =
    let a = split (leb last r.end) (ends_from r.end rs) h in
    let l : last ≤ r.end = leb-true _ _ a.0 in
    (l, all_to rs (λ (q : Completion) (k : r.end ≤ q.end). omega arith) (not-below r.end rs a.1))

pub arrives : (last : ℕ) (rs : List Completion) → ends_from last rs ≡ true → Arrived rs
unfolding ends_from
arrives last [] h = tt
arrives last (r ∷ rs) h =
    let a = split (leb last r.end) (ends_from r.end rs) h in
    (not-below r.end rs a.1, arrives r.end rs a.1)

pub arrive_test : (last : ℕ) (rs : List Completion) → All (λ (r : Completion). last ≤ r.end) rs → Arrived rs → ends_from last rs ≡ true
unfolding ends_from
arrive_test last [] h a = refl
arrive_test last (r ∷ rs) h a = and_both (leb last r.end) (ends_from r.end rs) (le-leb _ _ h.0) (arrive_test r.end rs a.0 a.1)

-- ---- the whole state

abbrev state_tests : State → List Test
state_tests st =
    le st.server last_server ∷ le head_size st.mark ∷ le st.mark st.size ∷ flag (points_ok st.server st.size st.plan st.points)
    ∷ flag (every floor_ok st.floors) ∷ flag (clients_ascend st.floors) ∷ flag (every (completion_ok st) st.records) ∷ flag (ids_differ st.records)
    ∷ flag (ends_from head_size st.records) ∷ []

pub sound_of : (st : State) → state_ok st ≡ true → StateFits st → Sound st
unfolding state_ok point_at entry_at
sound_of st h F =
    let p = facts (state_tests st) h in
    let rs : All (Passed st) st.records = rows_hold (completion_says st) st.records F.records (p 6) in
    let windows : All (Windowed st.floors) st.records = all_to st.records (λ (r : Completion) (k : Passed st r). k.window) rs in
    let ids : Distinct st.records = differ st.records (p 7) in
    record {
      server = p 0;
      heard = F.heard;
      head = p 1;
      mark = p 2;
      size = F.size;
      plan = F.plan-count;
      entries = all_to st.plan (λ (e : PlanEntry) (f : PlanEntryFits e). (entry_says e).holds f.high f.ok) F.plan;
      points = F.points-count;
      point = λ (q : ℕ) (l : q ≤ last_point). point_of_lem q l (p 3);
      clients = F.floors-count;
      floors = rows_hold floor_says st.floors F.floors (p 4);
      ascending = ascends st.floors (p 5);
      count = omega (arith, windows_few st.floors st.records windows ids, F.floors-count);
      records = all_to st.records (λ (r : Completion) (k : Passed st r). k.good) rs;
      windows = windows;
      kept = all_to st.records (λ (r : Completion) (k : Passed st r). k.kept) rs;
      ids = ids;
      arrived = arrives head_size st.records (p 8);
    }
  where
    point_of_lem : (p : ℕ) → p ≤ last_point → points_ok st.server st.size st.plan st.points ≡ true
        → GoodPoint st.server st.size (entry_at st.plan p) (point_at st p)
    point_of_lem p l k =
        (point_says st.server st.size (get_or st.plan p no_entry) (get_or st.points p no_point)).holds
        (all_get_d PointFits st.points p no_point F.points (omega (arith, F.points-count))).move_number
        (points-at st.server st.size st.plan st.points k p (omega (arith, F.plan-count)))

pub state_of_lem : (st : State) → Sound st → state_ok st ≡ true
unfolding state_ok point_at entry_at
state_of_lem st S =
    let passes : All (Passed st) st.records
    = all_with st.records
    (λ (r : Completion) (g : GoodCompletion st.plan st.size r) (k : Keeps (point_at st r.command.point) × Windowed st.floors r).
    record { good = g; kept = k.0; window = k.1 })
    S.records
    (all_with st.records (λ (r : Completion) (k : Keeps (point_at st r.command.point)) (w : Windowed st.floors r). (k, w)) S.kept S.windows) in
    let past : All (λ (r : Completion). head_size ≤ r.end) st.records
    = all_to st.records (λ (r : Completion) (g : GoodCompletion st.plan st.size r). omega (arith, g.past)) S.records in
    passed (state_tests st) S.server S.head S.mark points (rows_pass floor_says st.floors S.floors) (ascend_test st.floors S.ascending)
    (rows_pass (completion_says st) st.records passes) (differ_test st.records S.ids) (arrive_test head_size st.records past S.arrived)
  where
    points : points_ok st.server st.size st.plan st.points ≡ true
    points =
        at-points st.server st.size st.plan st.points (S.points ∙ sym S.plan)
        (λ (p : ℕ) (l : p < length st.plan).
        (point_says st.server st.size (get_or st.plan p no_entry) (get_or st.points p no_point)).passes (S.point p (omega (arith, S.plan))))

-- the entry of a point in a sound state
pub sound-entry : {P : ℕ → Type 0} (st : State) → SoundBy P st → (p : ℕ) → p ≤ last_point → GoodEntry (entry_at st.plan p)
unfolding entry_at
sound-entry st S p l = all_get_d GoodEntry st.plan p no_entry S.entries (omega (arith, S.plan))

entry-fits : (e : PlanEntry) → GoodEntry e → PlanEntryFits e
entry-fits e g =
    record {
      low = omega (arith, g.low, g.high, g.fits);
      high = g.fits;
      fallback = omega (arith, g.high, g.fits);
      home = omega (arith, g.home);
      ok = entry-good e g;
    }

point-fits : (server size : ℕ) (e : PlanEntry) (x : Point) → size < word * word → GoodEntry e → GoodPoint server size e x → PointFits x
point-fits server size e x z E g =
    record {
      status = omega (arith, g.status);
      quality = omega (arith, g.quality);
      destination = omega (arith, g.destination);
      value = omega (arith, g.value.high, E.fits);
      move_number = g.move_number;
      taken_move = omega (arith, g.taken_move, g.move_number);
      give_end = omega (arith, g.give_end.within);
      take_end = omega (arith, g.take_end.within);
    }

record-fits : (st : State) → Sound st → (r : Completion) → GoodCompletion st.plan st.size r → CompletionFits r
record-fits st S r g =
    let c = command-fits r.command.op r.command.point r.command.argument g.command in
    let o = outcome_fits r.result.outcome r.result.quality g.outcome in
    let E = sound-entry st S r.command.point c.point in
    record {
      client = g.client-fits;
      call = g.call_fits;
      argument = c.argument;
      value = omega (arith, g.value.high, E.fits);
      op = omega (arith, c.op);
      outcome = omega (arith, o.0);
      quality = omega (arith, o.1);
      point = omega (arith, c.point);
      time = g.time;
      end = omega (arith, g.within, S.size);
    }

pub fits_of : (st : State) → Sound st → StateFits st
unfolding point_at
fits_of st S =
    record {
      server = omega (arith, S.server);
      heard = S.heard;
      size = S.size;
      mark = omega (arith, S.mark, S.size);
      plan = all_to st.plan entry-fits S.entries;
      plan-count = S.plan;
      points =
          get_or_all PointFits no_point st.points
          (λ (p : ℕ) (l : p < length st.points).
          let k : p ≤ last_point = omega (arith, S.points) in
          point-fits st.server st.size (entry_at st.plan p) (get_or st.points p no_point) S.size (sound-entry st S p k) (S.point p k));
      points-count = S.points;
      floors = all_to st.floors floor-fits S.floors;
      floors-count = S.clients;
      records = all_to st.records (record-fits st S) S.records;
      records-count = S.count;
    }

-- the times of the completion records fit the form that a program writes the state in: where it writes none there are none
pub times-fit : {P : ℕ → Type 0} (v : Versions) (st : State) → SoundBy P st → Timely (timed_by v st) st
times-fit v st S =
    timely_by v st (unfold Timely in all_to st.records (λ (r : Completion) (g : GoodCompletion st.plan st.size r). g.time) S.records)
