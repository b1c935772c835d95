-- Checkpoints of sound states: what a checkpoint keeps is sound, and it is read back.
--     rebased-sound, rebased_sound64     a state without its places, by any bound of the log's length, and in 64 bits
--     start-rebased                      one that a log starts from is the same without them
--     restorable                         the ends of a sound state's points and completion records are those that a checkpoint tells
--     restored-back, framed_back, checkpoint-back     a checkpoint with any bytes behind it, in a form that holds the times, gives the
--                                        state that it was made of, places aside
--     checkpoint-length, checkpoint-fits, checkpoint-bytes     its length, and that it is bytes
-- Assumes nothing.
use Prim.Native.Nat.{◌-◌, ℕ, ◌+◌, ◌*◌, ◌≤◌, ◌<◌}
use mathlib.Core.Path.{◌≡◌, refl, sym, ◌∙◌, subst}
use mathlib.Core.Bool.{Bool, true, false, ◌&&◌, ◌||◌}
use mathlib.Core.List.{List, [], ◌∷◌, ◌++◌, map}
use mathlib.Core.Logic.{◌≢◌}
use mathlib.Core.Option.{some}
use native.Mathlib.Omega.{arith}
use lib.ListN.{length, get_or, replicate, length-append, length-replicate, length-map, get_or-map}
use lib.Dec.{eqb, leb, ltb, lit<}
use borrow.Author.Tests.{eqb-true, ltb-true, leb-true, leb-false, eq-eqb, ne_eqb}
use Rattle.model.specs.declared.PlanEntry.{PlanEntry}
use Rattle.model.specs.declared.Point.{Point}
use Rattle.model.specs.declared.Completion.{Completion}
use Rattle.model.specs.Choice.{pick}
use Rattle.model.specs.Limits.{last_point, record_count, head_size, checkpoint_size, checkpoint_record}
use Rattle.model.specs.Plan.{entry_at}
use Rattle.model.specs.States.{State, point_at, no_point, ends_in_order, state_end, record_row, state_bytes, load, sound, absent as absentStatus, held as heldStatus, given as givenStatus}
use Rattle.model.specs.Checkpoints.{placed_point, placed_record, placed, end_before, rebased, records_part, checkpoint_record_of, checkpoint_bytes, restored_bytes, checkpoint_framed, checkpoint_state}
use Rattle.model_laws.specs.Bytes.{Bytes, All}
use Rattle.model_laws.proofs.States.{state-length, load-front, sound-front}
use Rattle.model_laws.proofs.Fronts.{Told}
use Rattle.model_laws.proofs.Checkpoints.{Restorable, Timely, restored-front, restored_blank, is_framed, front_framed, checkpoint-bytes-length, checkpoint-bytes-fit}
use Rattle.model_invariants.specs.Sound.{GoodEnd, Standing, GoodPoint, GoodCompletion, Windowed, Keeps, Other, Distinct, Arrived, SoundBy, Sound}
use Rattle.model_invariants.specs.History.{StartBy}
use Rattle.model_invariants.proofs.Lists.{all_to, all_image, get_or_all}
use Rattle.model_invariants.proofs.Floors.{eqb_no}
use Rattle.model_invariants.proofs.Tests.{split, state_of_lem, fits_of}

-- ---- an end before this log

before : (e : ℕ) → 1 ≤ e → end_before e ≡ head_size
unfolding end_before
before e h = rw (ne_eqb e 0 (λ (z : e ≡ 0). omega arith))

before-none : (e : ℕ) → e ≡ 0 → end_before e ≡ 0
unfolding end_before
before-none e z = rw (eq-eqb e 0 z)

before-least : (e : ℕ) → end_before e ≤ head_size
unfolding end_before
before-least e = go (eqb e 0)
  where
    go : (b : Bool) → pick b 0 head_size ≤ head_size
    go true = omega arith
    go false = omega arith

before-past : (e : ℕ) → end_before e ≢ 0 → head_size ≤ end_before e
unfolding end_before
before-past e = go (eqb e 0)
  where
    go : (b : Bool) → pick b 0 head_size ≢ 0 → head_size ≤ pick b 0 head_size
    go true n = absurd (n refl)
    go false n = omega arith

before-end : (e : ℕ) → GoodEnd head_size (end_before e)
before-end e = record { past = before-past e; within = before-least e }

-- the later of two ends is one
later : (e f : ℕ) → ends_in_order e f ≡ true → 1 ≤ f
unfolding ends_in_order
later e f h = go (ltb e f) refl h
  where
    go : (b : Bool) → ltb e f ≡ b → (b || (eqb e head_size && eqb f head_size)) ≡ true → 1 ≤ f
    go true p k = let l : e < f = ltb-true _ _ p in omega arith
    go false p k = let z : f ≡ head_size = eqb-true _ _ (split (eqb e head_size) (eqb f head_size) k).1 in omega arith

before-order : (e f : ℕ) → ends_in_order e f ≡ true → ends_in_order (end_before e) (end_before f) ≡ true
unfolding ends_in_order end_before
before-order e f h = rw (before f (later e f h)) (go (eqb e 0))
  where
    go : (b : Bool) → (ltb (pick b 0 head_size) head_size || (eqb (pick b 0 head_size) head_size && eqb head_size head_size)) ≡ true
    go true = refl
    go false = refl

-- ---- points

placed-standing : (server : ℕ) (e : PlanEntry) (x : Point) → Standing server e x → Standing server e (placed_point end_before x)
unfolding placed_point
placed-standing server e x g =
    record {
      absent =
          λ (k : x.status ≡ absentStatus).
          let u = g.absent k in
          record { home = u.home; value = u.value; quality = u.quality; move_number = u.move_number; taken_move = u.taken_move; take_end = before-none x.take_end u.take_end };
      held = g.held;
      given = g.given;
      away = g.away;
      ended = λ (k : givenStatus ≤ x.status). before-order x.take_end x.give_end (g.ended k);
      stays = g.stays;
      unended = λ (k : x.status < givenStatus). before-none x.give_end (g.unended k);
      origin =
          λ (k : heldStatus ≤ x.status).
          let o = g.origin k in
          record {
            founded = o.founded;
            untaken = λ (z : x.taken_move ≡ 0). before-none x.take_end (o.untaken z);
            taken_at = λ (n : x.taken_move ≢ 0). omega (arith, before x.take_end (o.taken_at n));
          };
    }

placed-good : (server size : ℕ) (e : PlanEntry) (x : Point) → GoodPoint server size e x → GoodPoint server head_size e (placed_point end_before x)
unfolding placed_point
placed-good server size e x g =
    record {
      status = g.status;
      quality = g.quality;
      destination = g.destination;
      value = g.value;
      give_end = before-end x.give_end;
      take_end = before-end x.take_end;
      standing = unfold placed_point in placed-standing server e x g.standing;
      taken_move = g.taken_move;
      move_number = g.move_number;
    }

pub rebased-point : (st : State) (p : ℕ) → point_at (rebased st) p ≡ placed_point end_before (point_at st p)
unfolding point_at rebased placed placed_point end_before
rebased-point st p = get_or-map (placed_point end_before) st.points p no_point

-- the ends that a checkpoint tells
point-told : (server size : ℕ) (e : PlanEntry) (x : Point) → GoodPoint server size e x → Told x
point-told server size e x g = record { give = give (leb givenStatus x.status) refl; took = took (eqb x.taken_move 0) refl }
  where
    s : Standing server e x
    s = g.standing

    give : (b : Bool) → leb givenStatus x.status ≡ b → end_before x.give_end ≡ pick b head_size 0
    give true k = before x.give_end (later x.take_end x.give_end (s.ended (leb-true _ _ k)))
    give false k = before-none x.give_end (s.unended (leb-false _ _ k))

    took : (b : Bool) → eqb x.taken_move 0 ≡ b → end_before x.take_end ≡ pick b 0 head_size
    took true k = before-none x.take_end (untaken (eqb x.status absentStatus) refl)
      where
        untaken : (b : Bool) → eqb x.status absentStatus ≡ b → x.take_end ≡ 0
        untaken true h = (s.absent (eqb-true _ _ h)).take_end
        untaken false h =
            let n : x.status ≢ absentStatus = eqb_no _ _ h in
            (s.origin (omega arith)).untaken (eqb-true _ _ k)
    took false k = before x.take_end (taken (eqb x.status absentStatus) refl)
      where
        taken : (b : Bool) → eqb x.status absentStatus ≡ b → 1 ≤ x.take_end
        taken true h = absurd (eqb_no _ _ k (s.absent (eqb-true _ _ h)).taken_move)
        taken false h =
            let n : x.status ≢ absentStatus = eqb_no _ _ h in
            (s.origin (omega arith)).taken_at (eqb_no _ _ k)

-- ---- completion records

placed-completion : {size : ℕ} (plan : List PlanEntry) (r : Completion) → GoodCompletion plan size r → GoodCompletion plan head_size (placed_record end_before r)
unfolding placed_record
placed-completion plan r g =
    let e : end_before r.end ≡ head_size = before r.end (omega (arith, g.past)) in
    record {
      command = g.command;
      outcome = g.outcome;
      client = g.client;
      call = g.call;
      client-fits = g.client-fits;
      call_fits = g.call_fits;
      value = g.value;
      time = g.time;
      past = omega arith;
      within = omega arith;
    }

placed-distinct : (f : ℕ → ℕ) (rs : List Completion) → Distinct rs → Distinct (map (placed_record f) rs)
unfolding placed_record
placed-distinct f [] d = tt
placed-distinct f (r ∷ rs) d = (
  all_image (Other (placed_record f r)) (placed_record f) rs d.0,
  placed-distinct f rs d.1,
)

-- of ends that are all 8 none is below one before
same-arrived : (rs : List Completion) → All (λ (r : Completion). r.end ≡ head_size) rs → Arrived rs
same-arrived [] h = tt
same-arrived (r ∷ rs) h = (
  all_to rs (λ (q : Completion) (e : q.end ≡ head_size). omega (arith, h.0)) h.1,
  same-arrived rs h.1,
)

-- ---- what a checkpoint keeps is sound

module _ {P : ℕ → Type 0} (st : State) (S : SoundBy P st) where
  size-before : end_before st.size ≡ head_size
  size-before = before st.size (omega (arith, S.head, S.mark))

  mark-before : end_before st.mark ≡ head_size
  mark-before = before st.mark (omega (arith, S.head))

  ends_before : All (λ (r : Completion). end_before r.end ≡ head_size) st.records
  ends_before = all_to st.records (λ (r : Completion) (g : GoodCompletion st.plan st.size r). before r.end (omega (arith, g.past))) S.records

  rebased-points : (p : ℕ) → p ≤ last_point → GoodPoint (rebased st).server (rebased st).size (entry_at (rebased st).plan p) (point_at (rebased st) p)
  rebased-points p l =
      rw (rebased-point st p)
      (unfold rebased placed in rw size-before (placed-good st.server st.size (entry_at st.plan p) (point_at st p) (S.point p l)))

  rebased-records : All (GoodCompletion (rebased st).plan (rebased st).size) (rebased st).records
  unfolding rebased placed
  rebased-records =
      rw size-before
      (all_image (GoodCompletion st.plan head_size) (placed_record end_before) st.records (all_to st.records (placed-completion st.plan) S.records))

  rebased-windows : All (Windowed (rebased st).floors) (rebased st).records
  unfolding rebased placed placed_record
  rebased-windows = all_image (Windowed st.floors) (placed_record end_before) st.records S.windows

  keeps : (r : Completion) → Keeps (point_at st r.command.point) → Keeps (point_at (rebased st) (placed_record end_before r).command.point)
  unfolding placed_record placed_point
  keeps r k = rw (rebased-point st r.command.point) (record { low = k.low; high = k.high })

  rebased-kept : All (λ (r : Completion). Keeps (point_at (rebased st) r.command.point)) (rebased st).records
  rebased-kept =
      unfold rebased placed in
      all_image (λ (r : Completion). Keeps (point_at (rebased st) r.command.point)) (placed_record end_before) st.records (all_to st.records keeps S.kept)

  rebased-arrived : Arrived (rebased st).records
  unfolding rebased placed placed_record
  rebased-arrived = same-arrived (map (placed_record end_before) st.records) (all_image (λ (r : Completion). r.end ≡ head_size) (placed_record end_before) st.records ends_before)

  pub rebased-sound : P head_size → SoundBy P (rebased st)
  rebased-sound z =
      record {
        server = unfold rebased placed in S.server;
        heard = unfold rebased placed in S.heard;
        head = unfold rebased placed in rw mark-before (omega arith);
        mark = unfold rebased placed in rw (mark-before, size-before) (omega arith);
        size = unfold rebased placed in subst P (sym size-before) z;
        plan = unfold rebased placed in S.plan;
        entries = unfold rebased placed in S.entries;
        points = unfold rebased placed in length-map st.points (placed_point end_before) ∙ S.points;
        point = rebased-points;
        clients = unfold rebased placed in S.clients;
        floors = unfold rebased placed in S.floors;
        ascending = unfold rebased placed in S.ascending;
        count = unfold rebased placed in rw (length-map st.records (placed_record end_before)) S.count;
        records = rebased-records;
        windows = rebased-windows;
        kept = rebased-kept;
        ids = unfold rebased placed in placed-distinct end_before st.records S.ids;
        arrived = rebased-arrived;
      }

-- in 64 bits
pub rebased_sound64 : (st : State) → Sound st → Sound (rebased st)
rebased_sound64 st S = rebased-sound st S (lit< tt)

-- ---- a state that a log starts from has no places to lose

start-end : (e : ℕ) → GoodEnd head_size e → end_before e ≡ e
start-end e g = go (eqb e 0) refl
  where
    go : (b : Bool) → eqb e 0 ≡ b → end_before e ≡ e
    go true k = let z : e ≡ 0 = eqb-true _ _ k in before-none e z ∙ sym z
    go false k =
        let l : head_size ≤ e = g.past (eqb_no _ _ k) in
        let z : head_size ≡ e = omega (arith, g.within) in
        before e (omega arith) ∙ z

start-point : (server : ℕ) (e : PlanEntry) (x : Point) → GoodPoint server head_size e x → placed_point end_before x ≡ x
unfolding placed_point
start-point server e x g =
    let gave : end_before x.give_end ≡ x.give_end = start-end x.give_end g.give_end in
    let took : end_before x.take_end ≡ x.take_end = start-end x.take_end g.take_end in
    λ i.
    record {
      status = x.status;
      quality = x.quality;
      destination = x.destination;
      value = x.value;
      move_number = x.move_number;
      taken_move = x.taken_move;
      give_end = gave i;
      take_end = took i;
    }

start-record : (plan : List PlanEntry) (r : Completion) → GoodCompletion plan head_size r → placed_record end_before r ≡ r
unfolding placed_record
start-record plan r g =
    let z : head_size ≡ r.end = omega (arith, g.past, g.within) in
    let end : end_before r.end ≡ r.end = before r.end (omega (arith, g.past)) ∙ z in
    λ i. record { command = r.command; result = r.result; end = end i }

map_same : {A : Type 0} (f : A → A) (xs : List A) → All (λ (x : A). f x ≡ x) xs → map f xs ≡ xs
map_same f [] h = refl
map_same f (x ∷ xs) h = λ i. h.0 i ∷ map_same f xs h.1 i

pub start-rebased : {P : ℕ → Type 0} (st : State) → StartBy P st → rebased st ≡ st
unfolding rebased placed point_at
start-rebased st Z =
    let S = Z.sound in
    let size : end_before st.size ≡ st.size = size-before st S ∙ sym Z.empty in
    let at : head_size ≡ st.mark = omega (arith, Z.empty, S.head, S.mark) in
    let mark : end_before st.mark ≡ st.mark = mark-before st S ∙ at in
    let points : map (placed_point end_before) st.points ≡ st.points
    = map_same (placed_point end_before) st.points
    (get_or_all (λ (x : Point). placed_point end_before x ≡ x) no_point st.points
    (λ (p : ℕ) (l : p < length st.points).
    start-point st.server (entry_at st.plan p) (get_or st.points p no_point) (rw Z.empty at (S.point p (omega (arith, S.points)))))) in
    let records : map (placed_record end_before) st.records ≡ st.records
    = map_same (placed_record end_before) st.records (all_to st.records (start-record st.plan) (rw Z.empty at S.records)) in
    λ i.
    record {
      server = st.server;
      heard = st.heard;
      size = size i;
      mark = mark i;
      plan = st.plan;
      points = points i;
      floors = st.floors;
      records = records i;
    }

-- ---- a checkpoint is read back, with any bytes behind it

module _ (st : State) (S : Sound st) where
  pub restorable : Restorable st
  unfolding point_at
  restorable =
      record {
        fits = fits_of st S;
        size = size-before st S;
        mark = mark-before st S;
        points =
            get_or_all Told no_point st.points
            (λ (p : ℕ) (l : p < length st.points).
            point-told st.server st.size (entry_at st.plan p) (get_or st.points p no_point) (S.point p (omega (arith, S.points))));
        records = ends_before st S;
      }

  abbrev past : List ℕ
  past = replicate (record_row * (record_count - length st.records)) 0

  pub rebased-bytes : (sound (state_bytes (rebased st) ++ past) ≡ true) × (load (state_bytes (rebased st) ++ past) ≡ rebased st)
  rebased-bytes =
      let R : Sound (rebased st) = rebased_sound64 st S in
      let n : length (rebased st).records ≡ length st.records = unfold rebased placed in length-map st.records (placed_record end_before) in
      let m : length past ≡ record_row * (record_count - length st.records) = length-replicate (record_row * (record_count - length st.records)) 0 in
      let long : state_end ≤ length (state_bytes (rebased st) ++ past) =
      omega (arith, length-append (state_bytes (rebased st)) past, state-length (rebased st) (fits_of (rebased st) R), n, S.count, m) in
      (sound-front (rebased st) (fits_of (rebased st) R) past long (state_of_lem (rebased st) R), load-front (rebased st) (fits_of (rebased st) R) past)

rows_fit : (timed : Bool) (n : ℕ) → n ≤ record_count → checkpoint_record_of timed * n ≤ checkpoint_record * record_count
unfolding checkpoint_record_of
rows_fit true n l = omega arith
rows_fit false n l = omega arith

-- in either form
module _ (timed : Bool) (st : State) (S : Sound st) where
  pub framed_back : (rest : List ℕ) → checkpoint_framed (checkpoint_bytes timed st ++ rest) ≡ true
  framed_back rest = is_framed (checkpoint_bytes timed st ++ rest) (front_framed timed st (fits_of st S) rest)

  -- its length, and that it is bytes
  pub checkpoint-length : length (checkpoint_bytes timed st) ≡ records_part (length st.floors) + checkpoint_record_of timed * length st.records
  checkpoint-length = checkpoint-bytes-length timed st (fits_of st S)

  pub checkpoint-fits : length (checkpoint_bytes timed st) ≤ checkpoint_size
  checkpoint-fits = omega (arith, checkpoint-length, S.clients, rows_fit timed (length st.records) S.count)

  pub checkpoint-bytes : Bytes (checkpoint_bytes timed st)
  checkpoint-bytes = checkpoint-bytes-fit timed st (fits_of st S)

  -- in one that holds the times
  module _ (T : Timely timed st) where
    pub restored-back : (rest : List ℕ) → restored_bytes (checkpoint_bytes timed st ++ rest) ≡ state_bytes (rebased st)
    restored-back rest = restored-front timed st (restorable st S) T rest

    pub checkpoint-back : (rest : List ℕ) → checkpoint_state (checkpoint_bytes timed st ++ rest) ≡ some (rebased st)
    unfolding checkpoint_state
    checkpoint-back rest = rw (framed_back rest, restored_blank timed st (restorable st S) T rest, (rebased-bytes st S).0, (rebased-bytes st S).1)
