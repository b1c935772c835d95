-- Laws of a checkpoint: what was written is read back.
--     Framed, framed_is, is_framed  the frame, as a record and as a test
--     Restorable                    a state that fits, with ends that its checkpoint tells
--     Timely, timely                a state whose times a form holds; the form that a program writes holds them
--     magic_end, magic_form, checkpoint_fields, checkpoint_numbers, checkpoint-writes     the head, by form
--     checkpoint-bytes-length, checkpoint-bytes-fit     the bytes of a checkpoint
--     front_framed, restored-front  a checkpoint with any bytes behind it is framed, and gives the state's bytes, places aside
-- Assumes nothing.
use Prim.Native.Nat.{ℕ, ◌+◌, ◌-◌, ◌*◌, ◌/◌, ◌≤◌, ◌<◌}
use mathlib.Core.Path.{◌≡◌, refl, sym, ap, ◌∙◌}
use mathlib.Core.Bool.{Bool, true, false, ◌||◌, not}
use mathlib.Core.List.{List, [], ◌∷◌, ◌++◌, map, append_assoc}
use native.Mathlib.Omega.{arith}
use lib.ListN.{length, take, drop, replicate, length-append, length-map}
use lib.Seq.{drop_at, drop-drop, take_at}
use lib.Dec.{eqb, lit<}
use borrow.Author.Tests.{eqb-true}
use Rattle.model.specs.declared.Point.{Point}
use Rattle.model.specs.declared.Completion.{Completion}
use Rattle.model.specs.Choice.{pick}
use Rattle.model.specs.Numbers.{word, le32_at, le32, le64, quad, starts_with}
use Rattle.model.specs.Tables.{bytes_of, every}
use Rattle.model.specs.Plan.{plan_bytes}
use Rattle.model.specs.Images.{floor_bytes}
use Rattle.model.specs.States.{State, record_row, point_bytes, completion_bytes, state_head_bytes, padded, state_bytes}
use Rattle.model.specs.Limits.{head_size, plan_size, point_count, client_count, record_count, floor_row, checkpoint_head, checkpoint_point}
use Rattle.model.specs.Versions.{Versions}
use Rattle.model.specs.Decisions.{timed_by}
use Rattle.model.specs.Checkpoints.{placed_point, placed_record, placed, end_before, rebased, first_checkpoint_magic, checkpoint_magic, checkpoint_magic_of, checkpoint_record_of}
use Rattle.model.specs.Checkpoints.{plan_part, points_part, clients_part, records_part}
use Rattle.model.specs.Checkpoints.{pairs_bytes, point_front, record_front, checkpoint_bytes, record_width, clients_of, records_of, point_whole, record_whole, fronts}
use Rattle.model.specs.Checkpoints.{restored_bytes, restored, checkpoint_framed}
use Rattle.model_laws.specs.Bytes.{Bytes, All, joined}
use Rattle.model_laws.specs.Fields.{Field, byte, word32, fixed, fixed_all, got_all, put_all, nth, Bounded, fixed_bytes}
use Rattle.model_laws.specs.Fits.{TimeFits, PointFits, CompletionFits, StateFits}
use Rattle.model_laws.proofs.Tests.{joined_all}
use Rattle.model_laws.proofs.Reflects.{Test, le, eq, flag, facts, passed}
use Rattle.model_laws.proofs.Numbers.{bytes_run}
use Rattle.model_laws.proofs.Fields.{all_bytes, all_front}
use Rattle.model_laws.proofs.Tables.{length-bytes_of, bytes-bytes_of, every_all, all_map, all_both}
use Rattle.model_laws.proofs.Images.{floor_codec}
use Rattle.model_laws.proofs.Plans.{plan-length, plan-bytes}
use Rattle.model_laws.proofs.Fronts.{Told, Given, fronts-back, fronts-take, length-fronts, bytes_of-map, length-each, bytes-each, all_any}
use Rattle.model_laws.proofs.Fronts.{point-front-width, point-front-bytes, point-whole, record-front-width, record-front-bytes, form_width, record-whole}

-- ---- the frame

-- what the test of the frame asks, one by one
pub record Framed (s : List ℕ) : Type 0 where
  pub magic : (starts_with s checkpoint_magic || starts_with s first_checkpoint_magic) ≡ true
  pub plan : le32_at s 12 ≡ plan_part
  pub plan-size : le32_at s 16 ≡ plan_size
  pub points : le32_at s 20 ≡ points_part
  pub points-size : le32_at s 24 ≡ checkpoint_point * point_count
  pub clients : le32_at s 28 ≡ clients_part
  pub clients-size : le32_at s 32 ≡ floor_row * clients_of s
  pub records : le32_at s 36 ≡ records_part (clients_of s)
  pub records-size : le32_at s 40 ≡ record_width s * records_of s
  pub few_clients : clients_of s ≤ client_count
  pub few_records : records_of s ≤ record_count
  pub whole : records_part (clients_of s) + record_width s * records_of s ≤ length s

abbrev framed_tests : List ℕ → List Test
framed_tests s =
    le checkpoint_head (length s) ∷ flag (starts_with s checkpoint_magic || starts_with s first_checkpoint_magic) ∷ eq (le32_at s 12) plan_part ∷ eq (le32_at s 16) plan_size
    ∷ eq (le32_at s 20) points_part
    ∷ eq (le32_at s 24) (checkpoint_point * point_count) ∷ eq (le32_at s 28) clients_part ∷ eq (le32_at s 32) (floor_row * clients_of s) ∷ eq (le32_at s 36) (records_part (clients_of s))
    ∷ eq (le32_at s 40) (record_width s * records_of s) ∷ le (clients_of s) client_count ∷ le (records_of s) record_count
    ∷ le (records_part (clients_of s) + record_width s * records_of s) (length s) ∷ []

pub framed_is : (s : List ℕ) → checkpoint_framed s ≡ true → Framed s
unfolding checkpoint_framed
framed_is s e =
    let p = facts (framed_tests s) e in
    record {
      magic = p 1;
      plan = p 2;
      plan-size = p 3;
      points = p 4;
      points-size = p 5;
      clients = p 6;
      clients-size = p 7;
      records = p 8;
      records-size = p 9;
      few_clients = p 10;
      few_records = p 11;
      whole = p 12;
    }

pub is_framed : (s : List ℕ) → Framed s → checkpoint_framed s ≡ true
unfolding checkpoint_framed
is_framed s d =
    passed (framed_tests s) (omega (arith, d.whole)) d.magic d.plan d.plan-size d.points d.points-size d.clients d.clients-size d.records d.records-size
    d.few_clients d.few_records d.whole

-- ---- the whole checkpoint: what was written is read back

-- a state that fits, with ends that its checkpoint tells
pub record Restorable (st : State) : Type 0 where
  pub fits : StateFits st
  pub size : end_before st.size ≡ head_size
  pub mark : end_before st.mark ≡ head_size
  pub points : All Told st.points
  pub records : All (λ (r : Completion). end_before r.end ≡ head_size) st.records

-- a form without times holds 0 alone
unfoldable pub Timely : Bool → State → Type 0
Timely timed st = All (λ (r : Completion). TimeFits timed r.result.time) st.records

timely_fits : (st : State) → StateFits st → Timely true st
unfolding Timely
timely_fits st f = all_map CompletionFits (λ (r : Completion). TimeFits true r.result.time) (λ r h. h.time) st.records f.records

timely_zeros : (st : State) → every (λ r. eqb r.result.time 0) st.records ≡ true → Timely false st
unfolding Timely
timely_zeros st e =
    all_map (λ (r : Completion). eqb r.result.time 0 ≡ true) (λ (r : Completion). r.result.time ≡ 0) (λ r h. eqb-true r.result.time 0 h) st.records
    (every_all (λ r. eqb r.result.time 0) st.records e)

-- whatever program writes it, its form holds the times
pub timely_by : (v : Versions) (st : State) → Timely true st → Timely (timed_by v st) st
unfolding timed_by
timely_by v st f = go v.timed (every (λ r. eqb r.result.time 0) st.records) refl
  where
    go : (timed zeros : Bool) → every (λ r. eqb r.result.time 0) st.records ≡ zeros → Timely (timed || not zeros) st
    go true zeros e = f
    go false true e = timely_zeros st e
    go false false e = f

pub timely : (v : Versions) (st : State) → StateFits st → Timely (timed_by v st) st
timely v st f = timely_by v st (timely_fits st f)

-- ---- the head, by form

-- the last byte of its magic
abbrev pub magic_end : Bool → ℕ
magic_end timed = pick timed 51 50

pub magic-is : (timed : Bool) → checkpoint_magic_of timed ≡ quad 87 76 71 (magic_end timed)
unfolding checkpoint_magic_of
magic-is true = refl
magic-is false = refl

magic-timed : (timed : Bool) → eqb (magic_end timed) 51 ≡ timed
magic-timed true = refl
magic-timed false = refl

magic_either : (timed : Bool) → (eqb (magic_end timed) 51 || eqb (magic_end timed) 50) ≡ true
magic_either true = refl
magic_either false = refl

-- bytes that open with one of the magics open with that of their form
pub magic_form : (s : List ℕ) → (starts_with s checkpoint_magic || starts_with s first_checkpoint_magic) ≡ true
    → starts_with s (quad 87 76 71 (magic_end (starts_with s checkpoint_magic))) ≡ true
magic_form s e = go (starts_with s checkpoint_magic) refl
  where
    go : (b : Bool) → starts_with s checkpoint_magic ≡ b → starts_with s (quad 87 76 71 (magic_end b)) ≡ true
    go true p = p
    go false p = rw p at e

-- the head's fields; its numbers with n clients and k completion records of w bytes
abbrev pub checkpoint_fields : Bool → List Field
checkpoint_fields timed =
    fixed_all (quad 87 76 71 (magic_end timed))
    ++ (byte ∷ fixed 0 ∷ fixed 0 ∷ fixed 0 ∷ word32 ∷ word32 ∷ word32 ∷ word32 ∷ word32 ∷ word32 ∷ word32 ∷ word32 ∷ word32 ∷ [])

abbrev pub checkpoint_numbers : ℕ → ℕ → ℕ → ℕ → ℕ → List ℕ
checkpoint_numbers w server heard n k =
    server ∷ heard ∷ plan_part ∷ plan_size ∷ points_part ∷ (checkpoint_point * point_count) ∷ clients_part ∷ (floor_row * n) ∷ records_part n ∷ (w * k) ∷ []

fields-plain : (timed : Bool) → joined (fixed_bytes (checkpoint_fields timed)) ≡ true
fields-plain true = refl
fields-plain false = refl

pub checkpoint-writes : (timed : Bool) (st : State) → checkpoint_bytes timed st
    ≡ put_all (checkpoint_fields timed) (checkpoint_numbers (checkpoint_record_of timed) st.server st.heard (length st.floors) (length st.records))
    ++ (plan_bytes st.plan ++ (bytes_of point_front st.points ++ (bytes_of floor_bytes st.floors ++ bytes_of (record_front (checkpoint_record_of timed)) st.records)))
unfolding checkpoint_bytes pairs_bytes
checkpoint-writes timed st = rw (magic-is timed)

over-floor : (n : ℕ) → floor_row * n / floor_row ≡ n
over-floor n = omega arith

over-record : (timed : Bool) (n : ℕ) → checkpoint_record_of timed * n / checkpoint_record_of timed ≡ n
unfolding checkpoint_record_of
over-record true n = omega arith
over-record false n = omega arith

records-small : (timed : Bool) (n : ℕ) → n ≤ record_count → checkpoint_record_of timed * n < word
unfolding checkpoint_record_of
records-small true n h = omega arith
records-small false n h = omega arith

module _ (timed : Bool) (st : State) where
  abbrev row : ℕ
  row = checkpoint_record_of timed

  abbrev clients_bytes : List ℕ
  clients_bytes = bytes_of floor_bytes st.floors

  abbrev records_bytes : List ℕ
  records_bytes = bytes_of (record_front row) st.records

  abbrev fronts_bytes : List ℕ
  fronts_bytes = bytes_of point_front st.points

  clients-length : length clients_bytes ≡ floor_row * length st.floors
  clients-length = length-bytes_of floor_codec st.floors

  front-width : (r : Completion) → length (record_front row r) ≡ row
  front-width r = record-front-width row (omega (arith, (form_width timed).1)) r

  records-length : length records_bytes ≡ row * length st.records
  records-length = length-each (record_front row) row st.records (all_any (λ (r : Completion). length (record_front row r) ≡ row) st.records front-width)

  fronts-length : length fronts_bytes ≡ checkpoint_point * length st.points
  fronts-length = length-each point_front checkpoint_point st.points (all_any (λ (x : Point). length (point_front x) ≡ checkpoint_point) st.points point-front-width)

  module _ (f : StateFits st) where
    points-length : length fronts_bytes ≡ checkpoint_point * point_count
    points-length = fronts-length ∙ ap (λ (k : ℕ). checkpoint_point * k) f.points-count

    pub checkpoint-bytes-length : length (checkpoint_bytes timed st) ≡ records_part (length st.floors) + row * length st.records
    checkpoint-bytes-length =
        rw (checkpoint-writes timed st) (simp (length-append, plan-length st.plan f.plan-count, points-length, clients-length, records-length) (omega arith))

    abbrev numbers : List ℕ
    numbers = checkpoint_numbers row st.server st.heard (length st.floors) (length st.records)

    numbers_bounded : Bounded (checkpoint_fields timed) numbers
    numbers_bounded =
        let n : length st.floors ≤ client_count = f.floors-count in
        let k : length st.records ≤ record_count = f.records-count in
        (f.server, (f.heard, (lit< tt, (lit< tt, (lit< tt, (lit< tt, (lit< tt, (omega arith, (omega arith, (records-small timed (length st.records) k, tt))))))))))

    pub checkpoint-bytes-fit : Bytes (checkpoint_bytes timed st)
    checkpoint-bytes-fit =
        rw (checkpoint-writes timed st)
        (bytes_run (put_all (checkpoint_fields timed) numbers ∷ plan_bytes st.plan ∷ fronts_bytes ∷ clients_bytes ∷ records_bytes ∷ []) (
          all_bytes (checkpoint_fields timed) numbers (joined_all (fixed_bytes (checkpoint_fields timed)) (fields-plain timed)) numbers_bounded,
          (
            plan-bytes st.plan f.plan,
            (
              bytes-each point_front st.points (all_map PointFits (λ (x : Point). Bytes (point_front x)) point-front-bytes st.points f.points),
              (
                bytes-bytes_of floor_codec st.floors f.floors,
                (
                  bytes-each (record_front row) st.records
                      (all_map CompletionFits (λ (r : Completion). Bytes (record_front row r)) (record-front-bytes row) st.records f.records),
                  tt,
                ),
              ),
            ),
          ),
        ))

    module _ (rest : List ℕ) where
      numbers-at : nth (got_all (checkpoint_fields timed) (checkpoint_bytes timed st ++ rest) 0) ≡ nth numbers
      numbers-at =
          let tables : List ℕ = plan_bytes st.plan ++ (fronts_bytes ++ (clients_bytes ++ records_bytes)) in
          rw (checkpoint-writes timed st, append_assoc (put_all (checkpoint_fields timed) numbers) tables rest) (all_front (checkpoint_fields timed) numbers (tables ++ rest) numbers_bounded)

      clients-at : clients_of (checkpoint_bytes timed st ++ rest) ≡ length st.floors
      unfolding clients_of
      clients-at = (λ i. numbers-at i 7 / floor_row) ∙ over-floor (length st.floors)

      form_at : starts_with (checkpoint_bytes timed st ++ rest) checkpoint_magic ≡ timed
      form_at = rw (checkpoint-writes timed st) (magic-timed timed)

      pub width-at : record_width (checkpoint_bytes timed st ++ rest) ≡ row
      unfolding record_width
      width-at = ap checkpoint_record_of form_at

      records-at : records_of (checkpoint_bytes timed st ++ rest) ≡ length st.records
      unfolding records_of
      records-at = (λ i. numbers-at i 9 / width-at i) ∙ over-record timed (length st.records)

      head_at : take 8 (drop 4 (checkpoint_bytes timed st ++ rest)) ≡ quad st.server 0 0 0 ++ le32 st.heard
      head_at = rw (checkpoint-writes timed st)

      drop_head : drop plan_part (checkpoint_bytes timed st ++ rest) ≡ plan_bytes st.plan ++ (fronts_bytes ++ (clients_bytes ++ (records_bytes ++ rest)))
      drop_head = rw (checkpoint-writes timed st) (simp append_assoc)

      drop-plan : drop points_part (checkpoint_bytes timed st ++ rest) ≡ fronts_bytes ++ (clients_bytes ++ (records_bytes ++ rest))
      drop-plan =
          sym (drop-drop plan_size plan_part (checkpoint_bytes timed st ++ rest))
          ∙ ap (λ (x : List ℕ). drop plan_size x) drop_head
          ∙ drop_at (plan_bytes st.plan) (fronts_bytes ++ (clients_bytes ++ (records_bytes ++ rest))) plan_size (plan-length st.plan f.plan-count)

      drop-points : drop clients_part (checkpoint_bytes timed st ++ rest) ≡ clients_bytes ++ (records_bytes ++ rest)
      drop-points =
          sym (drop-drop (checkpoint_point * point_count) points_part (checkpoint_bytes timed st ++ rest))
          ∙ ap (λ (x : List ℕ). drop (checkpoint_point * point_count) x) drop-plan
          ∙ drop_at fronts_bytes (clients_bytes ++ (records_bytes ++ rest)) (checkpoint_point * point_count) points-length

      drop-clients : drop (records_part (length st.floors)) (checkpoint_bytes timed st ++ rest) ≡ records_bytes ++ rest
      drop-clients =
          sym (drop-drop (floor_row * length st.floors) clients_part (checkpoint_bytes timed st ++ rest))
          ∙ ap (λ (x : List ℕ). drop (floor_row * length st.floors) x) drop-points
          ∙ drop_at clients_bytes (records_bytes ++ rest) (floor_row * length st.floors) clients-length

      plan-at : take plan_size (drop plan_part (checkpoint_bytes timed st ++ rest)) ≡ plan_bytes st.plan
      plan-at =
          ap (λ (x : List ℕ). take plan_size x) drop_head
          ∙ take_at (plan_bytes st.plan) (fronts_bytes ++ (clients_bytes ++ (records_bytes ++ rest))) plan_size (plan-length st.plan f.plan-count)

      floors-at : padded (take floor_row) floor_row client_count (fronts floor_row (clients_of (checkpoint_bytes timed st ++ rest)) (drop clients_part (checkpoint_bytes timed st ++ rest)))
          ≡ padded floor_bytes floor_row client_count st.floors
      unfolding padded
      floors-at =
          rw (
            clients-at,
            drop-points,
            length-fronts floor_row (length st.floors) (clients_bytes ++ (records_bytes ++ rest)),
            fronts-take floor_row (length st.floors) (clients_bytes ++ (records_bytes ++ rest)),
            take_at clients_bytes (records_bytes ++ rest) (floor_row * length st.floors) clients-length,
          )

      magic-at : (starts_with (checkpoint_bytes timed st ++ rest) checkpoint_magic || starts_with (checkpoint_bytes timed st ++ rest) first_checkpoint_magic) ≡ true
      magic-at = rw (checkpoint-writes timed st) (magic_either timed)

      pub front_framed : Framed (checkpoint_bytes timed st ++ rest)
      front_framed =
          let n : clients_of (checkpoint_bytes timed st ++ rest) ≡ length st.floors = clients-at in
          let k : records_of (checkpoint_bytes timed st ++ rest) ≡ length st.records = records-at in
          let l : length (checkpoint_bytes timed st ++ rest) ≡ length (checkpoint_bytes timed st) + length rest = length-append (checkpoint_bytes timed st) rest in
          record {
            magic = magic-at;
            plan = λ i. numbers-at i 2;
            plan-size = λ i. numbers-at i 3;
            points = λ i. numbers-at i 4;
            points-size = λ i. numbers-at i 5;
            clients = λ i. numbers-at i 6;
            clients-size = (λ i. numbers-at i 7) ∙ ap (λ (x : ℕ). floor_row * x) (sym n);
            records = (λ i. numbers-at i 8) ∙ ap records_part (sym n);
            records-size = (λ i. numbers-at i 9) ∙ (λ i. sym width-at i * sym k i);
            few_clients = rw n f.floors-count;
            few_records = rw k f.records-count;
            whole = rw (n, k, width-at) (omega (arith, l, checkpoint-bytes-length));
          }

  module _ (R : Restorable st) (T : Timely timed st) (rest : List ℕ) where
    points-at : bytes_of point_whole (fronts checkpoint_point point_count (drop points_part (checkpoint_bytes timed st ++ rest))) ≡ bytes_of point_bytes (map (placed_point end_before) st.points)
    points-at =
        rw (drop-plan R.fits rest, ← R.fits.points-count)
        (fronts-back Told point_front (λ (x : Point). point_bytes (placed_point end_before x)) checkpoint_point point_whole (λ x t. point-front-width x) point-whole st.points
        (clients_bytes ++ (records_bytes ++ rest)) R.points
        ∙ sym (bytes_of-map point_bytes (placed_point end_before) st.points))

    given_all : All (Given timed) st.records
    unfolding Timely
    given_all = all_both (λ (r : Completion). TimeFits timed r.result.time) (λ (r : Completion). end_before r.end ≡ head_size) st.records T R.records

    completions_at : bytes_of (record_whole (record_width (checkpoint_bytes timed st ++ rest)))
        (fronts (record_width (checkpoint_bytes timed st ++ rest)) (records_of (checkpoint_bytes timed st ++ rest))
        (drop (records_part (clients_of (checkpoint_bytes timed st ++ rest))) (checkpoint_bytes timed st ++ rest)))
        ≡ bytes_of completion_bytes (map (placed_record end_before) st.records)
    completions_at =
        rw (width-at R.fits rest, clients-at R.fits rest, records-at R.fits rest, drop-clients R.fits rest)
        (fronts-back (Given timed) (record_front row) (λ (r : Completion). completion_bytes (placed_record end_before r)) row (record_whole row) (λ r g. front-width r) (record-whole timed)
        st.records rest given_all
        ∙ sym (bytes_of-map completion_bytes (placed_record end_before) st.records))

    pub restored-front : restored_bytes (checkpoint_bytes timed st ++ rest) ≡ state_bytes (rebased st)
    unfolding restored_bytes state_bytes state_head_bytes rebased placed le64
    restored-front =
        rw (
          completions_at,
          floors-at R.fits rest,
          points-at,
          plan-at R.fits rest,
          clients-at R.fits rest,
          records-at R.fits rest,
          head_at R.fits rest,
          R.size,
          R.mark,
          length-map st.records (placed_record end_before),
        )

    pub restored_blank : restored (checkpoint_bytes timed st ++ rest) ≡ state_bytes (rebased st) ++ replicate (record_row * (record_count - length st.records)) 0
    unfolding restored
    restored_blank = rw (restored-front, records-at R.fits rest)
