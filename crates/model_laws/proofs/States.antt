-- Laws of a server's state in its buffer.
--     point_codec, completion_codec   the rows, as codecs
--     padded-..                     a table with zeros past its rows
--     state-length, state-bytes     the 19,752 bytes of a state
--     load-back, sound_back         a state that fits is read back from the buffer it was written to, which is sound if the state is
--                                   (load-front, sound-front: from its bytes and any bytes behind them)
--     sound-is, is-sound            soundness as a test and as a record
--     written-state, load_fits      a sound buffer's state, written again, changes nothing; and it fits
--     state-records                 512 completion records always suffice
-- Assumes nothing.
use Prim.Native.Nat.{ℕ, ◌+◌, ◌-◌, ◌*◌, ◌≤◌}
use mathlib.Core.Path.{◌≡◌, refl, sym, ap, ◌∙◌, subst}
use mathlib.Core.Bool.{true, and_assoc}
use mathlib.Core.List.{List, [], ◌∷◌, ◌++◌, append_assoc}
use native.Mathlib.Omega.{arith}
use lib.ListN.{length, take, drop, replicate, length-append, length-drop, length-replicate}
use lib.Seq.{drop_at, drop-drop}
use lib.Dec.{lit<}
use Rattle.model.specs.declared.Point.{Point}
use Rattle.model.specs.declared.Completion.{Completion}
use Rattle.model.specs.Numbers.{byte_at, le32_at, le64_at, le64, zeros3_at, starts_with}
use Rattle.model.specs.Tables.{rows, every_row, bytes_of, every, zeros, written}
use Rattle.model.specs.Plan.{plan_entry_of, plan_row_ok, plan_bytes, entry_at, in_range}
use Rattle.model.specs.Packets.{id_ok, command_ok, outcome_ok}
use Rattle.model.specs.Images.{floor_of_bytes, floor_bytes, floor_of, floor_ok, in_window, clients_ascend}
use Rattle.model.specs.States.{State, state_magic, state_head, point_row, record_row, points_start, floors_start, records_start, state_end, records_end, point_of}
use Rattle.model.specs.States.{point_bytes, completion_of, completion_bytes, clients_in, records_in, load, state_head_bytes, padded, state_bytes, point_at}
use Rattle.model.specs.States.{points_ok, keeps_records, completion_ok, ids_differ, ends_from, state_framed, point_row_ok, state_ok, sound}
use Rattle.model.specs.Limits.{last_server, head_size, point_count, client_count, record_count, plan_row, floor_row, plan_size, call_window}
use Rattle.model_laws.specs.Bytes.{Bytes, All, part}
use Rattle.model_laws.specs.Codec.{Codec}
use Rattle.model_laws.specs.Fields.{Field, byte, word32, signed, word64, fixed, fixed_all, got_all, put_all, tests_of, pass_all, nth, Bounded, fixed_bytes, Layout, Computes}
use Rattle.model_laws.specs.Fits.{PointFits, CompletionFits, StateFits, Sound}
use Rattle.model_laws.proofs.Tests.{and_both, joined_all}
use Rattle.model_laws.proofs.Reflects.{Reflects, Test, le, eq, flag, facts, passed, reflects}
use Rattle.model_laws.proofs.Numbers.{part_join, le32-below}
use Rattle.model_laws.proofs.Numbers.{le64-below, bytes-append}
use Rattle.model_laws.proofs.Numbers.{bytes_drop, bytes_run}
use Rattle.model_laws.proofs.Written.{written-front, written-again}
use Rattle.model_laws.proofs.Fields.{codec, all_bytes, all_front, all_again}
use Rattle.model_laws.proofs.Tables.{length-rows, length-bytes_of, bytes-bytes_of, rows_back, every_row-back, every_row-true, rows-again, rows_fit}
use Rattle.model_laws.proofs.Tables.{places, every_imp, zeros-back, zeros-again, bytes-replicate}
use Rattle.model_laws.proofs.Images.{floor_codec}
use Rattle.model_laws.proofs.Windows.{records-count}
use Rattle.model_laws.proofs.Plans.{plan_codec, plan-length, plan-bytes}

-- the tests of a state's frame, and of a state, one by one
abbrev framed_tests : List ℕ → List Test
framed_tests s =
    flag (starts_with s state_magic) ∷ flag (zeros3_at s 5) ∷ eq (le32_at s 20) 0 ∷ le (clients_in s) client_count ∷ le (records_in s) record_count
    ∷ flag (zeros (floor_row * (client_count - clients_in s)) (drop (floors_start + floor_row * clients_in s) s)) ∷ []

abbrev sound_tests : List ℕ → List Test
sound_tests s =
    le state_end (length s) ∷ flag (state_framed s) ∷ flag (every_row plan_row_ok plan_row point_count (drop state_head s)) ∷ flag (every_row point_row_ok point_row point_count (drop points_start s))
    ∷ flag (state_ok (load s)) ∷ []

-- ---- the rows

abbrev point_layout : Layout Point
point_layout =
    record {
      fields = byte ∷ byte ∷ byte ∷ fixed 0 ∷ signed ∷ word32 ∷ word32 ∷ word64 ∷ word64 ∷ [];
      to = λ v. record { status = v 0; quality = v 1; destination = v 2; value = v 3; move_number = v 4; taken_move = v 5; give_end = v 6; take_end = v 7 };
      from = λ x. x.status ∷ x.quality ∷ x.destination ∷ x.value ∷ x.move_number ∷ x.taken_move ∷ x.give_end ∷ x.take_end ∷ [];
      Fit = PointFits;
      fits = λ x h. (h.status, (h.quality, (h.destination, (h.value, (h.move_number, (h.taken_move, (h.give_end, (h.take_end, tt))))))));
      fitted = λ v p. record { status = p 0; quality = p 1; destination = p 2; value = p 3; move_number = p 4; taken_move = p 5; give_end = p 6; take_end = p 7 };
    }

pub point_computes : Computes point_layout point_of point_bytes point_row_ok
unfolding point_of point_bytes point_row_ok le64
point_computes = record { reads = λ s. refl; writes = λ a. refl; tests = λ s. refl; plain = refl; back = λ a h. refl; forth = λ s. refl }

abbrev pub point_codec : Codec Point
point_codec = codec point_computes

abbrev completion_layout : Layout Completion
completion_layout =
    record {
      fields = word32 ∷ word32 ∷ signed ∷ signed ∷ byte ∷ byte ∷ byte ∷ byte ∷ word32 ∷ word64 ∷ [];
      to = λ v. record {
        command = record { client = v 0; call = v 1; op = v 4; point = v 7; argument = v 2 };
        result = record { outcome = v 5; value = v 3; quality = v 6; time = v 8 };
        end = v 9;
      };
      from = λ r. r.command.client ∷ r.command.call ∷ r.command.argument ∷ r.result.value ∷ r.command.op ∷ r.result.outcome ∷ r.result.quality
          ∷ r.command.point ∷ r.result.time ∷ r.end ∷ [];
      Fit = CompletionFits;
      fits = λ r h. (h.client, (h.call, (h.argument, (h.value, (h.op, (h.outcome, (h.quality, (h.point, (h.time, (h.end, tt))))))))));
      fitted = λ v p. record { client = p 0; call = p 1; argument = p 2; value = p 3; op = p 4; outcome = p 5; quality = p 6; point = p 7; time = p 8; end = p 9 };
    }

pub completion_computes : Computes completion_layout completion_of completion_bytes (λ s. true)
unfolding completion_of completion_bytes le64
completion_computes = record { reads = λ s. refl; writes = λ a. refl; tests = λ s. refl; plain = refl; back = λ a h. refl; forth = λ s. refl }

abbrev pub completion_codec : Codec Completion
completion_codec = codec completion_computes

-- ---- a table with places past its rows

module _ {A : Type 0} (C : Codec A) (n : ℕ) where
  pub padded-length : (rs : List A) → length rs ≤ n → length (padded C.enc C.width n rs) ≡ C.width * n
  unfolding padded
  padded-length rs h =
      length-append (bytes_of C.enc rs) (replicate (C.width * (n - length rs)) 0)
      ∙ rw (length-bytes_of C rs, length-replicate) (places C.width (length rs) n h)

  pub padded-bytes : (rs : List A) → All C.Fit rs → Bytes (padded C.enc C.width n rs)
  unfolding padded
  padded-bytes rs f =
      bytes-append (bytes_of C.enc rs) (replicate (C.width * (n - length rs)) 0) (bytes-bytes_of C rs f) (bytes-replicate (C.width * (n - length rs)))

  -- what was written is read back: the rows, and zeros past them
  pub padded-rows : (rs : List A) (rest : List ℕ) → All C.Fit rs → rows C.dec C.width (length rs) (padded C.enc C.width n rs ++ rest) ≡ rs
  unfolding padded
  padded-rows rs rest f = rw append_assoc (rows_back C rs (replicate (C.width * (n - length rs)) 0 ++ rest) f)

  pub padded-zeros : (rs : List A) (rest : List ℕ)
      → zeros (C.width * (n - length rs)) (drop (C.width * length rs) (padded C.enc C.width n rs ++ rest)) ≡ true
  unfolding padded
  padded-zeros rs rest =
      rw (append_assoc, drop_at (bytes_of C.enc rs) (replicate (C.width * (n - length rs)) 0 ++ rest) (C.width * length rs) (length-bytes_of C rs))
      (zeros-back (C.width * (n - length rs)) rest)

  -- what was read is written again
  pub padded-again : (s : List ℕ) (i m : ℕ) → Bytes s → m ≤ n → i + C.width * n ≤ length s → every_row C.test C.width m (drop i s) ≡ true
      → zeros (C.width * (n - m)) (drop (i + C.width * m) s) ≡ true → padded C.enc C.width n (rows C.dec C.width m (drop i s)) ≡ part i (C.width * n) s
  unfolding padded
  padded-again s i m h l b t z =
      let w : ℕ = C.width in
      let p : w * m + w * (n - m) ≡ w * n = places w m n l in
      let o : replicate (w * (n - m)) 0 ≡ part (i + w * m) (w * (n - m)) s =
      sym (zeros-again (w * (n - m)) (drop (i + w * m) s) (omega (arith, length-drop (i + w * m) s)) z) in
      rw (length-rows C.dec w m (drop i s))
      (part_join s i (w * m) (w * (n - m)) (rows-again C m (drop i s) (bytes_drop i s h) (omega (arith, length-drop i s)) t) o
      ∙ ap (λ (x : ℕ). part i x s) p)

-- ---- the head's fields

abbrev head_fields : List Field
head_fields = fixed_all state_magic ++ (byte ∷ fixed 0 ∷ fixed 0 ∷ fixed 0 ∷ word32 ∷ word32 ∷ word32 ∷ word32 ∷ word64 ∷ word64 ∷ [])

abbrev head_numbers : State → List ℕ
head_numbers st = st.server ∷ st.heard ∷ length st.floors ∷ length st.records ∷ 0 ∷ st.size ∷ st.mark ∷ []

head-writes : (st : State) → state_head_bytes st ≡ put_all head_fields (head_numbers st)
unfolding state_head_bytes le64
head-writes st = refl

head_bounded : (st : State) → StateFits st → Bounded head_fields (head_numbers st)
head_bounded st f = (f.server, (f.heard, (omega (arith, f.floors-count), (omega (arith, f.records-count), (lit< tt, (f.size, (f.mark, tt)))))))

-- ---- the whole state: what was written is read back

module _ (st : State) where
  pub state-head-length : length (state_head_bytes st) ≡ state_head
  unfolding state_head_bytes le64
  state-head-length = refl

  module _ (f : StateFits st) where
    points-length : length (bytes_of point_bytes st.points) ≡ point_row * point_count
    points-length = length-bytes_of point_codec st.points ∙ ap (λ (x : ℕ). point_row * x) f.points-count

    floors-length : length (padded floor_bytes floor_row client_count st.floors) ≡ floor_row * client_count
    floors-length = padded-length floor_codec client_count st.floors f.floors-count

    records-length : length (bytes_of completion_bytes st.records) ≡ record_row * length st.records
    records-length = length-bytes_of completion_codec st.records

    pub state-length : length (state_bytes st) ≡ records_end (length st.records)
    unfolding state_bytes
    state-length = simp (length-append, state-head-length, plan-length st.plan f.plan-count, points-length, floors-length, records-length) (omega arith)

    pub state-within : length (state_bytes st) ≤ state_end
    state-within = omega (arith, state-length, f.records-count)

    pub state-bytes : Bytes (state_bytes st)
    unfolding state_bytes
    state-bytes =
        bytes_run
        (state_head_bytes st ∷ plan_bytes st.plan ∷ bytes_of point_bytes st.points ∷ padded floor_bytes floor_row client_count st.floors
        ∷ bytes_of completion_bytes st.records ∷ []) (
          subst Bytes (sym (head-writes st)) (all_bytes head_fields (head_numbers st) (joined_all (fixed_bytes head_fields) refl) (head_bounded st f)),
          (
            plan-bytes st.plan f.plan,
            (
              bytes-bytes_of point_codec st.points f.points,
              (
                padded-bytes floor_codec client_count st.floors f.floors,
                (bytes-bytes_of completion_codec st.records f.records, tt),
              ),
            ),
          ),
        )

    module _ (rest : List ℕ) where
      drop_head : drop state_head (state_bytes st ++ rest)
          ≡ plan_bytes st.plan ++ (bytes_of point_bytes st.points ++ (padded floor_bytes floor_row client_count st.floors ++ (bytes_of completion_bytes st.records ++ rest)))
      unfolding state_bytes state_head_bytes le64
      drop_head = simp append_assoc

      drop-plan : drop points_start (state_bytes st ++ rest)
          ≡ bytes_of point_bytes st.points ++ (padded floor_bytes floor_row client_count st.floors ++ (bytes_of completion_bytes st.records ++ rest))
      drop-plan =
          sym (drop-drop plan_size state_head (state_bytes st ++ rest))
          ∙ ap (λ (x : List ℕ). drop plan_size x) drop_head
          ∙ drop_at (plan_bytes st.plan)
          (bytes_of point_bytes st.points ++ (padded floor_bytes floor_row client_count st.floors ++ (bytes_of completion_bytes st.records ++ rest)))
          plan_size (plan-length st.plan f.plan-count)

      drop-points : drop floors_start (state_bytes st ++ rest)
          ≡ padded floor_bytes floor_row client_count st.floors ++ (bytes_of completion_bytes st.records ++ rest)
      drop-points =
          sym (drop-drop (point_row * point_count) points_start (state_bytes st ++ rest))
          ∙ ap (λ (x : List ℕ). drop (point_row * point_count) x) drop-plan
          ∙ drop_at (bytes_of point_bytes st.points) (padded floor_bytes floor_row client_count st.floors ++ (bytes_of completion_bytes st.records ++ rest))
          (point_row * point_count) points-length

      drop-floors : drop records_start (state_bytes st ++ rest) ≡ bytes_of completion_bytes st.records ++ rest
      drop-floors =
          sym (drop-drop (floor_row * client_count) floors_start (state_bytes st ++ rest))
          ∙ ap (λ (x : List ℕ). drop (floor_row * client_count) x) drop-points
          ∙ drop_at (padded floor_bytes floor_row client_count st.floors) (bytes_of completion_bytes st.records ++ rest) (floor_row * client_count) floors-length

      numbers-at : nth (got_all head_fields (state_bytes st ++ rest) 0) ≡ nth (head_numbers st)
      unfolding state_bytes
      numbers-at =
          rw (head-writes st, append_assoc)
          (all_front head_fields (head_numbers st)
          ((plan_bytes st.plan ++ (bytes_of point_bytes st.points ++ (padded floor_bytes floor_row client_count st.floors ++ bytes_of completion_bytes st.records))) ++ rest)
          (head_bounded st f))

      clients-at : clients_in (state_bytes st ++ rest) ≡ length st.floors
      unfolding clients_in
      clients-at = λ i. numbers-at i 2

      records-at : records_in (state_bytes st ++ rest) ≡ length st.records
      unfolding records_in
      records-at = λ i. numbers-at i 3

      plan-rows : rows plan_entry_of plan_row point_count (drop state_head (state_bytes st ++ rest)) ≡ st.plan
      unfolding plan_bytes
      plan-rows =
          rw (drop_head, ← f.plan-count)
          (rows_back plan_codec st.plan
          (bytes_of point_bytes st.points ++ (padded floor_bytes floor_row client_count st.floors ++ (bytes_of completion_bytes st.records ++ rest))) f.plan)

      point-rows : rows point_of point_row point_count (drop points_start (state_bytes st ++ rest)) ≡ st.points
      point-rows =
          rw (drop-plan, ← f.points-count)
          (rows_back point_codec st.points (padded floor_bytes floor_row client_count st.floors ++ (bytes_of completion_bytes st.records ++ rest)) f.points)

      floor-rows : rows floor_of_bytes floor_row (clients_in (state_bytes st ++ rest)) (drop floors_start (state_bytes st ++ rest)) ≡ st.floors
      floor-rows = rw (drop-points, clients-at) (padded-rows floor_codec client_count st.floors (bytes_of completion_bytes st.records ++ rest) f.floors)

      record-rows : rows completion_of record_row (records_in (state_bytes st ++ rest)) (drop records_start (state_bytes st ++ rest)) ≡ st.records
      record-rows = rw (drop-floors, records-at) (rows_back completion_codec st.records rest f.records)

      pub load-front : load (state_bytes st ++ rest) ≡ st
      unfolding load
      load-front = λ i.
          record {
            server = numbers-at i 0;
            heard = numbers-at i 1;
            size = numbers-at i 5;
            mark = numbers-at i 6;
            plan = plan-rows i;
            points = point-rows i;
            floors = floor-rows i;
            records = record-rows i;
          }

      head_framed_lem : ((starts_with (state_bytes st ++ rest) state_magic ≡ true) × (zeros3_at (state_bytes st ++ rest) 5 ≡ true) × (le32_at (state_bytes st ++ rest) 20 ≡ 0))
      unfolding state_bytes state_head_bytes zeros3_at le32_at
      head_framed_lem = (refl, refl, refl)

      floors-zeros : zeros (floor_row * (client_count - clients_in (state_bytes st ++ rest))) (drop (floors_start + floor_row * clients_in (state_bytes st ++ rest)) (state_bytes st ++ rest)) ≡ true
      floors-zeros =
          rw (clients-at, ← drop-drop (floor_row * length st.floors) floors_start (state_bytes st ++ rest), drop-points)
          (padded-zeros floor_codec client_count st.floors (bytes_of completion_bytes st.records ++ rest))

      framed : state_framed (state_bytes st ++ rest) ≡ true
      unfolding state_framed
      framed =
          let h = head_framed_lem in
          passed (framed_tests (state_bytes st ++ rest)) h.0 h.1 h.2 (rw clients-at f.floors-count) (rw records-at f.records-count) floors-zeros

      plan-tests : every_row plan_row_ok plan_row point_count (drop state_head (state_bytes st ++ rest)) ≡ true
      unfolding plan_bytes
      plan-tests =
          rw (drop_head, ← f.plan-count)
          (every_row-back plan_codec st.plan
          (bytes_of point_bytes st.points ++ (padded floor_bytes floor_row client_count st.floors ++ (bytes_of completion_bytes st.records ++ rest))) f.plan)

      point-tests : every_row point_row_ok point_row point_count (drop points_start (state_bytes st ++ rest)) ≡ true
      point-tests =
          rw (drop-plan, ← f.points-count)
          (every_row-back point_codec st.points (padded floor_bytes floor_row client_count st.floors ++ (bytes_of completion_bytes st.records ++ rest)) f.points)

      pub sound-front : state_end ≤ length (state_bytes st ++ rest) → state_ok st ≡ true → sound (state_bytes st ++ rest) ≡ true
      unfolding sound
      sound-front long ok = passed (sound_tests (state_bytes st ++ rest)) long framed plan-tests point-tests (rw load-front ok)

    -- in a buffer
    pub load-back : (s : List ℕ) → state_end ≤ length s → load (written s 0 (state_bytes st)) ≡ st
    load-back s h = rw (written-front s (state_bytes st) (omega (arith, state-within))) (load-front (drop (length (state_bytes st)) s))

    pub sound_back : (s : List ℕ) → state_end ≤ length s → state_ok st ≡ true → sound (written s 0 (state_bytes st)) ≡ true
    sound_back s h ok =
        rw (written-front s (state_bytes st) (omega (arith, state-within)))
        (sound-front (drop (length (state_bytes st)) s) (omega (arith, state-within, length-append (state_bytes st) (drop (length (state_bytes st)) s), length-drop (length (state_bytes st)) s)) ok)

-- ---- soundness, as a test and as a record

sound_says : (s : List ℕ) → Reflects Unit (sound s) (Sound s)
unfolding sound state_framed
sound_says s =
    reflects (sound_tests s)
    (λ u p.
    let q = facts (framed_tests s) (p 1) in
    record { long = p 0; magic = q 0; at5 = q 1; at20 = q 2; few_clients = q 3; few_records = q 4; past-clients = q 5; plan-rows = p 2; point-rows = p 3; state = p 4 })
    (λ d k.
    k d.long (passed (framed_tests s) d.magic d.at5 d.at20 d.few_clients d.few_records d.past-clients) d.plan-rows d.point-rows d.state)

pub sound-is : (s : List ℕ) → sound s ≡ true → Sound s
sound-is s e = (sound_says s).holds tt e

pub is-sound : (s : List ℕ) → Sound s → sound s ≡ true
is-sound s d = (sound_says s).passes d

-- ---- a sound state that was read is written again: the same bytes

module _ (s : List ℕ) (h : Bytes s) (d : Sound s) where
  loaded_floors : length (load s).floors ≡ clients_in s
  unfolding load
  loaded_floors = length-rows floor_of_bytes floor_row (clients_in s) (drop floors_start s)

  loaded_records : length (load s).records ≡ records_in s
  unfolding load
  loaded_records = length-rows completion_of record_row (records_in s) (drop records_start s)

  state-head-again : state_head_bytes (load s) ≡ take state_head s
  unfolding load zeros3_at clients_in records_in
  state-head-again =
      let same : head_numbers (load s) ≡ got_all head_fields s 0 =
      λ j. byte_at s 4 ∷ le32_at s 8 ∷ loaded_floors j ∷ loaded_records j ∷ sym d.at20 j ∷ le64_at s 24 ∷ le64_at s 32 ∷ [] in
      let tests : pass_all head_fields s 0 ≡ true = simp and_assoc at (and_both (starts_with s state_magic) (zeros3_at s 5) d.magic d.at5) in
      head-writes (load s) ∙ ap (put_all head_fields) same ∙ all_again head_fields s 0 h (omega (arith, d.long)) (joined_all (tests_of head_fields s 0) tests)

  pub state-again : state_bytes (load s) ≡ part 0 (records_end (records_in s)) s
  unfolding state_bytes load plan_bytes
  state-again =
      let l : state_end ≤ length s = d.long in
      let m : records_in s ≤ record_count = d.few_records in
      let k : ℕ = record_row * records_in s in
      let e : state_head + (plan_size + (point_row * point_count + (floor_row * client_count + k))) ≡ records_end (records_in s) = omega arith in
      part_join s 0 state_head (plan_size + (point_row * point_count + (floor_row * client_count + k))) state-head-again
      (part_join s state_head plan_size (point_row * point_count + (floor_row * client_count + k))
      (rows-again plan_codec point_count (drop state_head s) (bytes_drop state_head s h) (omega (arith, length-drop state_head s)) d.plan-rows)
      (part_join s points_start (point_row * point_count) (floor_row * client_count + k)
      (rows-again point_codec point_count (drop points_start s) (bytes_drop points_start s h) (omega (arith, length-drop points_start s)) d.point-rows)
      (part_join s floors_start (floor_row * client_count) k
      (padded-again floor_codec client_count s floors_start (clients_in s) h d.few_clients (omega arith) (every_row-true floor_row (clients_in s) (drop floors_start s)) d.past-clients)
      (rows-again completion_codec (records_in s) (drop records_start s) (bytes_drop records_start s h) (omega (arith, length-drop records_start s))
      (every_row-true record_row (records_in s) (drop records_start s))))))
      ∙ ap (λ (x : ℕ). part 0 x s) e

  pub written-state : written s 0 (state_bytes (load s)) ≡ s
  written-state = written-again s 0 (records_end (records_in s)) (state_bytes (load s)) state-again

  pub load_fits : StateFits (load s)
  unfolding load
  load_fits =
      record {
        server = h 4;
        heard = le32-below s 8 h;
        size = le64-below s 24 h;
        mark = le64-below s 32 h;
        plan = rows_fit plan_codec point_count (drop state_head s) (bytes_drop state_head s h) d.plan-rows;
        plan-count = length-rows plan_entry_of plan_row point_count (drop state_head s);
        points = rows_fit point_codec point_count (drop points_start s) (bytes_drop points_start s h) d.point-rows;
        points-count = length-rows point_of point_row point_count (drop points_start s);
        floors = rows_fit floor_codec (clients_in s) (drop floors_start s) (bytes_drop floors_start s h) (every_row-true floor_row (clients_in s) (drop floors_start s));
        floors-count = rw (length-rows floor_of_bytes floor_row (clients_in s) (drop floors_start s)) d.few_clients;
        records = rows_fit completion_codec (records_in s) (drop records_start s) (bytes_drop records_start s h) (every_row-true record_row (records_in s) (drop records_start s));
        records-count = rw (length-rows completion_of record_row (records_in s) (drop records_start s)) d.few_records;
      }

-- ---- at most 16 completion records a client, so 512 for 32 clients

completion-window : (st : State) (r : Completion) → completion_ok st r ≡ true → in_window (floor_of r.command.client st.floors) r.command.call ≡ true
unfolding completion_ok
completion-window st r e =
    let c = r.command in
    facts
    (flag (command_ok c.op c.point c.argument) ∷ flag (outcome_ok r.result.outcome r.result.quality) ∷ flag (id_ok c.client c.call)
    ∷ flag (in_range (entry_at st.plan c.point) r.result.value) ∷ flag (keeps_records (point_at st c.point)) ∷ le head_size r.end ∷ le r.end st.size
    ∷ flag (in_window (floor_of c.client st.floors) c.call) ∷ []) e 7

pub state-records : (st : State) → state_ok st ≡ true → length st.records ≤ call_window * length st.floors
unfolding state_ok
state-records st ok =
    let p = facts
    (le st.server last_server ∷ le head_size st.mark ∷ le st.mark st.size ∷ flag (points_ok st.server st.size st.plan st.points) ∷ flag (every floor_ok st.floors)
    ∷ flag (clients_ascend st.floors) ∷ flag (every (completion_ok st) st.records) ∷ flag (ids_differ st.records) ∷ flag (ends_from head_size st.records) ∷ []) ok in
    records-count st.floors st.records (p 5)
    (every_imp (completion_ok st) (λ r. in_window (floor_of r.command.client st.floors) r.command.call) (completion-window st) st.records (p 6)) (p 7)
