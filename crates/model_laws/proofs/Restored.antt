-- Laws of the state that is read from a checkpoint: any bytes that are framed.
--     restored-long, restored-fit   their number, and that they are bytes
--     restored-.., drop-..          what stands in them: the head's fields, the tables
--     restored-again                where they are sound, the state's checkpoint in their form are the bytes that were read
-- Assumes nothing.
use Prim.Native.Nat.{ℕ, ◌+◌, ◌-◌, ◌*◌, ◌≤◌}
use mathlib.Core.Path.{◌≡◌, refl, sym, ap, ◌∙◌}
use mathlib.Core.Bool.{Bool, true, and_assoc}
use mathlib.Core.List.{List, [], ◌∷◌, ◌++◌, append_assoc, append-nil}
use native.Mathlib.Omega.{arith}
use native.Mathlib.Nat.{div-le_self}
use lib.ListN.{length, take, drop, replicate, length-append, length-drop, length-replicate}
use lib.Seq.{drop_at, drop-drop, take_at, length-take-le}
use lib.Dec.{lit<}
use Rattle.model.specs.Numbers.{byte_at, le32_at, le32, le64_at, le64, zeros3_at, quad, starts_with}
use Rattle.model.specs.Tables.{bytes_of}
use Rattle.model.specs.Plan.{plan_bytes}
use Rattle.model.specs.Images.{floor_of_bytes, floor_bytes}
use Rattle.model.specs.States.{state_magic, state_head, point_row, record_row, points_start, floors_start, records_start, state_end, point_of, point_bytes, completion_of, completion_bytes}
use Rattle.model.specs.States.{clients_in, records_in, load, padded}
use Rattle.model.specs.Limits.{head_size, plan_size, point_count, client_count, record_count, floor_row, checkpoint_point, checkpoint_record}
use Rattle.model.specs.Checkpoints.{checkpoint_magic, checkpoint_record_of, plan_part, points_part, clients_part, records_part, point_front, record_front, checkpoint_bytes, record_width, clients_of, records_of}
use Rattle.model.specs.Checkpoints.{point_whole, record_whole, fronts, restored_bytes, restored}
use Rattle.model_laws.specs.Bytes.{Bytes, All, part}
use Rattle.model_laws.specs.Fields.{got_all, put_all, tests_of, pass_all}
use Rattle.model_laws.specs.Fits.{Sound}
use Rattle.model_laws.proofs.Tests.{and_both, joined_all}
use Rattle.model_laws.proofs.Numbers.{part_join, part-quad, le32-below, le32_digits, length-le64}
use Rattle.model_laws.proofs.Numbers.{bytes-append, bytes_take, bytes_drop, bytes-quad, bytes-le32, bytes-le64, bytes_run}
use Rattle.model_laws.proofs.Fields.{all_again}
use Rattle.model_laws.proofs.Tables.{length-rows, places, rows-again, every_row-true, bytes-replicate, all_map}
use Rattle.model_laws.proofs.Images.{floor_codec}
use Rattle.model_laws.proofs.Plans.{plan_codec}
use Rattle.model_laws.proofs.States.{point_codec, completion_codec}
use Rattle.model_laws.proofs.Fronts.{fronts-take, length-fronts, fronts-long, fronts-bytes, length-each, bytes-each, fronts-same, point-cut, record-cut}
use Rattle.model_laws.proofs.Fronts.{point-whole-width, point-whole-cut, point-whole-bytes, record-whole-width, record-whole-cut, record-whole-bytes, record-width}
use Rattle.model_laws.proofs.Checkpoints.{Framed, magic_end, magic_form, checkpoint_fields, checkpoint_numbers, checkpoint-writes}

-- ---- a table with places past its rows

padded-width : {A : Type 0} (enc : A → List ℕ) (w n : ℕ) (rs : List A) → All (λ (r : A). length (enc r) ≡ w) rs → length rs ≤ n → length (padded enc w n rs) ≡ w * n
unfolding padded
padded-width enc w n rs f h =
    length-append (bytes_of enc rs) (replicate (w * (n - length rs)) 0) ∙ rw (length-each enc w rs f, length-replicate) (places w (length rs) n h)

padded-fit : {A : Type 0} (enc : A → List ℕ) (w n : ℕ) (rs : List A) → All (λ (r : A). Bytes (enc r)) rs → Bytes (padded enc w n rs)
unfolding padded
padded-fit enc w n rs f =
    bytes-append (bytes_of enc rs) (replicate (w * (n - length rs)) 0) (bytes-each enc rs f) (bytes-replicate (w * (n - length rs)))

padded-take : {A : Type 0} (enc : A → List ℕ) (w n : ℕ) (rs : List A) (rest : List ℕ) → All (λ (r : A). length (enc r) ≡ w) rs
    → take (w * length rs) (padded enc w n rs ++ rest) ≡ bytes_of enc rs
unfolding padded
padded-take enc w n rs rest f = rw append_assoc (take_at (bytes_of enc rs) (replicate (w * (n - length rs)) 0 ++ rest) (w * length rs) (length-each enc w rs f))

module _ (s : List ℕ) where
  abbrev plan_of_it : List ℕ
  plan_of_it = take plan_size (drop plan_part s)

  abbrev points_of_it : List ℕ
  points_of_it = bytes_of point_whole (fronts checkpoint_point point_count (drop points_part s))

  abbrev floors_of_it : List ℕ
  floors_of_it = padded (take floor_row) floor_row client_count (fronts floor_row (clients_of s) (drop clients_part s))

  -- the rows of its completion records, each with all that follows it
  abbrev record_rows : List (List ℕ)
  record_rows = fronts (record_width s) (records_of s) (drop (records_part (clients_of s)) s)

  abbrev records_of_it : List ℕ
  records_of_it = padded (record_whole (record_width s)) record_row record_count record_rows

  abbrev tables : List ℕ
  tables = plan_of_it ++ (points_of_it ++ (floors_of_it ++ records_of_it))

  -- the head, its 8 bytes of the checkpoint one by one
  abbrev head_of_it : List ℕ
  head_of_it =
      state_magic
      ++ (quad (byte_at s 4) (byte_at s 5) (byte_at s 6) (byte_at s 7)
      ++ (quad (byte_at s 8) (byte_at s 9) (byte_at s 10) (byte_at s 11)
      ++ (le32 (clients_of s) ++ (le32 (records_of s) ++ (quad 0 0 0 0 ++ (le64 head_size ++ le64 head_size))))))

  restored-run : restored s
      ≡ state_magic ++ (take 8 (drop 4 s) ++ (le32 (clients_of s) ++ (le32 (records_of s) ++ (quad 0 0 0 0 ++ (le64 head_size ++ (le64 head_size ++ tables))))))
  unfolding restored restored_bytes
  restored-run =
      let rows : records_of_it ≡ bytes_of (record_whole (record_width s)) record_rows ++ replicate (record_row * (record_count - records_of s)) 0 =
      unfold padded in rw (length-fronts (record_width s) (records_of s) (drop (records_part (clients_of s)) s)) in
      rw rows (simp append_assoc)

  -- ---- bytes

  pub restored-fit : Bytes s → Bytes (restored s)
  restored-fit h =
      rw restored-run (bytes_run
      (state_magic ∷ take 8 (drop 4 s) ∷ le32 (clients_of s) ∷ le32 (records_of s) ∷ quad 0 0 0 0 ∷ le64 head_size ∷ le64 head_size ∷ plan_of_it ∷ points_of_it ∷ floors_of_it ∷ records_of_it ∷ []) (
        bytes-quad 87 83 84 50 (lit< tt) (lit< tt) (lit< tt) (lit< tt),
        (
          bytes_take 8 (drop 4 s) (bytes_drop 4 s h),
          (
            bytes-le32 (clients_of s) (unfold clients_of in omega (arith, le32-below s 32 h)),
            (
              bytes-le32 (records_of s) (unfold records_of in omega (arith, div-le_self (le32_at s 40) (record_width s), le32-below s 40 h)),
              (
                bytes-quad 0 0 0 0 (lit< tt) (lit< tt) (lit< tt) (lit< tt),
                (
                  bytes-le64 head_size (lit< tt),
                  (
                    bytes-le64 head_size (lit< tt),
                    (
                      bytes_take plan_size (drop plan_part s) (bytes_drop plan_part s h),
                      (
                        bytes-each point_whole (fronts checkpoint_point point_count (drop points_part s))
                            (all_map Bytes (λ (r : List ℕ). Bytes (point_whole r)) point-whole-bytes (fronts checkpoint_point point_count (drop points_part s))
                            (fronts-bytes checkpoint_point point_count (drop points_part s) (bytes_drop points_part s h))),
                        (
                          padded-fit (take floor_row) floor_row client_count (fronts floor_row (clients_of s) (drop clients_part s))
                              (all_map Bytes (λ (r : List ℕ). Bytes (take floor_row r)) (bytes_take floor_row) (fronts floor_row (clients_of s) (drop clients_part s))
                              (fronts-bytes floor_row (clients_of s) (drop clients_part s) (bytes_drop clients_part s h))),
                          (
                            padded-fit (record_whole (record_width s)) record_row record_count record_rows
                                (all_map Bytes (λ (r : List ℕ). Bytes (record_whole (record_width s) r)) (record-whole-bytes (record_width s)) record_rows
                                (fronts-bytes (record_width s) (records_of s) (drop (records_part (clients_of s)) s) (bytes_drop (records_part (clients_of s)) s h))),
                            tt,
                          ),
                        ),
                      ),
                    ),
                  ),
                ),
              ),
            ),
          ),
        ),
      ))

  module _ (d : Framed s) where
    -- ---- lengths

    plan-long : length plan_of_it ≡ plan_size
    plan-long = length-take-le plan_size (drop plan_part s) (rw length-drop (omega (arith, d.whole)))

    points_all : All (λ (r : List ℕ). length (point_whole r) ≡ point_row) (fronts checkpoint_point point_count (drop points_part s))
    points_all =
        all_map (λ (r : List ℕ). checkpoint_point ≤ length r) (λ (r : List ℕ). length (point_whole r) ≡ point_row) point-whole-width (fronts checkpoint_point point_count (drop points_part s))
        (fronts-long checkpoint_point point_count (drop points_part s) (rw length-drop (omega (arith, d.whole))))

    points-long : length points_of_it ≡ point_row * point_count
    points-long =
        length-each point_whole point_row (fronts checkpoint_point point_count (drop points_part s)) points_all
        ∙ ap (λ (k : ℕ). point_row * k) (length-fronts checkpoint_point point_count (drop points_part s))

    floors_all : All (λ (r : List ℕ). length (take floor_row r) ≡ floor_row) (fronts floor_row (clients_of s) (drop clients_part s))
    floors_all =
        all_map (λ (r : List ℕ). floor_row ≤ length r) (λ (r : List ℕ). length (take floor_row r) ≡ floor_row) (length-take-le floor_row) (fronts floor_row (clients_of s) (drop clients_part s))
        (fronts-long floor_row (clients_of s) (drop clients_part s) (rw length-drop (omega (arith, d.whole))))

    floors-long : length floors_of_it ≡ floor_row * client_count
    floors-long =
        padded-width (take floor_row) floor_row client_count (fronts floor_row (clients_of s) (drop clients_part s)) floors_all
        (rw (length-fronts floor_row (clients_of s) (drop clients_part s)) d.few_clients)

    records_all : All (λ (r : List ℕ). length (record_whole (record_width s) r) ≡ record_row) record_rows
    records_all =
        all_map (λ (r : List ℕ). record_width s ≤ length r) (λ (r : List ℕ). length (record_whole (record_width s) r) ≡ record_row)
        (record-whole-width (record_width s) (record-width s).1)
        record_rows
        (fronts-long (record_width s) (records_of s) (drop (records_part (clients_of s)) s) (rw length-drop (omega (arith, d.whole))))

    records-long : length records_of_it ≡ record_row * record_count
    records-long =
        padded-width (record_whole (record_width s)) record_row record_count record_rows records_all
        (rw (length-fronts (record_width s) (records_of s) (drop (records_part (clients_of s)) s)) d.few_records)

    -- ---- the bytes by their parts

    head_bytes_lem : take 8 (drop 4 s) ≡ quad (byte_at s 4) (byte_at s 5) (byte_at s 6) (byte_at s 7) ++ quad (byte_at s 8) (byte_at s 9) (byte_at s 10) (byte_at s 11)
    head_bytes_lem = sym (part_join s 4 4 4 (part-quad s 4 (omega (arith, d.whole))) (part-quad s 8 (omega (arith, d.whole))))

    restored-parts : restored s ≡ head_of_it ++ tables
    unfolding le64
    restored-parts = rw (restored-run, head_bytes_lem)

    head-long : length head_of_it ≡ state_head
    unfolding le64
    head-long = refl

    pub restored-long : length (restored s) ≡ state_end
    restored-long = rw restored-parts (simp (length-append, plan-long, points-long, floors-long, records-long, length-le64))

    -- ---- the head's fields

    pub restored-server : byte_at (restored s) 4 ≡ byte_at s 4
    restored-server = rw restored-parts

    restored-zeros : zeros3_at (restored s) 5 ≡ zeros3_at s 5
    unfolding zeros3_at
    restored-zeros = rw restored-parts

    pub restored-heard : le32_at (restored s) 8 ≡ le32_at s 8
    unfolding le32_at
    restored-heard = rw restored-parts

    pub restored-clients : clients_in (restored s) ≡ clients_of s
    unfolding clients_in le32_at
    restored-clients = rw restored-parts (le32_digits (clients_of s))

    pub restored-records : records_in (restored s) ≡ records_of s
    unfolding records_in le32_at
    restored-records = rw restored-parts (le32_digits (records_of s))

    pub restored-size : le64_at (restored s) 24 ≡ head_size
    unfolding le64_at le32_at le64
    restored-size = rw restored-parts

    pub restored-mark : le64_at (restored s) 32 ≡ head_size
    unfolding le64_at le32_at le64
    restored-mark = rw restored-parts

    -- ---- the tables

    drop_head : drop state_head (restored s) ≡ tables
    drop_head = rw restored-parts (drop_at head_of_it tables state_head head-long)

    drop-plan : drop points_start (restored s) ≡ points_of_it ++ (floors_of_it ++ records_of_it)
    drop-plan =
        sym (drop-drop plan_size state_head (restored s))
        ∙ ap (λ (x : List ℕ). drop plan_size x) drop_head
        ∙ drop_at plan_of_it (points_of_it ++ (floors_of_it ++ records_of_it)) plan_size plan-long

    drop-points : drop floors_start (restored s) ≡ floors_of_it ++ records_of_it
    drop-points =
        sym (drop-drop (point_row * point_count) points_start (restored s))
        ∙ ap (λ (x : List ℕ). drop (point_row * point_count) x) drop-plan
        ∙ drop_at points_of_it (floors_of_it ++ records_of_it) (point_row * point_count) points-long

    pub drop-floors : drop records_start (restored s) ≡ records_of_it
    drop-floors =
        sym (drop-drop (floor_row * client_count) floors_start (restored s))
        ∙ ap (λ (x : List ℕ). drop (floor_row * client_count) x) drop-points
        ∙ drop_at floors_of_it records_of_it (floor_row * client_count) floors-long

    -- ---- the checkpoint of what was read

    module _ (h : Bytes s) (D : Sound (restored s)) where
      fit : Bytes (restored s)
      fit = restored-fit h

      plan-again : plan_bytes (load (restored s)).plan ≡ part plan_part plan_size s
      unfolding load plan_bytes
      plan-again =
          rows-again plan_codec point_count (drop state_head (restored s)) (bytes_drop state_head (restored s) fit) (omega (arith, length-drop state_head (restored s), restored-long)) D.plan-rows
          ∙ ap (λ (x : List ℕ). take plan_size x) drop_head
          ∙ take_at plan_of_it (points_of_it ++ (floors_of_it ++ records_of_it)) plan_size plan-long

      points-rows : bytes_of point_bytes (load (restored s)).points ≡ points_of_it
      unfolding load
      points-rows =
          rows-again point_codec point_count (drop points_start (restored s)) (bytes_drop points_start (restored s) fit)
          (omega (arith, length-drop points_start (restored s), restored-long)) D.point-rows
          ∙ ap (λ (x : List ℕ). take (point_row * point_count) x) drop-plan
          ∙ take_at points_of_it (floors_of_it ++ records_of_it) (point_row * point_count) points-long

      points-again : bytes_of point_front (load (restored s)).points ≡ part points_part (checkpoint_point * point_count) s
      points-again =
          fronts-same point_bytes point_front point_whole checkpoint_point point_row point_codec.enc-width point-cut point-whole-width point-whole-cut (load (restored s)).points point_count
          (drop points_part s)
          (unfold load in length-rows point_of point_row point_count (drop points_start (restored s))) (rw length-drop (omega (arith, d.whole))) points-rows

      floors-count : length (load (restored s)).floors ≡ clients_of s
      unfolding load
      floors-count = length-rows floor_of_bytes floor_row (clients_in (restored s)) (drop floors_start (restored s)) ∙ restored-clients

      floors-again : bytes_of floor_bytes (load (restored s)).floors ≡ part clients_part (floor_row * clients_of s) s
      unfolding load
      floors-again =
          let n : length (fronts floor_row (clients_of s) (drop clients_part s)) ≡ clients_of s = length-fronts floor_row (clients_of s) (drop clients_part s) in
          rows-again floor_codec (clients_in (restored s)) (drop floors_start (restored s)) (bytes_drop floors_start (restored s) fit)
          (omega (arith, length-drop floors_start (restored s), restored-long, D.few_clients)) (every_row-true floor_row (clients_in (restored s)) (drop floors_start (restored s)))
          ∙ rw (restored-clients, drop-points)
          (ap (λ (k : ℕ). take (floor_row * k) (floors_of_it ++ records_of_it)) (sym n)
          ∙ padded-take (take floor_row) floor_row client_count (fronts floor_row (clients_of s) (drop clients_part s)) records_of_it floors_all
          ∙ fronts-take floor_row (clients_of s) (drop clients_part s))

      records-count : length (load (restored s)).records ≡ records_of s
      unfolding load
      records-count = length-rows completion_of record_row (records_in (restored s)) (drop records_start (restored s)) ∙ restored-records

      records-rows : bytes_of completion_bytes (load (restored s)).records ≡ bytes_of (record_whole (record_width s)) record_rows
      unfolding load
      records-rows =
          let n : length record_rows ≡ records_of s
          = length-fronts (record_width s) (records_of s) (drop (records_part (clients_of s)) s) in
          rows-again completion_codec (records_in (restored s)) (drop records_start (restored s)) (bytes_drop records_start (restored s) fit)
          (omega (arith, length-drop records_start (restored s), restored-long, D.few_records)) (every_row-true record_row (records_in (restored s)) (drop records_start (restored s)))
          ∙ rw (restored-records, drop-floors, ← append-nil records_of_it)
          (ap (λ (k : ℕ). take (record_row * k) (records_of_it ++ [])) (sym n)
          ∙ padded-take (record_whole (record_width s)) record_row record_count record_rows [] records_all)

      records-again : bytes_of (record_front (record_width s)) (load (restored s)).records ≡ part (records_part (clients_of s)) (record_width s * records_of s) s
      records-again =
          let w : ℕ = record_width s in
          let l : w ≤ checkpoint_record = (record-width s).1 in
          fronts-same completion_bytes (record_front w) (record_whole w) w record_row completion_codec.enc-width (record-cut w (omega arith)) (record-whole-width w l) (record-whole-cut w)
          (load (restored s)).records (records_of s)
          (drop (records_part (clients_of s)) s) records-count (rw length-drop (omega (arith, d.whole))) records-rows

      abbrev timed : Bool
      timed = starts_with s checkpoint_magic

      head-again : put_all (checkpoint_fields timed) (checkpoint_numbers (record_width s) (load (restored s)).server (load (restored s)).heard (clients_of s) (records_of s)) ≡ take plan_part s
      unfolding load zeros3_at
      head-again =
          let same : checkpoint_numbers (record_width s) (load (restored s)).server (load (restored s)).heard (clients_of s) (records_of s) ≡ got_all (checkpoint_fields timed) s 0 =
          λ j. restored-server j ∷ restored-heard j ∷ sym d.plan j ∷ sym d.plan-size j ∷ sym d.points j ∷ sym d.points-size j ∷ sym d.clients j ∷ sym d.clients-size j
          ∷ sym d.records j ∷ sym d.records-size j ∷ [] in
          let tests : pass_all (checkpoint_fields timed) s 0 ≡ true =
          simp and_assoc at (and_both (starts_with s (quad 87 76 71 (magic_end timed))) (zeros3_at s 5) (magic_form s d.magic) (sym restored-zeros ∙ D.at5)) in
          ap (put_all (checkpoint_fields timed)) same ∙ all_again (checkpoint_fields timed) s 0 h (omega (arith, d.whole)) (joined_all (tests_of (checkpoint_fields timed) s 0) tests)

      pub restored-again : checkpoint_bytes timed (load (restored s)) ≡ take (records_part (clients_of s) + record_width s * records_of s) s
      restored-again =
          let n : ℕ = floor_row * clients_of s in
          let k : ℕ = record_width s * records_of s in
          let width : checkpoint_record_of timed ≡ record_width s = unfold record_width in refl in
          let e : plan_part + (plan_size + (checkpoint_point * point_count + (n + k))) ≡ records_part (clients_of s) + k = omega arith in
          rw (checkpoint-writes timed (load (restored s)), width, floors-count, records-count)
          (part_join s 0 plan_part (plan_size + (checkpoint_point * point_count + (n + k))) head-again
          (part_join s plan_part plan_size (checkpoint_point * point_count + (n + k)) plan-again
          (part_join s points_part (checkpoint_point * point_count) (n + k) points-again
          (part_join s clients_part n k floors-again records-again)))
          ∙ ap (λ (x : ℕ). take x s) e)
