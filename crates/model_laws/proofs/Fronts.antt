-- Laws of the rows of a checkpoint, which are the fronts of the state's rows.
--     fronts-back, fronts-take, length-fronts, fronts-long, fronts-bytes     rows with all that follows them
--     fronts-same                   a state's rows that are made of fronts have those fronts
--     bytes_of-map, length-each, bytes-each, all_any     the bytes of any rows
--     point-front-.., record-front-..     a row's front
--     Told, Given                   a point whose ends its front tells; a completion record that its front gives, by form
--     point-whole, record-whole     the front of a row gives the row, its ends before the log; -width, -bytes, -cut: what any bytes give
--     form_width, record-width      the bytes of a completion record in a checkpoint, by its form
-- Assumes nothing.
use Prim.Native.Nat.{ℕ, zero, suc, ◌+◌, ◌-◌, ◌*◌, ◌≤◌, ◌<◌}
use mathlib.Core.Path.{◌≡◌, refl, sym, ap, ◌∙◌}
use mathlib.Core.Bool.{Bool, true, false}
use mathlib.Core.List.{List, [], ◌∷◌, ◌++◌, map, append_assoc}
use native.Mathlib.Omega.{arith}
use native.Mathlib.Nat.{mul-suc, mul-zero}
use lib.ListN.{length, take, drop, replicate, length-append, length-drop, length-replicate}
use lib.Seq.{drop_at, take-add, take_at, take-append-le, length-take-le}
use lib.Dec.{eqb, leb, lit<}
use Rattle.model.specs.declared.Point.{Point}
use Rattle.model.specs.declared.Completion.{Completion}
use Rattle.model.specs.Choice.{pick}
use Rattle.model.specs.Numbers.{word, byte_at, le32_at, le64, starts_with}
use Rattle.model.specs.Tables.{rows, bytes_of}
use Rattle.model.specs.States.{given, point_row, record_row, point_bytes, completion_bytes}
use Rattle.model.specs.Limits.{head_size, checkpoint_point, checkpoint_record}
use Rattle.model.specs.Checkpoints.{placed_point, placed_record, end_before, checkpoint_magic, checkpoint_record_of, point_front, record_front, record_width, point_whole, record_whole, fronts}
use Rattle.model_laws.specs.Bytes.{Bytes, All}
use Rattle.model_laws.specs.Fits.{TimeFits, PointFits, CompletionFits}
use Rattle.model_laws.proofs.Numbers.{le32_digits, length-le64, bytes_take, bytes_drop, bytes-append, bytes-nil, bytes-le64}
use Rattle.model_laws.proofs.Tables.{length-rows, bytes-replicate}
use Rattle.model_laws.proofs.States.{point_codec, completion_codec}

-- ---- rows with all that follows them

module _ {A : Type 0} (P : A → Type 0) (enc out : A → List ℕ) (w : ℕ) (whole : List ℕ → List ℕ)
    (width : (x : A) → P x → length (enc x) ≡ w) (one : (x : A) (rest : List ℕ) → P x → whole (enc x ++ rest) ≡ out x) where
  -- what each row is made into, row by row
  pub fronts-back : (xs : List A) (rest : List ℕ) → All P xs → bytes_of whole (fronts w (length xs) (bytes_of enc xs ++ rest)) ≡ bytes_of out xs
  unfolding bytes_of fronts rows
  fronts-back [] rest f = refl
  fronts-back (x ∷ xs) rest f =
      rw (append_assoc, one x (bytes_of enc xs ++ rest) f.0, drop_at (enc x) (bytes_of enc xs ++ rest) w (width x f.0))
      (ap (λ (y : List ℕ). out x ++ y) (fronts-back xs rest f.1))

pub fronts-take : (w n : ℕ) (s : List ℕ) → bytes_of (take w) (fronts w n s) ≡ take (w * n) s
unfolding bytes_of fronts rows
fronts-take w zero s = rw mul-zero
fronts-take w (suc n) s =
    let m : w * suc n ≡ w + w * n = omega (arith, mul-suc w n) in
    ap (λ (x : List ℕ). take w s ++ x) (fronts-take w n (drop w s)) ∙ sym (take-add w (w * n) s) ∙ ap (λ (k : ℕ). take k s) (sym m)

pub length-fronts : (w n : ℕ) (s : List ℕ) → length (fronts w n s) ≡ n
unfolding fronts
length-fronts w n s = length-rows (λ r. r) w n s

pub bytes_of-map : {A B : Type 0} (enc : B → List ℕ) (f : A → B) (xs : List A) → bytes_of enc (map f xs) ≡ bytes_of (λ (x : A). enc (f x)) xs
unfolding bytes_of
bytes_of-map enc f [] = refl
bytes_of-map enc f (x ∷ xs) = ap (λ (y : List ℕ). enc (f x) ++ y) (bytes_of-map enc f xs)

-- the bytes of rows of one width
pub length-each : {A : Type 0} (enc : A → List ℕ) (w : ℕ) (xs : List A) → All (λ (x : A). length (enc x) ≡ w) xs → length (bytes_of enc xs) ≡ w * length xs
unfolding bytes_of
length-each enc w [] f = sym (mul-zero w)
length-each enc w (x ∷ xs) f = rw (length-append, f.0, length-each enc w xs f.1) (omega (arith, mul-suc w (length xs)))

pub bytes-each : {A : Type 0} (enc : A → List ℕ) (xs : List A) → All (λ (x : A). Bytes (enc x)) xs → Bytes (bytes_of enc xs)
unfolding bytes_of
bytes-each enc [] f = bytes-nil
bytes-each enc (x ∷ xs) f = bytes-append (enc x) (bytes_of enc xs) f.0 (bytes-each enc xs f.1)

-- where the bytes suffice for all, each has at least its own
pub fronts-long : (w n : ℕ) (s : List ℕ) → w * n ≤ length s → All (λ (r : List ℕ). w ≤ length r) (fronts w n s)
unfolding fronts rows
fronts-long w zero s h = tt
fronts-long w (suc n) s h =
    let m : w * suc n ≡ w + w * n = omega (arith, mul-suc w n) in
    (omega arith, fronts-long w n (drop w s) (rw length-drop (omega arith)))

pub fronts-bytes : (w n : ℕ) (s : List ℕ) → Bytes s → All Bytes (fronts w n s)
unfolding fronts rows
fronts-bytes w zero s h = tt
fronts-bytes w (suc n) s h = (h, fronts-bytes w n (drop w s) (bytes_drop w s h))

pub all_any : {A : Type 0} (P : A → Type 0) (xs : List A) → ((x : A) → P x) → All P xs
all_any P [] f = tt
all_any P (x ∷ xs) f = (f x, all_any P xs f)

-- ---- a point's front

-- the ends of a point, before this log, as its status and its latest taken move tell
pub record Told (x : Point) : Type 0 where
  pub give : end_before x.give_end ≡ pick (leb given x.status) head_size 0
  pub took : end_before x.take_end ≡ pick (eqb x.taken_move 0) 0 head_size

pub point-front-width : (x : Point) → length (point_front x) ≡ checkpoint_point
unfolding point_front point_bytes
point-front-width x = refl

taken_at_lem : (x : Point) (rest : List ℕ) → le32_at (point_front x ++ rest) 12 ≡ x.taken_move
unfolding point_front point_bytes le32_at
taken_at_lem x rest = le32_digits x.taken_move

status-at : (x : Point) (rest : List ℕ) → byte_at (point_front x ++ rest) 0 ≡ x.status
unfolding point_front point_bytes
status-at x rest = refl

placed-split : (x : Point) → point_bytes (placed_point end_before x) ≡ point_front x ++ (le64 (end_before x.give_end) ++ le64 (end_before x.take_end))
unfolding point_front point_bytes placed_point
placed-split x = refl

pub point-whole : (x : Point) (rest : List ℕ) → Told x → point_whole (point_front x ++ rest) ≡ point_bytes (placed_point end_before x)
unfolding point_whole
point-whole x rest t =
    rw (take_at (point_front x) rest checkpoint_point (point-front-width x), taken_at_lem x rest, status-at x rest, placed-split x, t.give, t.took)

pub point-front-bytes : (x : Point) → PointFits x → Bytes (point_front x)
unfolding point_front
point-front-bytes x h = bytes_take checkpoint_point (point_bytes x) (point_codec.enc-bytes x h)

-- ---- a completion record's front

pub record-front-width : (w : ℕ) → w ≤ record_row → (r : Completion) → length (record_front w r) ≡ w
unfolding record_front
record-front-width w l r = length-take-le w (completion_bytes r) (rw (completion_codec.enc-width r) l)

pub record-front-bytes : (w : ℕ) (r : Completion) → CompletionFits r → Bytes (record_front w r)
unfolding record_front
record-front-bytes w r h = bytes_take w (completion_bytes r) (completion_codec.enc-bytes r h)

-- at least the 8 bytes of an id, at most the front
pub form_width : (timed : Bool) → (8 ≤ checkpoint_record_of timed) × (checkpoint_record_of timed ≤ checkpoint_record)
unfolding checkpoint_record_of
form_width true = (omega arith, omega arith)
form_width false = (omega arith, omega arith)

-- a record that its front gives: a form without times gives time 0
abbrev pub Given : Bool → Completion → Type 0
Given timed r = TimeFits timed r.result.time × (end_before r.end ≡ head_size)

placed-record-split : (timed : Bool) (r : Completion) → TimeFits timed r.result.time
    → completion_bytes (placed_record end_before r)
    ≡ record_front (checkpoint_record_of timed) r ++ (replicate (checkpoint_record - checkpoint_record_of timed) 0 ++ le64 (end_before r.end))
unfolding record_front completion_bytes placed_record checkpoint_record_of
placed-record-split true r t = refl
placed-record-split false r t = rw t

pub record-whole : (timed : Bool) (r : Completion) (rest : List ℕ) → Given timed r
    → record_whole (checkpoint_record_of timed) (record_front (checkpoint_record_of timed) r ++ rest) ≡ completion_bytes (placed_record end_before r)
unfolding record_whole
record-whole timed r rest g =
    let w : ℕ = checkpoint_record_of timed in
    rw (take_at (record_front w r) rest w (record-front-width w (omega (arith, (form_width timed).1)) r), placed-record-split timed r g.0, g.1)

-- ---- rows that any bytes give

ends_small : (b : Bool) (m n : ℕ) → m ≤ head_size → n ≤ head_size → pick b m n < word * word
ends_small true m n p q = omega arith
ends_small false m n p q = omega arith

front_cut : (w : ℕ) (s t rest : List ℕ) → w ≤ length s → take w ((take w s ++ t) ++ rest) ≡ take w s
front_cut w s t rest h = rw append_assoc (take_at (take w s) (t ++ rest) w (length-take-le w s h))

pub point-whole-width : (s : List ℕ) → checkpoint_point ≤ length s → length (point_whole s) ≡ point_row
unfolding point_whole
point-whole-width s h = simp (length-append, length-take-le checkpoint_point s h, length-le64)

pub point-whole-cut : (s rest : List ℕ) → checkpoint_point ≤ length s → take checkpoint_point (point_whole s ++ rest) ≡ take checkpoint_point s
unfolding point_whole
point-whole-cut s rest h = front_cut checkpoint_point s (le64 (pick (leb given (byte_at s 0)) head_size 0) ++ le64 (pick (eqb (le32_at s 12) 0) 0 head_size)) rest h

pub point-whole-bytes : (s : List ℕ) → Bytes s → Bytes (point_whole s)
unfolding point_whole
point-whole-bytes s h =
    let g : ℕ = pick (leb given (byte_at s 0)) head_size 0 in
    let t : ℕ = pick (eqb (le32_at s 12) 0) 0 head_size in
    bytes-append (take checkpoint_point s) (le64 g ++ le64 t) (bytes_take checkpoint_point s h)
    (bytes-append (le64 g) (le64 t) (bytes-le64 g (ends_small (leb given (byte_at s 0)) head_size 0 (omega arith) (omega arith)))
    (bytes-le64 t (ends_small (eqb (le32_at s 12) 0) 0 head_size (omega arith) (omega arith))))

pub record-whole-width : (w : ℕ) → w ≤ checkpoint_record → (s : List ℕ) → w ≤ length s → length (record_whole w s) ≡ record_row
unfolding record_whole
record-whole-width w l s h = simp (length-append, length-take-le w s h, length-replicate, length-le64) (omega arith)

pub record-whole-cut : (w : ℕ) (s rest : List ℕ) → w ≤ length s → take w (record_whole w s ++ rest) ≡ take w s
unfolding record_whole
record-whole-cut w s rest h = front_cut w s (replicate (checkpoint_record - w) 0 ++ le64 head_size) rest h

pub record-whole-bytes : (w : ℕ) (s : List ℕ) → Bytes s → Bytes (record_whole w s)
unfolding record_whole
record-whole-bytes w s h =
    bytes-append (take w s) (replicate (checkpoint_record - w) 0 ++ le64 head_size) (bytes_take w s h)
    (bytes-append (replicate (checkpoint_record - w) 0) (le64 head_size) (bytes-replicate (checkpoint_record - w)) (bytes-le64 head_size (lit< tt)))

-- a row in a checkpoint
pub record-width : (s : List ℕ) → (8 ≤ record_width s) × (record_width s ≤ checkpoint_record)
unfolding record_width
record-width s = form_width (starts_with s checkpoint_magic)

-- ---- the fronts of rows that were made of fronts

pub point-cut : (x : Point) (rest : List ℕ) → take checkpoint_point (point_bytes x ++ rest) ≡ point_front x
unfolding point_front point_bytes
point-cut x rest = refl

pub record-cut : (w : ℕ) → w ≤ record_row → (r : Completion) (rest : List ℕ) → take w (completion_bytes r ++ rest) ≡ record_front w r
unfolding record_front
record-cut w l r rest = take-append-le w (completion_bytes r) rest (rw (completion_codec.enc-width r) l)

module _ {A : Type 0} (enc out : A → List ℕ) (whole : List ℕ → List ℕ) (w row : ℕ)
    (enc-width : (x : A) → length (enc x) ≡ row) (enc-cut : (x : A) (rest : List ℕ) → take w (enc x ++ rest) ≡ out x)
    (whole-width : (s : List ℕ) → w ≤ length s → length (whole s) ≡ row)
    (whole-cut : (s rest : List ℕ) → w ≤ length s → take w (whole s ++ rest) ≡ take w s) where
  pub fronts-same : (xs : List A) (n : ℕ) (s : List ℕ) → length xs ≡ n → w * n ≤ length s → bytes_of enc xs ≡ bytes_of whole (fronts w n s) → bytes_of out xs ≡ take (w * n) s
  fronts-same xs n s e h q =
      let ts : List (List ℕ) = fronts w n s in
      let rows_of : bytes_of (take w) (fronts row (length xs) (bytes_of enc xs ++ [])) ≡ bytes_of out xs
      = fronts-back (λ x. Unit) enc out row (take w) (λ x u. enc-width x) (λ x rest u. enc-cut x rest) xs [] (all_any (λ x. Unit) xs (λ x. tt)) in
      let fronts_of : bytes_of (take w) (fronts row (length ts) (bytes_of whole ts ++ [])) ≡ bytes_of (take w) ts
      = fronts-back (λ t. w ≤ length t) whole (take w) row (take w) whole-width whole-cut ts [] (fronts-long w n s h) in
      let counts : length xs ≡ length ts = e ∙ sym (length-fronts w n s) in
      sym rows_of ∙ rw (counts, q) (fronts_of ∙ fronts-take w n s)
