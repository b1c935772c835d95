-- Laws of images.
--     floor_codec, entry_codec        the rows of the two tables, as codecs; an entry's by form
--     image-length, image-least, image-limit, image-bytes     the length of an image's bytes, 48 to 12,592; they are bytes
--     image-back                    what was written is read back, for every well-formed image that fits
--     image-is                      what parses is well-formed, fits, and is written again: the same bytes
--     row_least, row_most, width-least, width-most, entries-within     an entry's width by form and in every image, and where the entries end
--     floor-count, entry-count, head-same     an image that was read with a head has that head
--     tested, placed                what image_ok and image_parts ask, one by one
--     greatest-most, tested_most, image-most     what parses has at most as many bytes as its form allows: at most 12,592
-- Assumes nothing.
use Prim.Native.Nat.{ℕ, ◌+◌, ◌*◌, ◌/◌, ◌≤◌}
use mathlib.Core.Path.{◌≡◌, refl, sym, ap, ◌∙◌, subst}
use mathlib.Core.Bool.{Bool, true, false, ◌&&◌, ◌||◌, false≢true}
use mathlib.Core.List.{List, [], ◌∷◌, ◌++◌, append-nil, append_assoc}
use mathlib.Core.Option.{some}
use native.Mathlib.Omega.{arith}
use lib.ListN.{length, take, drop, length-append, length-drop}
use lib.Seq.{take_all, drop_at, drop-drop}
use lib.Dec.{leb, lit<}
use borrow.Author.Tests.{leb-true}
use Rattle.model.specs.declared.Floor.{Floor}
use Rattle.model.specs.declared.ImageEntry.{ImageEntry}
use Rattle.model.specs.declared.ImageHead.{ImageHead}
use Rattle.model.specs.Numbers.{byte_at, le32_at, signed_at, zeros3_at, starts_with}
use Rattle.model.specs.Tables.{rows, every_row, bytes_of}
use Rattle.model.specs.Packets.{time_at, time_bytes}
use Rattle.model.specs.Images.{Image, floor_of_bytes, floor_bytes, image_entry_of, image_entry_bytes, entry_row_of, entry_width, greatest_of, entries_start, length_by, image_head, image_head_of}
use Rattle.model.specs.Images.{image_at, image_framed, image_parts}
use Rattle.model.specs.Images.{image_head_ok, entry_row_ok, image_tables_ok, image_ok, parse_image, image_length, image_head_bytes, image_bytes, first_image_magic, image_magic, image_magic_of}
use Rattle.model.specs.Limits.{least_image, greatest_image, floor_row, first_entry_row, entry_row, parts_start, point_part}
use Rattle.model_laws.specs.Bytes.{Bytes, joined}
use Rattle.model_laws.specs.Codec.{Codec}
use Rattle.model_laws.specs.Fields.{Field, byte, word32, signed, fixed, fixed_all, width_of, got_all, put_all, tests_of, nth, Bounded, BoundedAt, fixed_bytes, Layout, Computes}
use Rattle.model_laws.specs.Fits.{FloorFits, ImageEntryFits, ImageFits, image_well, IsImage}
use Rattle.model_laws.proofs.Tests.{joined_all, and_left, and_right, choose}
use Rattle.model_laws.proofs.Reflects.{Test, le, eq, flag, facts, passed}
use Rattle.model_laws.proofs.Numbers.{part_join, le32-below, signed_below}
use Rattle.model_laws.proofs.Numbers.{bytes_drop, bytes-append}
use Rattle.model_laws.proofs.Fields.{codec, wide_codec, layout-fit, all_width, all_bytes, all_at, all_again}
use Rattle.model_laws.proofs.Tables.{length-rows, length-bytes_of, bytes-bytes_of, rows_back, every_row-back, every_row-true, rows-again, rows_fit}

-- ---- the rows

abbrev floor_layout : Layout Floor
floor_layout =
    record {
      fields = word32 ∷ word32 ∷ [];
      to = λ v. record { client = v 0; floor = v 1 };
      from = λ f. f.client ∷ f.floor ∷ [];
      Fit = FloorFits;
      fits = λ f h. (h.client, (h.floor, tt));
      fitted = λ v p. record { client = p 0; floor = p 1 };
    }

pub floor_computes : Computes floor_layout floor_of_bytes floor_bytes (λ s. true)
unfolding floor_of_bytes floor_bytes
floor_computes = record { reads = λ s. refl; writes = λ a. refl; tests = λ s. refl; plain = refl; back = λ a h. refl; forth = λ s. refl }

abbrev pub floor_codec : Codec Floor
floor_codec = codec floor_computes

-- an entry by form
abbrev entry_fields : Bool → List Field
entry_fields true = word32 ∷ word32 ∷ signed ∷ signed ∷ byte ∷ byte ∷ byte ∷ fixed 0 ∷ word32 ∷ []
entry_fields false = word32 ∷ word32 ∷ signed ∷ signed ∷ byte ∷ byte ∷ byte ∷ fixed 0 ∷ []

abbrev entry_of : (ℕ → ℕ) → ImageEntry
entry_of v = record { client = v 0; call = v 1; op = v 4; argument = v 2; result = record { outcome = v 5; value = v 3; quality = v 6; time = v 7 } }

abbrev entry_numbers : ImageEntry → List ℕ
entry_numbers e =
    let r = e.result in
    e.client ∷ e.call ∷ e.argument ∷ r.value ∷ e.op ∷ r.outcome ∷ r.quality ∷ r.time ∷ []

pub entry-fits : (timed : Bool) (e : ImageEntry) → ImageEntryFits timed e → Bounded (entry_fields timed) (entry_numbers e)
entry-fits true e h = (h.client, (h.call, (h.argument, (h.value, (h.op, (h.outcome, (h.quality, (h.time, tt))))))))
entry-fits false e h = (h.client, (h.call, (h.argument, (h.value, (h.op, (h.outcome, (h.quality, (h.time, tt))))))))

pub entry-fitted : (timed : Bool) (v : ℕ → ℕ) → ((k : ℕ) → BoundedAt (entry_fields timed) k (v k)) → ImageEntryFits timed (entry_of v)
entry-fitted true v p = record { client = p 0; call = p 1; argument = p 2; value = p 3; op = p 4; outcome = p 5; quality = p 6; time = p 7 }
entry-fitted false v p = record { client = p 0; call = p 1; argument = p 2; value = p 3; op = p 4; outcome = p 5; quality = p 6; time = p 7 }

abbrev entry_layout : Bool → Layout ImageEntry
entry_layout timed =
    record {
      fields = entry_fields timed;
      to = entry_of;
      from = entry_numbers;
      Fit = ImageEntryFits timed;
      fits = entry-fits timed;
      fitted = entry-fitted timed;
    }

pub entry_computes : (timed : Bool) → Computes (entry_layout timed) (image_entry_of timed) (image_entry_bytes timed) entry_row_ok
unfolding image_entry_of image_entry_bytes entry_row_ok time_at time_bytes
entry_computes true = record { reads = λ s. refl; writes = λ a. refl; tests = λ s. refl; plain = refl; back = λ a h. refl; forth = λ s. refl }
entry_computes false = record { reads = λ s. refl; writes = λ a. refl; tests = λ s. refl; plain = refl; back = λ a h. refl; forth = λ s. refl }

pub entry-wide : (timed : Bool) → width_of (entry_fields timed) ≡ entry_row_of timed
unfolding entry_row_of
entry-wide true = refl
entry-wide false = refl

abbrev pub entry_codec : Bool → Codec ImageEntry
entry_codec timed = wide_codec (codec (entry_computes timed)) (entry-wide timed)

-- the zero byte aside
pub entry-fit : (timed : Bool) (s : List ℕ) → Bytes s → ImageEntryFits timed (image_entry_of timed s)
entry-fit timed s h = layout-fit (entry_computes timed) s h

-- ---- what was written is read back

over-floor : (n : ℕ) → floor_row * n / floor_row ≡ n
over-floor n = omega arith

over-entry : (timed : Bool) (n : ℕ) → entry_row_of timed * n / entry_row_of timed ≡ n
unfolding entry_row_of
over-entry true n = omega arith
over-entry false n = omega arith

-- an entry's width by form
pub row_least : (timed : Bool) → first_entry_row ≤ entry_row_of timed
unfolding entry_row_of
row_least true = omega arith
row_least false = omega arith

pub row_most : (timed : Bool) (n : ℕ) → entry_row_of timed * n ≤ entry_row * n
unfolding entry_row_of
row_most true n = omega arith
row_most false n = omega arith

pub greatest-most : (timed : Bool) → greatest_of timed ≤ greatest_image
unfolding greatest_of
greatest-most true = omega arith
greatest-most false = omega arith

-- what holds of an entry's width in every image: a row is read within it, and counts to no more than these bytes
pub width-least : (h : ImageHead) → entry_row_of h.timed ≤ entry_width h
unfolding entry_width
width-least h = omega arith

pub width-most : (h : ImageHead) (n : ℕ) → entry_width h * n ≤ entry_row * n
unfolding entry_width
width-most h n = row_most h.timed n

-- the entries of an image that lies within n bytes
pub entries-within : (h : ImageHead) {n w k : ℕ} → length_by h ≤ n → w ≡ entry_width h → k ≡ entries_start h.floors → (entry_row_of h.timed ≤ w) × (k + w * h.entries ≤ n)
entries-within h l p q = rw (p, q) (width-least h, l)

-- the tests of the three parts
abbrev part_tests : ImageHead → List ℕ → List Test
part_tests h s =
    eq (le32_at s 16) parts_start ∷ eq (le32_at s 20) point_part ∷ eq (le32_at s 24) least_image ∷ eq (le32_at s 28) (floor_row * h.floors)
    ∷ eq (le32_at s 32) (entries_start h.floors) ∷ eq (le32_at s 36) (entry_width h * h.entries) ∷ eq (length s) (length_by h) ∷ []

-- the head's fields behind the four bytes, which go by form

abbrev head_fields : List Field
head_fields =
    byte ∷ byte ∷ byte ∷ fixed 0 ∷ word32 ∷ word32 ∷ word32 ∷ word32 ∷ word32 ∷ word32 ∷ word32 ∷ word32 ∷ signed ∷ byte ∷ fixed 0 ∷ fixed 0 ∷ fixed 0 ∷ []

abbrev head_to : Bool → (ℕ → ℕ) → ImageHead
head_to timed v =
    record {
      point = v 0;
      destination = v 1;
      source = v 2;
      move_number = v 3;
      heard = v 4;
      value = v 11;
      quality = v 12;
      floors = v 8 / floor_row;
      entries = v 10 / entry_row_of timed;
      timed = timed;
    }

abbrev head_numbers : ImageHead → List ℕ
head_numbers h =
    h.point ∷ h.destination ∷ h.source ∷ h.move_number ∷ h.heard ∷ parts_start ∷ point_part ∷ least_image ∷ (floor_row * h.floors)
    ∷ entries_start h.floors ∷ (entry_width h * h.entries) ∷ h.value ∷ h.quality ∷ []

head-reads : (s : List ℕ) → image_head_of s ≡ head_to (starts_with s image_magic) (nth (got_all head_fields s 4))
unfolding image_head_of
head-reads s = refl

head-writes : (h : ImageHead) → image_head_bytes h ≡ image_magic_of h.timed ++ put_all head_fields (head_numbers h)
unfolding image_head_bytes
head-writes h = refl

head-tests : (s : List ℕ) → image_framed s ≡ ((starts_with s image_magic || starts_with s first_image_magic) && joined (tests_of head_fields s 4))
unfolding image_framed zeros3_at
head-tests s = refl

-- the four bytes: as many, bytes, and the form that they tell
magic-length : (timed : Bool) → length (image_magic_of timed) ≡ 4
unfolding image_magic_of
magic-length true = refl
magic-length false = refl

magic-bytes : (timed : Bool) → Bytes (image_magic_of timed)
unfolding image_magic_of
magic-bytes true = all_bytes (fixed_all image_magic) [] (joined_all (fixed_bytes (fixed_all image_magic)) refl) tt
magic-bytes false = all_bytes (fixed_all first_image_magic) [] (joined_all (fixed_bytes (fixed_all first_image_magic)) refl) tt

magic_form : (timed : Bool) (rest : List ℕ) → starts_with (image_magic_of timed ++ rest) image_magic ≡ timed
unfolding image_magic_of
magic_form true rest = refl
magic_form false rest = refl

magic_framed : (timed : Bool) (h : ImageHead) (rest : List ℕ) → image_framed (image_magic_of timed ++ (put_all head_fields (head_numbers h) ++ rest)) ≡ true
unfolding image_magic_of image_framed zeros3_at
magic_framed true h rest = refl
magic_framed false h rest = refl

magic-again : (b : List ℕ) → Bytes b → least_image ≤ length b → (t u : Bool) → starts_with b image_magic ≡ t → starts_with b first_image_magic ≡ u → (t || u) ≡ true
    → image_magic_of t ≡ take 4 b
unfolding image_magic_of
magic-again b h l true u p q e = all_again (fixed_all image_magic) b 0 h (omega (arith, l)) (joined_all (tests_of (fixed_all image_magic) b 0) p)
magic-again b h l false true p q e = all_again (fixed_all first_image_magic) b 0 h (omega (arith, l)) (joined_all (tests_of (fixed_all first_image_magic) b 0) q)
magic-again b h l false false p q e = absurd (false≢true e)

-- at most as many bytes as its form allows
image-within : (i : Image) → image_well i ≡ true → image_length i ≤ greatest_of i.timed
unfolding image_well
image-within i ok = facts (flag (image_head_ok (image_head i)) ∷ le (image_length i) (greatest_of i.timed) ∷ flag (image_tables_ok i) ∷ []) ok 1

pub image-limit : (i : Image) → image_well i ≡ true → image_length i ≤ greatest_image
image-limit i ok = omega (arith, image-within i ok, greatest-most i.timed)

head_bounded : (i : Image) → image_well i ≡ true → ImageFits i → Bounded head_fields (head_numbers (image_head i))
unfolding image_length
head_bounded i ok f =
    let l : length_by (image_head i) ≤ greatest_image = image-limit i ok in
    (f.point, (f.destination, (f.source, (f.move_number, (f.heard, (lit< tt, (lit< tt, (lit< tt, (omega arith, (omega arith, (omega arith, (f.value, (f.quality, tt)))))))))))))

pub head-length : (h : ImageHead) → length (image_head_bytes h) ≡ least_image
head-length h = rw (head-writes h, length-append, magic-length h.timed) (omega (arith, all_width head_fields (head_numbers h)))

module _ (i : Image) where
  -- both tables
  behind : List ℕ
  behind = bytes_of floor_bytes i.floors ++ bytes_of (image_entry_bytes i.timed) i.entries

  drop_head : drop least_image (image_bytes i) ≡ behind
  unfolding image_bytes behind
  drop_head = drop_at (image_head_bytes (image_head i)) behind least_image (head-length (image_head i))

  drop-floors : drop (entries_start (length i.floors)) (image_bytes i) ≡ bytes_of (image_entry_bytes i.timed) i.entries
  unfolding behind
  drop-floors =
      sym (drop-drop (floor_row * length i.floors) least_image (image_bytes i))
      ∙ ap (drop (floor_row * length i.floors)) drop_head
      ∙ drop_at (bytes_of floor_bytes i.floors) (bytes_of (image_entry_bytes i.timed) i.entries) (floor_row * length i.floors) (length-bytes_of floor_codec i.floors)

  pub image-length : length (image_bytes i) ≡ image_length i
  unfolding image_bytes image_length entry_width
  image-length =
      rw (length-append, length-append, head-length (image_head i), length-bytes_of floor_codec i.floors, length-bytes_of (entry_codec i.timed) i.entries) (omega arith)

  pub image-least : least_image ≤ image_length i
  unfolding image_length
  image-least = omega arith

  module _ (f : ImageFits i) (ok : image_well i ≡ true) where
    image-at : image_at (image_head i) (image_bytes i) ≡ i
    unfolding image_at image_head entry_width behind
    image-at =
        let entry : List ℕ → ImageEntry = image_entry_of i.timed in
        let es : List ℕ = bytes_of (image_entry_bytes i.timed) i.entries in
        let floors : rows floor_of_bytes floor_row (length i.floors) (drop least_image (image_bytes i)) ≡ i.floors =
        ap (rows floor_of_bytes floor_row (length i.floors)) drop_head ∙ rows_back floor_codec i.floors es f.floors in
        let entries : rows entry (entry_row_of i.timed) (length i.entries) (drop (entries_start (length i.floors)) (image_bytes i)) ≡ i.entries =
        ap (rows entry (entry_row_of i.timed) (length i.entries)) (drop-floors ∙ sym (append-nil es)) ∙ rows_back (entry_codec i.timed) i.entries [] f.entries in
        λ j.
        record {
          point = i.point;
          destination = i.destination;
          source = i.source;
          move_number = i.move_number;
          heard = i.heard;
          value = i.value;
          quality = i.quality;
          floors = floors j;
          entries = entries j;
          timed = i.timed;
        }

    entry-rows : every_row entry_row_ok (entry_width (image_head i)) (length i.entries) (drop (entries_start (length i.floors)) (image_bytes i)) ≡ true
    unfolding entry_width image_head
    entry-rows =
        ap (every_row entry_row_ok (entry_row_of i.timed) (length i.entries)) (drop-floors ∙ sym (append-nil (bytes_of (image_entry_bytes i.timed) i.entries)))
        ∙ every_row-back (entry_codec i.timed) i.entries [] f.entries

    -- the four bytes and the head's numbers, read back
    written_as : image_bytes i ≡ image_magic_of i.timed ++ (put_all head_fields (head_numbers (image_head i)) ++ behind)
    unfolding image_bytes behind image_head
    written_as = rw head-writes (append_assoc (image_magic_of i.timed) (put_all head_fields (head_numbers (image_head i))) behind)

    form : starts_with (image_bytes i) image_magic ≡ i.timed
    form = rw written_as (magic_form i.timed (put_all head_fields (head_numbers (image_head i)) ++ behind))

    numbers : nth (got_all head_fields (image_bytes i) 4) ≡ nth (head_numbers (image_head i))
    numbers =
        rw written_as (λ j k. all_at head_fields (head_numbers (image_head i)) (image_magic_of i.timed) behind 4 (magic-length i.timed) (head_bounded i ok f) k j)

    head_at : image_head_of (image_bytes i) ≡ image_head i
    unfolding image_head entry_width
    head_at =
        head-reads (image_bytes i)
        ∙ (λ j. head_to (form j) (numbers j))
        ∙ rw (over-floor (length i.floors), over-entry i.timed (length i.entries))

    framed : image_framed (image_bytes i) ≡ true
    framed = rw written_as (magic_framed i.timed (image_head i) behind)

    parts : image_parts (image_head i) (image_bytes i) ≡ true
    unfolding image_parts image_head image_length
    parts =
        let s : List ℕ = image_bytes i in
        let is : (k : ℕ) → nth (got_all head_fields s 4) k ≡ nth (head_numbers (image_head i)) k = λ k. ap (λ (v : ℕ → ℕ). v k) numbers in
        passed (part_tests (image_head i) s) (is 5) (is 6) (is 7) (is 8) (is 9) (is 10) image-length

    image-ok : image_ok (image_bytes i) ≡ true
    unfolding image_ok image_well image_head
    image-ok =
        let s : List ℕ = image_bytes i in
        let p = facts (flag (image_head_ok (image_head i)) ∷ le (image_length i) (greatest_of i.timed) ∷ flag (image_tables_ok i) ∷ []) ok in
        rw head_at
        (passed
        (le least_image (length s) ∷ le (length s) (greatest_of (starts_with s image_magic)) ∷ flag (image_framed s) ∷ flag (image_head_ok (image_head i)) ∷ flag (image_parts (image_head i) s)
        ∷ flag (every_row entry_row_ok (entry_width (image_head i)) (length i.entries) (drop (entries_start (length i.floors)) s)) ∷ flag (image_tables_ok (image_at (image_head i) s)) ∷ [])
        (rw image-length image-least) (subst (λ (t : Bool). length s ≤ greatest_of t) (sym form) (rw image-length (p 1))) framed (p 0) parts entry-rows (rw image-at (p 2)))

    pub image-back : parse_image (image_bytes i) ≡ some i
    unfolding parse_image
    image-back = rw (image-ok, head_at, image-at)

-- the bytes of an image are bytes
pub image-bytes : (i : Image) → image_well i ≡ true → ImageFits i → Bytes (image_bytes i)
unfolding image_bytes image_head
image-bytes i ok f =
    bytes-append (image_head_bytes (image_head i)) (bytes_of floor_bytes i.floors ++ bytes_of (image_entry_bytes i.timed) i.entries)
    (subst Bytes (sym (head-writes (image_head i)))
    (bytes-append (image_magic_of i.timed) (put_all head_fields (head_numbers (image_head i))) (magic-bytes i.timed)
    (all_bytes head_fields (head_numbers (image_head i)) (joined_all (fixed_bytes head_fields) refl) (head_bounded i ok f))))
    (bytes-append (bytes_of floor_bytes i.floors) (bytes_of (image_entry_bytes i.timed) i.entries) (bytes-bytes_of floor_codec i.floors f.floors)
    (bytes-bytes_of (entry_codec i.timed) i.entries f.entries))

-- ---- what parses is well-formed, fits, and is written again: the same bytes

-- what image_ok tests, one by one
pub record Tested (b : List ℕ) : Type 0 where
  pub least : leb least_image (length b) ≡ true
  pub most : leb (length b) (greatest_of (starts_with b image_magic)) ≡ true
  pub framed : image_framed b ≡ true
  pub head : image_head_ok (image_head_of b) ≡ true
  pub parts : image_parts (image_head_of b) b ≡ true
  pub zero-bytes : every_row entry_row_ok (entry_width (image_head_of b)) (image_head_of b).entries (drop (entries_start (image_head_of b).floors) b) ≡ true
  pub tables : image_tables_ok (image_at (image_head_of b) b) ≡ true

pub tested : (b : List ℕ) → image_ok b ≡ true → Tested b
unfolding image_ok
tested b e =
    let p = facts
    (flag (leb least_image (length b)) ∷ flag (leb (length b) (greatest_of (starts_with b image_magic))) ∷ flag (image_framed b) ∷ flag (image_head_ok (image_head_of b))
    ∷ flag (image_parts (image_head_of b) b)
    ∷ flag (every_row entry_row_ok (entry_width (image_head_of b)) (image_head_of b).entries (drop (entries_start (image_head_of b).floors) b))
    ∷ flag (image_tables_ok (image_at (image_head_of b) b)) ∷ []) e in
    record { least = p 0; most = p 1; framed = p 2; head = p 3; parts = p 4; zero-bytes = p 5; tables = p 6 }

pub tested_most : (b : List ℕ) → Tested b → length b ≤ greatest_image
tested_most b t = omega (arith, leb-true (length b) (greatest_of (starts_with b image_magic)) t.most, greatest-most (starts_with b image_magic))

-- the numbers of the three parts
pub record Placed (h : ImageHead) (b : List ℕ) : Type 0 where
  pub at16 : le32_at b 16 ≡ parts_start
  pub at20 : le32_at b 20 ≡ point_part
  pub at24 : le32_at b 24 ≡ least_image
  pub at28 : le32_at b 28 ≡ floor_row * h.floors
  pub at32 : le32_at b 32 ≡ entries_start h.floors
  pub at36 : le32_at b 36 ≡ entry_width h * h.entries
  pub size : length b ≡ length_by h

pub placed : (h : ImageHead) (b : List ℕ) → image_parts h b ≡ true → Placed h b
unfolding image_parts
placed h b e =
    let p = facts (part_tests h b) e in
    record { at16 = p 0; at20 = p 1; at24 = p 2; at28 = p 3; at32 = p 4; at36 = p 5; size = p 6 }

-- the numbers of rows of an image that was read with a head, and its head again
module _ (h : ImageHead) (s : List ℕ) where
  pub floor-count : length (image_at h s).floors ≡ h.floors
  unfolding image_at
  floor-count = length-rows floor_of_bytes floor_row h.floors (drop least_image s)

  pub entry-count : length (image_at h s).entries ≡ h.entries
  unfolding image_at
  entry-count = length-rows (image_entry_of h.timed) (entry_width h) h.entries (drop (entries_start h.floors) s)

  pub head-same : image_head (image_at h s) ≡ h
  unfolding image_head image_at
  head-same =
      λ j.
      record {
        point = h.point;
        destination = h.destination;
        source = h.source;
        move_number = h.move_number;
        heard = h.heard;
        value = h.value;
        quality = h.quality;
        floors = floor-count j;
        entries = entry-count j;
        timed = h.timed;
      }

module _ (b : List ℕ) (h : Bytes b) (t : Tested b) where
  head-again : image_head_bytes (image_head_of b) ≡ take least_image b
  unfolding image_head_of
  head-again =
      let p = placed (image_head_of b) b t.parts in
      let l : least_image ≤ length b = leb-true least_image (length b) t.least in
      let magics : Bool = starts_with b image_magic || starts_with b first_image_magic in
      let zeros : Bool = joined (tests_of head_fields b 4) in
      let ok : (magics && zeros) ≡ true = sym (head-tests b) ∙ t.framed in
      let same : head_numbers (image_head_of b) ≡ got_all head_fields b 4 =
      λ j. byte_at b 4 ∷ byte_at b 5 ∷ byte_at b 6 ∷ le32_at b 8 ∷ le32_at b 12 ∷ sym p.at16 j ∷ sym p.at20 j ∷ sym p.at24 j ∷ sym p.at28 j
      ∷ sym p.at32 j ∷ sym p.at36 j ∷ signed_at b 40 ∷ byte_at b 44 ∷ [] in
      head-writes (image_head_of b)
      ∙ ap (λ (x : List ℕ). image_magic_of (starts_with b image_magic) ++ put_all head_fields x) same
      ∙ part_join b 0 4 44 (magic-again b h l (starts_with b image_magic) (starts_with b first_image_magic) refl refl (and_left magics zeros ok))
      (all_again head_fields b 4 h l (joined_all (tests_of head_fields b 4) (and_right magics zeros ok)))

  found-same : image_bytes (image_at (image_head_of b) b) ≡ b
  unfolding image_bytes image_at entry_width
  found-same =
      let m : ℕ = (image_head_of b).floors in
      let n : ℕ = (image_head_of b).entries in
      let w : ℕ = entry_width (image_head_of b) in
      let p = placed (image_head_of b) b t.parts in
      part_join b 0 least_image (floor_row * m + w * n) (ap image_head_bytes (head-same (image_head_of b) b) ∙ head-again)
      (part_join b least_image (floor_row * m) (w * n)
      (rows-again floor_codec m (drop least_image b) (bytes_drop least_image b h) (rw length-drop (omega arith)) (every_row-true floor_row m (drop least_image b)))
      (rows-again (entry_codec (image_head_of b).timed) n (drop (entries_start m) b) (bytes_drop (entries_start m) b h) (rw length-drop (omega arith)) t.zero-bytes))
      ∙ take_all (least_image + (floor_row * m + w * n)) b (omega (arith, p.size))

  found-fits : ImageFits (image_at (image_head_of b) b)
  unfolding image_at image_head_of entry_width
  found-fits =
      record {
        point = h 4;
        destination = h 5;
        source = h 6;
        move_number = le32-below b 8 h;
        heard = le32-below b 12 h;
        value = signed_below b 40;
        quality = h 44;
        floors = rows_fit floor_codec (le32_at b 28 / floor_row) (drop least_image b) (bytes_drop least_image b h) (every_row-true floor_row (le32_at b 28 / floor_row) (drop least_image b));
        entries = rows_fit (entry_codec (starts_with b image_magic)) (le32_at b 36 / entry_row_of (starts_with b image_magic)) (drop (entries_start (le32_at b 28 / floor_row)) b)
            (bytes_drop (entries_start (le32_at b 28 / floor_row)) b h) t.zero-bytes;
      }

  found-well : image_well (image_at (image_head_of b) b) ≡ true
  unfolding image_well image_at image_head_of
  found-well =
      let n : length b ≡ image_length (image_at (image_head_of b) b) = ap length (sym found-same) ∙ image-length (image_at (image_head_of b) b) in
      rw (head-same, t.head, ← n, t.most) t.tables

  found-image : IsImage b (image_at (image_head_of b) b)
  found-image = record { ok = found-well; fits = found-fits; same = found-same }

pub image-is : (b : List ℕ) → Bytes b → (i : Image) → parse_image b ≡ some i → IsImage b i
unfolding parse_image
image-is b h i =
    choose (λ o. o ≡ some i → IsImage b i) (image_ok b)
    (λ ok e. let q : image_at (image_head_of b) b ≡ i = cc in subst (IsImage b) q (found-image b h (tested b ok)))
    (λ no e. let z : ◌≡◌ {A = ℕ} 0 1 = cc in absurd (omega arith))

-- the longest image that parses
pub image-most : (b : List ℕ) (i : Image) → parse_image b ≡ some i → length b ≤ greatest_image
unfolding parse_image
image-most b i =
    choose (λ o. o ≡ some i → length b ≤ greatest_image) (image_ok b)
    (λ ok e. tested_most b (tested b ok))
    (λ no e. let z : ◌≡◌ {A = ℕ} 0 1 = cc in absurd (omega arith))
