-- Laws of the log.
--     head-server, head-back, head-take, head_bytes_lem, head-again, head-length     the head
--     executed-at, give-at, release-at; executed-again, give-again, release-again, take_again     records by kind, both ways
--     record-length, record-least, record-bytes     the length of a record's bytes, at least 8; they are bytes
--     record-back, extent_back      a well-formed record that was written is read back, with its extent
--     extent_take, extent_cut       of fewer bytes: an incomplete record
--     within-spans, take-spans      what an extent tells of the length
--     record_is                     a record that is read is well-formed, fits, and is written again: the same bytes
--     walk-back, entries-back       a log that was written is read back
--     entries-take                  the parse of a prefix of the bytes: the entries whose end is at or under the cut
--     cut-entries, cut-server, cut-head     the same in a buffer whose first bytes are a log
--     cut-split, cut-from, cut-end  they are the first ones, follow each other, and end at or under the cut
--     records-from, records-bytes   records one after the other, as entries
--     entries-length, log-length, entries-append, from-append, log_appended     lengths, and one more record
--     walk_is, entries_are, log-again     what is read are entries that follow each other; their bytes are the log's
-- Assumes nothing.
use Prim.Native.Nat.{ℕ, zero, suc, ◌+◌, ◌-◌, ◌≤◌, ◌<◌}
use mathlib.Core.Path.{◌≡◌, refl, sym, ap, ◌∙◌, subst}
use mathlib.Core.Bool.{Bool, true, false, ◌&&◌, ◌||◌, and_assoc}
use mathlib.Core.List.{List, [], ◌∷◌, ◌++◌, append-nil, append_assoc}
use mathlib.Core.Option.{Option, none, some}
use native.Mathlib.Omega.{arith}
use native.Mathlib.Nat.{add-zero}
use lib.ListN.{length, take, drop, length-append, length-take, length-drop, take-append-drop}
use lib.Seq.{take_all, take-take, get_or-take, take_at, drop_at, take-append-add, length-take-le, take-nil}
use lib.Dec.{eqb, leb, ltb, lit<, lit≤}
use borrow.Author.Tests.{eqb-true, eq-eqb, leb-true, le-leb, lt-leb, lt-ltb, le-ltb, ltb-true, ltb-false, leb-false}
use Rattle.model.specs.declared.Executed.{Executed}
use Rattle.model.specs.declared.Give.{Give}
use Rattle.model.specs.declared.Notice.{Notice}
use Rattle.model.specs.declared.Release.{Release}
use Rattle.model.specs.Choice.{pick}
use Rattle.model.specs.Numbers.{byte_at, le32_at, le32, zero_at, zeros3_at, quad, starts_with}
use Rattle.model.specs.Tables.{bytes_of, keep, written}
use Rattle.model.specs.Packets.{time_at, time_bytes, notice_at, notice_ok, notice_bytes}
use Rattle.model.specs.Images.{Image, parse_image, image_bytes, image_length}
use Rattle.model.specs.Logs.{log_magic, head_bytes, head_server, head_ok, LogRecord, executed, gone, gave, took, released, executed_kind_of, executed_size_of, executed_at, executed_ok}
use Rattle.model.specs.Logs.{executed_bytes, give_at, give_ok, give_bytes, take_bytes, release_at, release_ok, release_bytes, record_bytes, record_size, Extent}
use Rattle.model.specs.Logs.{off, cut, spans, within, take_extent, extent_of, take_parsed, executed_parsed, record_at, Entry, entries_bytes}
use Rattle.model.specs.Limits.{last_server, least_image, greatest_image, head_size, take_head}
use Rattle.model.specs.Limits.{first_executed_kind, give_kind, gone_kind, release_kind, take_kind, executed_kind}
use Rattle.model_laws.specs.Bytes.{Bytes, All}
use Rattle.model_laws.specs.Codec.{Codec}
use Rattle.model_laws.specs.Fields.{Field, byte, word32, signed, fixed, Bounded, BoundedAt, Layout, Computes}
use Rattle.model_laws.specs.Fits.{TimeFits, ExecutedFits, GiveFits, ReleaseFits, IsImage, record_fits, record_ok, IsRecord, EntryFrom, EntriesFrom, entries_from, last_end, Incomplete, Walked}
use Rattle.model_laws.specs.OneWalk.{walk, entries_of}
use Rattle.model_laws.proofs.Tests.{and_left, and_right, and_both, choose}
use Rattle.model_laws.proofs.Numbers.{part_join, le32_digits, quad-again, starts-again, le32-is, le32-take}
use Rattle.model_laws.proofs.Numbers.{zeros3_at_lem, bytes_drop, bytes_take, bytes-quad, bytes-le32, bytes_run}
use Rattle.model_laws.proofs.Reflects.{Test, le, flag, facts, passed}
use Rattle.model_laws.proofs.Written.{take-written-run}
use Rattle.model_laws.proofs.Packets.{notice_codec}
use Rattle.model_laws.proofs.Fields.{codec}
use Rattle.model_laws.proofs.Images.{image-length, image-least, image-limit, image-bytes, image-back, image-is}

-- ---- the head

-- the tests of a log's head, one by one
abbrev head_tests : List ℕ → List Test
head_tests s = le head_size (length s) ∷ flag (starts_with s log_magic) ∷ le (byte_at s 4) last_server ∷ flag (zeros3_at s 5) ∷ []

pub head-server : (n : ℕ) (rest : List ℕ) → head_server (head_bytes n ++ rest) ≡ n
unfolding head_server head_bytes
head-server n rest = refl

pub head-back : (n : ℕ) (rest : List ℕ) → n ≤ last_server → head_ok (head_bytes n ++ rest) ≡ true
unfolding head_ok head_bytes head_server zeros3_at
head-back n rest h = passed (head_tests (head_bytes n ++ rest)) (omega arith) refl h refl

pub head-take : (n : ℕ) (t : List ℕ) (c : ℕ) → head_size ≤ c → take c (head_bytes n ++ t) ≡ head_bytes n ++ take (c - head_size) t
unfolding head_bytes
head-take n t c h =
    let e : head_size + (c - head_size) ≡ c = omega arith in
    ap (λ (x : ℕ). take x (head_bytes n ++ t)) (sym e) ∙ take-append-add (head_bytes n) t (c - head_size)

pub head_bytes_lem : (n : ℕ) → n < 256 → Bytes (head_bytes n)
unfolding head_bytes
head_bytes_lem n h =
    bytes_run (log_magic ∷ quad n 0 0 0 ∷ []) (
      bytes-quad (byte_at log_magic 0) (byte_at log_magic 1) (byte_at log_magic 2) (byte_at log_magic 3) (lit< tt) (lit< tt) (lit< tt) (lit< tt),
      (bytes-quad n 0 0 0 h (lit< tt) (lit< tt) (lit< tt), tt),
    )

pub head-again : (s : List ℕ) → head_ok s ≡ true → head_bytes (head_server s) ≡ take head_size s
unfolding head_ok head_bytes head_server
head-again s e =
    let p = facts (head_tests s) e in
    let z = zeros3_at_lem s 5 (p 3) in
    part_join s 0 4 4 (starts-again s log_magic (omega (arith, p 0)) (p 1)) (quad-again s 4 (omega (arith, p 0)) refl (sym z.0) (sym z.1) (sym z.2))

pub head-length : (s : List ℕ) → head_ok s ≡ true → head_size ≤ length s
unfolding head_ok head_server
head-length s e = facts (head_tests s) e 0

-- ---- the records' layouts; log record 2 is a notice's

-- an executed record in a form
abbrev pub formed : Bool → Executed → Executed
formed timed x = record { command = x.command; done = x.done; result = x.result; timed = timed }

pub formed-own : (timed : Bool) (x : Executed) → x.timed ≡ timed → formed timed x ≡ x
formed-own timed x e = λ i. record { command = x.command; done = x.done; result = x.result; timed = sym e i }

-- the fields by form; the time is the last one
abbrev executed_fields : Bool → List Field
executed_fields timed =
    fixed (pick timed executed_kind first_executed_kind)
    ∷ byte ∷ byte ∷ byte ∷ word32 ∷ word32 ∷ word32 ∷ signed ∷ signed ∷ byte ∷ fixed 0 ∷ fixed 0 ∷ fixed 0 ∷ pick timed (word32 ∷ []) []

pub time-fits : (timed : Bool) (t : ℕ) → TimeFits timed t → Bounded (pick timed (word32 ∷ []) []) (t ∷ [])
time-fits true t h = (h, tt)
time-fits false t h = (h, tt)

pub time-fitted : (timed : Bool) (t : ℕ) → BoundedAt (pick timed (word32 ∷ []) []) 0 t → TimeFits timed t
time-fitted true t h = h
time-fitted false t h = h

abbrev executed_layout : Bool → Layout Executed
executed_layout timed =
    record {
      fields = executed_fields timed;
      to =
          λ v.
          record {
            command = record { client = v 3; call = v 4; op = v 0; point = v 1; argument = v 6 };
            done = v 5;
            result = record { outcome = v 2; value = v 7; quality = v 8; time = v 9 };
            timed = timed;
          };
      from =
          λ a.
          a.command.op
          ∷ a.command.point
          ∷ a.result.outcome
          ∷ a.command.client
          ∷ a.command.call
          ∷ a.done
          ∷ a.command.argument
          ∷ a.result.value
          ∷ a.result.quality
          ∷ a.result.time
          ∷ [];
      Fit = λ a. ExecutedFits a × (a.timed ≡ timed);
      fits =
          λ a f.
          let h = f.0 in
          let t : TimeFits timed a.result.time = subst (λ (b : Bool). TimeFits b a.result.time) f.1 h.time in
          (h.op, (h.point, (h.outcome, (h.client, (h.call, (h.done, (h.argument, (h.value, (h.quality, time-fits timed a.result.time t)))))))));
      fitted =
          λ v p. (
            record {
              op = p 0;
              point = p 1;
              outcome = p 2;
              client = p 3;
              call = p 4;
              done = p 5;
              argument = p 6;
              value = p 7;
              quality = p 8;
              time = time-fitted timed (v 9) (p 9);
            },
            refl,
          );
    }

pub executed_computes : (timed : Bool) → Computes (executed_layout timed) (executed_at timed) (λ x. executed_bytes (formed timed x)) (λ s. eqb (byte_at s 0) (executed_kind_of timed) && zeros3_at s 25)
unfolding executed_at executed_bytes executed_kind_of time_at time_bytes zeros3_at
executed_computes true =
    record { reads = λ s. refl; writes = λ a. refl; tests = λ s. refl; plain = refl; back = λ a h. formed-own true a h.1; forth = λ s. refl }
executed_computes false =
    record { reads = λ s. refl; writes = λ a. refl; tests = λ s. refl; plain = refl; back = λ a h. formed-own false a h.1; forth = λ s. refl }

abbrev pub executed_codec : Bool → Codec Executed
executed_codec timed = codec (executed_computes timed)

abbrev give_layout : Layout Give
give_layout =
    record {
      fields = fixed give_kind ∷ byte ∷ byte ∷ fixed 0 ∷ word32 ∷ [];
      to = λ v. record { point = v 0; destination = v 1; move_number = v 2 };
      from = λ a. a.point ∷ a.destination ∷ a.move_number ∷ [];
      Fit = GiveFits;
      fits = λ a h. (h.point, (h.destination, (h.move_number, tt)));
      fitted = λ v p. record { point = p 0; destination = p 1; move_number = p 2 };
    }

pub give_computes : Computes give_layout give_at give_bytes (λ s. eqb (byte_at s 0) give_kind && zero_at s 3)
unfolding give_at give_bytes
give_computes = record { reads = λ s. refl; writes = λ a. refl; tests = λ s. refl; plain = refl; back = λ a h. refl; forth = λ s. refl }

abbrev pub give_codec : Codec Give
give_codec = codec give_computes

abbrev release_layout : Layout Release
release_layout =
    record {
      fields = fixed release_kind ∷ byte ∷ fixed 0 ∷ fixed 0 ∷ word32 ∷ [];
      to = λ v. record { point = v 0; move_number = v 1 };
      from = λ a. a.point ∷ a.move_number ∷ [];
      Fit = ReleaseFits;
      fits = λ a h. (h.point, (h.move_number, tt));
      fitted = λ v p. record { point = p 0; move_number = p 1 };
    }

pub release_computes : Computes release_layout release_at release_bytes (λ s. eqb (byte_at s 0) release_kind && (zero_at s 2 && zero_at s 3))
unfolding release_at release_bytes
release_computes = record { reads = λ s. refl; writes = λ a. refl; tests = λ s. refl; plain = refl; back = λ a h. refl; forth = λ s. refl }

abbrev pub release_codec : Codec Release
release_codec = codec release_computes

abbrev gone_codec : Codec Notice
gone_codec = notice_codec gone_kind refl

-- ---- records: what was written is read back

executed-length : (timed : Bool) (x : Executed) → length (executed_bytes (formed timed x)) ≡ executed_size_of timed
unfolding executed_bytes executed_size_of time_bytes
executed-length true x = refl
executed-length false x = refl

pub record-length : (r : LogRecord) → length (record_bytes r) ≡ record_size r
unfolding record_bytes record_size notice_bytes give_bytes take_bytes release_bytes
record-length (executed x) = executed-length x.timed x
record-length (gone n) = refl
record-length (gave g) = refl
record-length (took i) = omega (arith, image-length i)
record-length (released r) = refl

executed-least : (timed : Bool) → head_size ≤ executed_size_of timed
unfolding executed_size_of
executed-least true = lit≤ tt
executed-least false = lit≤ tt

pub record-least : (r : LogRecord) → head_size ≤ record_size r
unfolding record_size
record-least (executed x) = executed-least x.timed
record-least (gone n) = lit≤ tt
record-least (gave g) = lit≤ tt
record-least (took i) = omega arith
record-least (released r) = lit≤ tt

pub record-bytes : (r : LogRecord) → record_ok r ≡ true → record_fits r → Bytes (record_bytes r)
unfolding record_bytes take_bytes
record-bytes (executed x) ok f = (executed_codec x.timed).enc-bytes x (f, refl)
record-bytes (gone n) ok f = gone_codec.enc-bytes n f
record-bytes (gave g) ok f = give_codec.enc-bytes g f
record-bytes (took i) ok f =
    bytes_run (quad take_kind 0 0 0 ∷ le32 (image_length i) ∷ image_bytes i ∷ [])
    (bytes-quad take_kind 0 0 0 (lit< tt) (lit< tt) (lit< tt) (lit< tt), (bytes-le32 (image_length i) (omega (arith, image-limit i ok)), (image-bytes i ok f, tt)))
record-bytes (released r) ok f = release_codec.enc-bytes r f

take-length : (i : Image) (rest : List ℕ) → le32_at (take_bytes i ++ rest) 4 ≡ image_length i
unfolding take_bytes le32_at
take-length i rest = le32_digits (image_length i)

executed-back : (timed : Bool) (x : Executed) (rest : List ℕ) → executed_ok x ≡ true → ExecutedFits x → x.timed ≡ timed
    → record_at (executed_bytes (formed timed x) ++ rest) ≡ some (executed x)
unfolding record_at executed_parsed executed_bytes executed_kind_of zeros3_at
executed-back true x rest ok f e = rw ((executed_codec true).dec-enc x rest (f, e), ok)
executed-back false x rest ok f e = rw ((executed_codec false).dec-enc x rest (f, e), ok)

pub record-back : (r : LogRecord) (rest : List ℕ) → record_ok r ≡ true → record_fits r → record_at (record_bytes r ++ rest) ≡ some r
unfolding record_at record_bytes notice_bytes give_bytes take_bytes release_bytes zeros3_at take_parsed
record-back (executed x) rest ok f = executed-back x.timed x rest ok f refl
record-back (gone n) rest ok f = rw (gone_codec.dec-enc n rest f, ok)
record-back (gave g) rest ok f = rw (give_codec.dec-enc g rest f, ok)
record-back (took i) rest ok f = rw (take-length i rest, take_at (image_bytes i) rest (image_length i) (image-length i), image-back i f ok)
record-back (released r) rest ok f = rw (release_codec.dec-enc r rest f, ok)

-- ---- extents

pub within-whole : (s : List ℕ) (n : ℕ) → n ≤ length s → within s n ≡ spans n
unfolding within
within-whole s n h = rw (le-ltb (length s) n h)

pub within-cut : (s : List ℕ) (n : ℕ) → length s < n → within s n ≡ cut
unfolding within
within-cut s n h = rw (lt-ltb (length s) n h)

take_within : (s : List ℕ) (n : ℕ) → least_image ≤ n → n ≤ greatest_image → (take_head ≤ length s → le32_at s 4 ≡ n) → take_extent s ≡ within s (take_head + n)
unfolding take_extent
take_within s n l g f = step (ltb (length s) take_head) refl
  where
    step : (b : Bool) → ltb (length s) take_head ≡ b
        → pick b cut (pick (ltb (le32_at s 4) least_image || ltb greatest_image (le32_at s 4)) off (within s (take_head + le32_at s 4))) ≡ within s (take_head + n)
    step true e = sym (within-cut s (take_head + n) (omega (arith, ltb-true (length s) take_head e)))
    step false e = rw (f (ltb-false (length s) take_head e), le-ltb n least_image l, le-ltb greatest_image n g)

executed-take : (timed : Bool) (x : Executed) (rest : List ℕ) (j : ℕ) → 1 ≤ j
    → extent_of (take j (executed_bytes (formed timed x) ++ rest)) ≡ within (take j (executed_bytes (formed timed x) ++ rest)) (executed_size_of timed)
unfolding extent_of executed_size_of
executed-take true x rest j h =
    let s : List ℕ = executed_bytes (formed true x) ++ rest in
    let k : byte_at (take j s) 0 ≡ executed_kind = get_or-take j s 0 0 h ∙ unfold executed_bytes executed_kind_of in refl in
    rw k
executed-take false x rest j h =
    let s : List ℕ = executed_bytes (formed false x) ++ rest in
    let k : byte_at (take j s) 0 ≡ first_executed_kind = get_or-take j s 0 0 h ∙ unfold executed_bytes executed_kind_of in refl in
    rw k

-- the extent of the first j bytes of what begins with a record: its size, or cut where they are fewer
pub extent_take : (r : LogRecord) (rest : List ℕ) (j : ℕ) → record_ok r ≡ true → 1 ≤ j
    → extent_of (take j (record_bytes r ++ rest)) ≡ within (take j (record_bytes r ++ rest)) (record_size r)
unfolding record_bytes record_size extent_of
extent_take (executed x) rest j ok h = executed-take x.timed x rest j h
extent_take (gone n) rest j ok h =
    let k : byte_at (take j (notice_bytes gone_kind n ++ rest)) 0 ≡ gone_kind = get_or-take j (notice_bytes gone_kind n ++ rest) 0 0 h ∙ unfold notice_bytes in refl in
    rw k
extent_take (gave g) rest j ok h =
    let k : byte_at (take j (give_bytes g ++ rest)) 0 ≡ 3 = get_or-take j (give_bytes g ++ rest) 0 0 h ∙ unfold give_bytes in refl in
    rw k
extent_take (took i) rest j ok h =
    let s : List ℕ = take_bytes i ++ rest in
    let k : byte_at (take j s) 0 ≡ 4 = get_or-take j s 0 0 h ∙ unfold take_bytes in refl in
    rw k
    (take_within (take j s) (image_length i) (image-least i) (image-limit i ok)
    (λ l. le32-take j s 4 (omega (arith, length-take j s)) ∙ take-length i rest))
extent_take (released r) rest j ok h =
    let k : byte_at (take j (release_bytes r ++ rest)) 0 ≡ 5 = get_or-take j (release_bytes r ++ rest) 0 0 h ∙ unfold release_bytes in refl in
    rw k

-- a whole record, and a cut one
pub extent_back : (r : LogRecord) (rest : List ℕ) → record_ok r ≡ true → extent_of (record_bytes r ++ rest) ≡ spans (record_size r)
extent_back r rest ok =
    let s : List ℕ = record_bytes r ++ rest in
    let n : length s ≡ record_size r + length rest = length-append (record_bytes r) rest ∙ ap (λ (x : ℕ). x + length rest) (record-length r) in
    let l : 1 ≤ length s = omega (arith, record-least r) in
    let t : take (length s) s ≡ s = take_all (length s) s (omega arith) in
    ap extent_of (sym t) ∙ extent_take r rest (length s) ok l ∙ ap (λ (x : List ℕ). within x (record_size r)) t ∙ within-whole s (record_size r) (omega arith)

incomplete : (s : List ℕ) → extent_of s ≡ cut → Incomplete s
incomplete [] e = tt
incomplete (b ∷ s) e = e

pub extent_cut : (r : LogRecord) (rest : List ℕ) (j : ℕ) → record_ok r ≡ true → j < record_size r → Incomplete (take j (record_bytes r ++ rest))
extent_cut r rest zero ok h = tt
extent_cut r rest (suc j) ok h =
    incomplete (take (suc j) (record_bytes r ++ rest))
    (extent_take r rest (suc j) ok (omega arith) ∙ within-cut (take (suc j) (record_bytes r ++ rest)) (record_size r) (omega (arith, length-take (suc j) (record_bytes r ++ rest))))

-- ---- records: what was read is written again

pub take_again : (s : List ℕ) (i : Image) → Bytes s → take_head + le32_at s 4 ≤ length s → byte_at s 0 ≡ take_kind → zeros3_at s 1 ≡ true
    → image_bytes i ≡ take (le32_at s 4) (drop take_head s) → take_bytes i ≡ take (take_head + le32_at s 4) s
unfolding take_bytes
take_again s i h b k z e =
    let o = zeros3_at_lem s 1 z in
    let n : image_length i ≡ le32_at s 4 = sym (image-length i) ∙ ap length e ∙ length-take-le (le32_at s 4) (drop take_head s) (rw length-drop (omega arith)) in
    part_join s 0 take_head (le32_at s 4)
    (part_join s 0 4 4 (quad-again s 0 (omega arith) (sym k) (sym o.0) (sym o.1) (sym o.2)) (le32-is s 4 h (omega arith) n)) e

-- what an extent tells
pub within-spans : (s : List ℕ) (n m : ℕ) → within s n ≡ spans m → (m ≡ n) × (n ≤ length s)
unfolding within
within-spans s n m = choose (λ x. x ≡ spans m → (m ≡ n) × (n ≤ length s)) (ltb (length s) n)
    (λ t e. let z : ◌≡◌ {A = ℕ} 0 1 = cc in absurd (omega arith))
    (λ t e. let q : m ≡ n = cc in (q, ltb-false (length s) n t))

pub take-spans : (s : List ℕ) (m : ℕ) → take_extent s ≡ spans m → (m ≡ take_head + le32_at s 4) × (take_head + le32_at s 4 ≤ length s)
unfolding take_extent
take-spans s m =
    choose (λ x. x ≡ spans m → (m ≡ take_head + le32_at s 4) × (take_head + le32_at s 4 ≤ length s)) (ltb (length s) take_head)
    (λ t e. let z : ◌≡◌ {A = ℕ} 0 1 = cc in absurd (omega arith))
    (λ t. choose (λ x. x ≡ spans m → (m ≡ take_head + le32_at s 4) × (take_head + le32_at s 4 ≤ length s)) (ltb (le32_at s 4) least_image || ltb greatest_image (le32_at s 4))
    (λ u e. let z : ◌≡◌ {A = ℕ} 0 1 = cc in absurd (omega arith))
    (λ u. within-spans s (take_head + le32_at s 4) m))

module _ (s : List ℕ) (h : Bytes s) (m : ℕ) (ext : extent_of s ≡ spans m) (r : LogRecord) where
  found : (t : Bool) (x : LogRecord) → (t ≡ true → IsRecord s m x) → pick t (some x) none ≡ some r → IsRecord s m r
  found t x f =
      choose (λ o. o ≡ some r → IsRecord s m r) t (λ u e. let q : x ≡ r = cc in subst (IsRecord s m) q (f u))
      (λ u e. let z : ◌≡◌ {A = ℕ} 0 1 = cc in absurd (omega arith))

  -- of one kind, whose zero bytes pass their test
  found-kind : {A : Type 0} (C : Codec A) (p : A → LogRecord) (zeros : Bool) (ok : A → Bool) → within s C.width ≡ spans m → (zeros ≡ true → C.test s ≡ true)
      → ((a : A) → ok a ≡ true → C.Fit a → m ≡ C.width → m ≤ length s → C.enc a ≡ take m s → IsRecord s m (p a)) → (zeros && ok (C.dec s)) ≡ true → IsRecord s m (p (C.dec s))
  found-kind C p zeros ok w z f t =
      let n : (m ≡ C.width) × (C.width ≤ length s) = within-spans s C.width m w in
      let c : C.test s ≡ true = z (and_left zeros (ok (C.dec s)) t) in
      f (C.dec s) (and_right zeros (ok (C.dec s)) t) (C.dec-fit s h c) n.0 (omega (arith, n)) (C.enc-dec s h n.1 c ∙ ap (λ (k : ℕ). take k s) (sym n.0))

  -- in a form, by its width
  executed-is : (timed : Bool) (a : Executed) → executed_ok a ≡ true → ExecutedFits a × (a.timed ≡ timed) → m ≡ executed_size_of timed → m ≤ length s
      → executed_bytes (formed timed a) ≡ take m s → IsRecord s m (executed a)
  unfolding record_bytes record_size
  executed-is timed a o f n l e =
      record { ok = o; fits = f.0; size = rw f.1 n; whole = l; same = ap executed_bytes (sym (formed-own timed a f.1)) ∙ e }

  found-executed : (timed : Bool) → byte_at s 0 ≡ executed_kind_of timed → (zeros3_at s 25 && executed_ok (executed_at timed s)) ≡ true → IsRecord s m (executed (executed_at timed s))
  unfolding extent_of executed_kind_of executed_size_of
  found-executed true k =
      found-kind (executed_codec true) executed (zeros3_at s 25) executed_ok (rw k at ext) (and_both (eqb (byte_at s 0) executed_kind) (zeros3_at s 25) (eq-eqb (byte_at s 0) executed_kind k))
      (executed-is true)
  found-executed false k =
      found-kind (executed_codec false) executed (zeros3_at s 25) executed_ok (rw k at ext)
      (and_both (eqb (byte_at s 0) first_executed_kind) (zeros3_at s 25) (eq-eqb (byte_at s 0) first_executed_kind k))
      (executed-is false)

  found_form : (timed : Bool) → byte_at s 0 ≡ executed_kind_of timed → executed_parsed timed s ≡ some r → IsRecord s m r
  unfolding executed_parsed
  found_form timed k = found (zeros3_at s 25 && executed_ok (executed_at timed s)) (executed (executed_at timed s)) (found-executed timed k)

  found-gone : byte_at s 0 ≡ gone_kind → (zeros3_at s 1 && notice_ok (notice_at s)) ≡ true → IsRecord s m (gone (notice_at s))
  unfolding record_bytes record_size extent_of
  found-gone k =
      found-kind gone_codec gone (zeros3_at s 1) notice_ok (rw k at ext) (and_both (eqb (byte_at s 0) gone_kind) (zeros3_at s 1) (eq-eqb (byte_at s 0) gone_kind k))
      (λ a o f n l e. record { ok = o; fits = f; size = n; whole = l; same = e })

  found-gave : byte_at s 0 ≡ give_kind → (zero_at s 3 && give_ok (give_at s)) ≡ true → IsRecord s m (gave (give_at s))
  unfolding record_bytes record_size extent_of
  found-gave k =
      found-kind give_codec gave (zero_at s 3) give_ok (rw k at ext) (and_both (eqb (byte_at s 0) give_kind) (zero_at s 3) (eq-eqb (byte_at s 0) give_kind k))
      (λ a o f n l e. record { ok = o; fits = f; size = n; whole = l; same = e })

  found-released : byte_at s 0 ≡ release_kind → ((zero_at s 2 && zero_at s 3) && release_ok (release_at s)) ≡ true → IsRecord s m (released (release_at s))
  unfolding record_bytes record_size extent_of
  found-released k =
      found-kind release_codec released (zero_at s 2 && zero_at s 3) release_ok (rw k at ext)
      (and_both (eqb (byte_at s 0) release_kind) (zero_at s 2 && zero_at s 3) (eq-eqb (byte_at s 0) release_kind k))
      (λ a o f n l e. record { ok = o; fits = f; size = n; whole = l; same = e })

  found-took : byte_at s 0 ≡ take_kind → zeros3_at s 1 ≡ true → (i : Image) → parse_image (take (le32_at s 4) (drop take_head s)) ≡ some i → IsRecord s m (took i)
  unfolding record_bytes record_size extent_of
  found-took k t i e =
      let w : (m ≡ take_head + le32_at s 4) × (take_head + le32_at s 4 ≤ length s) = take-spans s m (rw k at ext) in
      let g : IsImage (take (le32_at s 4) (drop take_head s)) i =
      image-is (take (le32_at s 4) (drop take_head s)) (bytes_take (le32_at s 4) (drop take_head s) (bytes_drop take_head s h)) i e in
      let n : image_length i ≡ le32_at s 4 =
      sym (image-length i) ∙ ap length g.same ∙ length-take-le (le32_at s 4) (drop take_head s) (rw length-drop (omega arith)) in
      record {
        ok = g.ok;
        fits = g.fits;
        size = omega arith;
        whole = omega arith;
        same = take_again s i h w.1 k t g.same ∙ ap (λ (n : ℕ). take n s) (sym w.0);
      }

  found-image : byte_at s 0 ≡ take_kind → zeros3_at s 1 ≡ true → (o : Option Image) → parse_image (take (le32_at s 4) (drop take_head s)) ≡ o → take_parsed o ≡ some r → IsRecord s m r
  unfolding take_parsed
  found-image k t none p e = let z : ◌≡◌ {A = ℕ} 0 1 = cc in absurd (omega arith)
  found-image k t (some i) p e = let q : took i ≡ r = cc in subst (IsRecord s m) q (found-took k t i p)

  pub record_is : record_at s ≡ some r → IsRecord s m r
  unfolding record_at executed_kind_of
  record_is =
      let P : Option LogRecord → Type 0 = λ o. o ≡ some r → IsRecord s m r in
      choose P (eqb (byte_at s 0) first_executed_kind) (λ k. found_form false (eqb-true (byte_at s 0) first_executed_kind k))
      (λ k1. choose P (eqb (byte_at s 0) gone_kind)
      (λ k. found (zeros3_at s 1 && notice_ok (notice_at s)) (gone (notice_at s)) (found-gone (eqb-true (byte_at s 0) gone_kind k)))
      (λ k2. choose P (eqb (byte_at s 0) give_kind)
      (λ k. found (zero_at s 3 && give_ok (give_at s)) (gave (give_at s)) (found-gave (eqb-true (byte_at s 0) give_kind k)))
      (λ k3. choose P (eqb (byte_at s 0) take_kind)
      (λ k. choose P (zeros3_at s 1) (λ t. found-image (eqb-true (byte_at s 0) take_kind k) t (parse_image (take (le32_at s 4) (drop take_head s))) refl)
      (λ t e. let z : ◌≡◌ {A = ℕ} 0 1 = cc in absurd (omega arith)))
      (λ k4. choose P (eqb (byte_at s 0) release_kind)
      (λ k. found (zero_at s 2 && (zero_at s 3 && release_ok (release_at s))) (released (release_at s))
      (λ t. found-released (eqb-true (byte_at s 0) release_kind k) (and_assoc (zero_at s 2) (zero_at s 3) (release_ok (release_at s)) ∙ t)))
      (λ k5. choose P (eqb (byte_at s 0) executed_kind) (λ k. found_form true (eqb-true (byte_at s 0) executed_kind k))
      (λ k6 e. let z : ◌≡◌ {A = ℕ} 0 1 = cc in absurd (omega arith)))))))

-- ---- the walk over entries that were written

-- one step of the walk, by what it meets
unfoldable pub step_walk : ℕ → LogRecord → Option (List Entry) → Option (List Entry)
step_walk end r w = elim w [ none ↦ none | some es ↦ some (record { item = r; end = end } ∷ es) ]

unfoldable pub step_record : ℕ → Option LogRecord → Option (List Entry) → Option (List Entry)
step_record end o w = elim o [ none ↦ none | some r ↦ step_walk end r w ]

unfoldable pub step_extent : ℕ → ℕ → List ℕ → Extent → Option (List Entry)
step_extent n k s x = elim x [ off ↦ none | cut ↦ some [] | spans m ↦ step_record (k + m) (record_at s) (walk n (k + m) (drop m s)) ]

pub walk-cons : (n k b : ℕ) (s : List ℕ) → walk (suc n) k (b ∷ s) ≡ step_extent n k (b ∷ s) (extent_of (b ∷ s))
unfolding walk step_extent step_record step_walk
walk-cons n k b s = refl

walk_step : (n k : ℕ) (s : List ℕ) (m : ℕ) (r : LogRecord) (es : List Entry) → extent_of s ≡ spans m → record_at s ≡ some r → 1 ≤ length s
    → walk n (k + m) (drop m s) ≡ some es → walk (suc n) k s ≡ some (record { item = r; end = k + m } ∷ es)
unfolding step_extent step_record step_walk
walk_step n k [] m r es p q l e = absurd (omega arith)
walk_step n k (b ∷ s) m r es p q l e =
    walk-cons n k b s
    ∙ ap (λ (x : Extent). step_extent n k (b ∷ s) x) p
    ∙ ap (λ (o : Option LogRecord). step_record (k + m) o (walk n (k + m) (drop m (b ∷ s)))) q
    ∙ ap (λ (w : Option (List Entry)). step_walk (k + m) r w) e

walk-incomplete : (n k : ℕ) (s : List ℕ) → Incomplete s → walk n k s ≡ some []
unfolding walk step_extent
walk-incomplete zero k s i = refl
walk-incomplete (suc n) k [] i = refl
walk-incomplete (suc n) k (b ∷ s) i = walk-cons n k b s ∙ ap (λ (x : Extent). step_extent n k (b ∷ s) x) i

-- one entry at the front
walk-entry : (n k : ℕ) (e : Entry) (es : List Entry) (rest : List ℕ) → EntryFrom k e → walk n e.end rest ≡ some es
    → walk (suc n) k (record_bytes e.item ++ rest) ≡ some (e ∷ es)
walk-entry n k e es rest f w =
    let r : LogRecord = e.item in
    let m : ℕ = record_size r in
    let d : drop m (record_bytes r ++ rest) ≡ rest = drop_at (record_bytes r) rest m (record-length r) in
    let l : 1 ≤ length (record_bytes r ++ rest) = omega (arith, length-append (record_bytes r) rest, record-length r, record-least r) in
    let t : walk n (k + m) (drop m (record_bytes r ++ rest)) ≡ some es = rw (d, ← f.end) w in
    let same : record { item = r; end = k + m } ≡ e = λ i. record { item = r; end = sym f.end i } in
    walk_step n k (record_bytes r ++ rest) m r es (extent_back r rest f.ok) (record-back r rest f.ok f.fits) l t
    ∙ ap (λ (x : Entry). some (x ∷ es)) same

pub walk-back : (es : List Entry) (n k : ℕ) (rest : List ℕ) → EntriesFrom k es → Incomplete rest → length (entries_bytes es ++ rest) ≤ n
    → walk n k (entries_bytes es ++ rest) ≡ some es
unfolding entries_bytes
walk-back [] n k rest f i h = walk-incomplete n k rest i
walk-back (e ∷ es) zero k rest f i h =
    absurd (omega (arith, length-append (record_bytes e.item ++ entries_bytes es) rest, length-append (record_bytes e.item) (entries_bytes es), record-length e.item, record-least e.item))
walk-back (e ∷ es) (suc n) k rest f i h =
    rw append_assoc
    (walk-entry n k e es (entries_bytes es ++ rest) f.0
    (walk-back es n e.end rest f.1 i
    (omega (
      arith,
      ap length (append_assoc (record_bytes e.item) (entries_bytes es) rest),
      length-append (record_bytes e.item) (entries_bytes es ++ rest),
      record-length e.item,
      record-least e.item,
    ))))

-- ends past a place
keep-past : (c k : ℕ) (es : List Entry) → c < k → EntriesFrom k es → keep (λ e. leb e.end c) es ≡ []
unfolding keep
keep-past c k [] h f = refl
keep-past c k (e ∷ es) h f = rw (lt-leb e.end c (omega (arith, f.0.end))) (keep-past c e.end es (omega (arith, f.0.end)) f.1)

take-entry : (r : LogRecord) (t : List ℕ) (j : ℕ) → record_size r ≤ j → take j (record_bytes r ++ t) ≡ record_bytes r ++ take (j - record_size r) t
take-entry r t j h =
    let e : j ≡ length (record_bytes r) + (j - record_size r) = omega (arith, record-length r) in
    ap (λ (n : ℕ). take n (record_bytes r ++ t)) e ∙ take-append-add (record_bytes r) t (j - record_size r)

-- ---- the walk over a prefix

walk-take : (es : List Entry) (n k j : ℕ) → EntriesFrom k es → length (take j (entries_bytes es)) ≤ n
    → walk n k (take j (entries_bytes es)) ≡ some (keep (λ e. leb e.end (k + j)) es)
unfolding entries_bytes keep
walk-take [] n k j f h = rw take-nil (walk-incomplete n k [] tt)
walk-take (e ∷ es) n k j f h = step n h (ltb j (record_size e.item)) refl (λ m g. walk-take es m e.end (j - record_size e.item) f.1 g)
  where
    r : LogRecord
    r = e.item

    step : (n : ℕ) → length (take j (record_bytes r ++ entries_bytes es)) ≤ n → (b : Bool) → ltb j (record_size r) ≡ b
        → ((m : ℕ) → length (take (j - record_size r) (entries_bytes es)) ≤ m
        → walk m e.end (take (j - record_size r) (entries_bytes es)) ≡ some (keep (λ q. leb q.end (e.end + (j - record_size r))) es))
        → walk n k (take j (record_bytes r ++ entries_bytes es)) ≡ some (pick (leb e.end (k + j)) (e ∷ keep (λ q. leb q.end (k + j)) es) (keep (λ q. leb q.end (k + j)) es))
    step n h true b ih =
        let l : j < record_size r = ltb-true j (record_size r) b in
        walk-incomplete n k (take j (record_bytes r ++ entries_bytes es)) (extent_cut r (entries_bytes es) j f.0.ok l)
        ∙ sym (rw (lt-leb e.end (k + j) (omega (arith, f.0.end)), keep-past (k + j) e.end es (omega (arith, f.0.end)) f.1))
    step zero h false b ih =
        let l : record_size r ≤ j = ltb-false j (record_size r) b in
        absurd (omega (arith, ap length (take-entry r (entries_bytes es) j l), length-append (record_bytes r) (take (j - record_size r) (entries_bytes es)), record-length r, record-least r))
    step (suc n) h false b ih =
        let l : record_size r ≤ j = ltb-false j (record_size r) b in
        let t : List ℕ = take (j - record_size r) (entries_bytes es) in
        let c : e.end + (j - record_size r) ≡ k + j = omega (arith, f.0.end) in
        let g : length t ≤ n = omega (arith, ap length (take-entry r (entries_bytes es) j l), length-append (record_bytes r) t, record-length r, record-least r) in
        ap (λ (x : List ℕ). walk (suc n) k x) (take-entry r (entries_bytes es) j l)
        ∙ walk-entry n k e (keep (λ q. leb q.end (k + j)) es) t f.0 (ih n g ∙ ap (λ (x : ℕ). some (keep (λ q. leb q.end x) es)) c)
        ∙ sym (rw (le-leb e.end (k + j) (omega (arith, f.0.end))))

-- ---- logs

pub entries-length : (k : ℕ) (es : List Entry) → EntriesFrom k es → k + length (entries_bytes es) ≡ last_end k es
unfolding entries_bytes last_end
entries-length k [] f = add-zero k
entries-length k (e ∷ es) f =
    omega (arith, f.0.end, length-append (record_bytes e.item) (entries_bytes es), record-length e.item, entries-length e.end es f.1)

pub log-length : (n : ℕ) (es : List Entry) → EntriesFrom head_size es → length (head_bytes n ++ entries_bytes es) ≡ last_end head_size es
unfolding head_bytes
log-length n es f = omega (arith, entries-length head_size es f)

pub entries-append : (es fs : List Entry) → entries_bytes (es ++ fs) ≡ entries_bytes es ++ entries_bytes fs
unfolding entries_bytes
entries-append [] fs = refl
entries-append (e ∷ es) fs = rw (entries-append es fs, append_assoc)

pub from-append : (k : ℕ) (es fs : List Entry) → EntriesFrom k es → EntriesFrom (last_end k es) fs → EntriesFrom k (es ++ fs)
unfolding last_end
from-append k [] fs f g = g
from-append k (e ∷ es) fs f g = (f.0, from-append e.end es fs f.1 g)

-- records as entries
pub records-from : (k : ℕ) (rs : List LogRecord) → All (λ r. (record_ok r ≡ true) × record_fits r) rs → EntriesFrom k (entries_from k rs)
unfolding entries_from
records-from k [] f = tt
records-from k (r ∷ rs) f = (record { ok = f.0.0; fits = f.0.1; end = refl }, records-from (k + record_size r) rs f.1)

pub records-bytes : (k : ℕ) (rs : List LogRecord) → entries_bytes (entries_from k rs) ≡ bytes_of record_bytes rs
unfolding entries_from entries_bytes bytes_of
records-bytes k [] = refl
records-bytes k (r ∷ rs) = ap (λ (x : List ℕ). record_bytes r ++ x) (records-bytes (k + record_size r) rs)

-- a log that was written is read back, with an incomplete record behind it or none
pub entries-back : (n : ℕ) (es : List Entry) (rest : List ℕ) → EntriesFrom head_size es → Incomplete rest
    → entries_of (head_bytes n ++ (entries_bytes es ++ rest)) ≡ some es
unfolding entries_of head_bytes
entries-back n es rest f i = walk-back es (length (head_bytes n ++ (entries_bytes es ++ rest))) head_size rest f i (omega arith)

-- the parse of a prefix of the bytes is a prefix of the entries: those whose end is at or under the cut
pub entries-take : (n : ℕ) (es : List Entry) (c : ℕ) → EntriesFrom head_size es → head_size ≤ c
    → entries_of (take c (head_bytes n ++ entries_bytes es)) ≡ some (keep (λ e. leb e.end c) es)
unfolding entries_of head_bytes
entries-take n es c f h =
    let j : ℕ = c - head_size in
    let e : head_size + j ≡ c = omega arith in
    ap entries_of (head-take n (entries_bytes es) c h)
    ∙ walk-take es (length (head_bytes n ++ take j (entries_bytes es))) head_size j f (omega arith)
    ∙ ap (λ (x : ℕ). some (keep (λ q. leb q.end x) es)) e

-- the same in a buffer whose first bytes are a log: cut at c, from its head's end to the last entry's
module _ (log : List ℕ) (n : ℕ) (es : List Entry) (f : EntriesFrom head_size es) (e : take (last_end head_size es) log ≡ head_bytes n ++ entries_bytes es)
    (c : ℕ) (low : head_size ≤ c) (high : c ≤ last_end head_size es) where
  cut-bytes : take c log ≡ take c (head_bytes n ++ entries_bytes es)
  cut-bytes = sym (take-take c (last_end head_size es) log high) ∙ ap (λ (x : List ℕ). take c x) e

  pub cut-entries : entries_of (take c log) ≡ some (keep (λ q. leb q.end c) es)
  cut-entries = ap entries_of cut-bytes ∙ entries-take n es c f low

  pub cut-server : head_server (take c log) ≡ n
  cut-server = ap head_server (cut-bytes ∙ head-take n (entries_bytes es) c low) ∙ head-server n (take (c - head_size) (entries_bytes es))

  pub cut-head : n ≤ last_server → head_ok (take c log) ≡ true
  cut-head h = ap head_ok (cut-bytes ∙ head-take n (entries_bytes es) c low) ∙ head-back n (take (c - head_size) (entries_bytes es)) h

-- those entries are the first ones, follow each other, and end at or under the cut
pub cut-split : (c k : ℕ) (es : List Entry) → EntriesFrom k es → keep (λ e. leb e.end c) es ++ keep (λ e. ltb c e.end) es ≡ es
unfolding keep
cut-split c k [] f = refl
cut-split c k (e ∷ es) f = step (leb e.end c) refl (cut-split c e.end es f.1)
  where
    step : (b : Bool) → leb e.end c ≡ b → keep (λ q. leb q.end c) es ++ keep (λ q. ltb c q.end) es ≡ es
        → pick b (e ∷ keep (λ q. leb q.end c) es) (keep (λ q. leb q.end c) es) ++ pick (ltb c e.end) (e ∷ keep (λ q. ltb c q.end) es) (keep (λ q. ltb c q.end) es)
        ≡ e ∷ es
    step true b h = rw (le-ltb c e.end (leb-true e.end c b)) (ap (λ (x : List Entry). e ∷ x) h)
    step false b h =
        let l : c < e.end = leb-false e.end c b in
        let none : keep (λ q. leb q.end c) es ≡ [] = keep-past c e.end es l f.1 in
        rw (lt-ltb c e.end l, none) (ap (λ (x : List Entry). e ∷ x) (rw none at h))

pub cut-from : (c k : ℕ) (es : List Entry) → EntriesFrom k es → EntriesFrom k (keep (λ e. leb e.end c) es)
unfolding keep
cut-from c k [] f = tt
cut-from c k (e ∷ es) f = step (leb e.end c) refl (cut-from c e.end es f.1)
  where
    step : (b : Bool) → leb e.end c ≡ b → EntriesFrom e.end (keep (λ q. leb q.end c) es)
        → EntriesFrom k (pick b (e ∷ keep (λ q. leb q.end c) es) (keep (λ q. leb q.end c) es))
    step true b h = (f.0, h)
    step false b h = rw (keep-past c e.end es (leb-false e.end c b) f.1) tt

pub cut-end : (c k : ℕ) (es : List Entry) → k ≤ c → EntriesFrom k es → last_end k (keep (λ e. leb e.end c) es) ≤ c
unfolding keep last_end
cut-end c k [] h f = h
cut-end c k (e ∷ es) h f = step (leb e.end c) refl (λ g. cut-end c e.end es g f.1)
  where
    step : (b : Bool) → leb e.end c ≡ b → (e.end ≤ c → last_end e.end (keep (λ q. leb q.end c) es) ≤ c)
        → last_end k (pick b (e ∷ keep (λ q. leb q.end c) es) (keep (λ q. leb q.end c) es)) ≤ c
    step true b g = g (leb-true e.end c b)
    step false b g = rw (keep-past c e.end es (leb-false e.end c b) f.1) h

-- ---- what the walk reads

walked_none : (k : ℕ) (s : List ℕ) (es : List Entry) → Incomplete s → some [] ≡ some es → Walked k s es
unfolding entries_bytes
walked_none k s es i e =
    let q : [] ≡ es = cc in
    subst (Walked k s) q (record { entries = tt; rest = s; split = refl; incomplete = i })

walked-entry : (k : ℕ) (s : List ℕ) (m : ℕ) (r : LogRecord) (es : List Entry) → IsRecord s m r → Walked (k + m) (drop m s) es
    → Walked k s (record { item = r; end = k + m } ∷ es)
unfolding entries_bytes
walked-entry k s m r es i w =
    record {
      entries = (record { ok = i.ok; fits = i.fits; end = ap (λ (x : ℕ). k + x) i.size }, w.entries);
      rest = w.rest;
      split =
          sym (take-append-drop m s) ∙ rw (← i.same, w.split, append_assoc);
      incomplete = w.incomplete;
    }

module _ (n : ℕ) (below : (k : ℕ) (s : List ℕ) (es : List Entry) → Bytes s → length s ≤ n → walk n k s ≡ some es → Walked k s es) where
  walked-walk : (k : ℕ) (s : List ℕ) (m : ℕ) (r : LogRecord) (es : List Entry) → Bytes s → length s ≤ suc n → IsRecord s m r
      → (w : Option (List Entry)) → walk n (k + m) (drop m s) ≡ w → step_walk (k + m) r w ≡ some es → Walked k s es
  unfolding step_walk
  walked-walk k s m r es h l i none p e = let z : ◌≡◌ {A = ℕ} 0 1 = cc in absurd (omega arith)
  walked-walk k s m r es h l i (some fs) p e =
      let q : record { item = r; end = k + m } ∷ fs ≡ es = cc in
      subst (Walked k s) q
      (walked-entry k s m r fs i (below (k + m) (drop m s) fs (bytes_drop m s h) (omega (arith, length-drop m s, i.size, record-least r)) p))

  walked-record : (k : ℕ) (s : List ℕ) (m : ℕ) (es : List Entry) → Bytes s → length s ≤ suc n → extent_of s ≡ spans m
      → (o : Option LogRecord) → record_at s ≡ o → step_record (k + m) o (walk n (k + m) (drop m s)) ≡ some es → Walked k s es
  unfolding step_record
  walked-record k s m es h l x none p e = let z : ◌≡◌ {A = ℕ} 0 1 = cc in absurd (omega arith)
  walked-record k s m es h l x (some r) p e = walked-walk k s m r es h l (record_is s h m x r p) (walk n (k + m) (drop m s)) refl e

  walked_extent : (k b : ℕ) (s : List ℕ) (es : List Entry) → Bytes (b ∷ s) → length (b ∷ s) ≤ suc n → (x : Extent) → extent_of (b ∷ s) ≡ x
      → step_extent n k (b ∷ s) x ≡ some es → Walked k (b ∷ s) es
  unfolding step_extent
  walked_extent k b s es h l off x e = let z : ◌≡◌ {A = ℕ} 0 1 = cc in absurd (omega arith)
  walked_extent k b s es h l cut x e = walked_none k (b ∷ s) es x e
  walked_extent k b s es h l (spans m) x e = walked-record k (b ∷ s) m es h l x (record_at (b ∷ s)) refl e

  walked_next : (k : ℕ) (s : List ℕ) (es : List Entry) → Bytes s → length s ≤ suc n → walk (suc n) k s ≡ some es → Walked k s es
  unfolding walk
  walked_next k [] es h l e = walked_none k [] es tt e
  walked_next k (b ∷ s) es h l e = walked_extent k b s es h l (extent_of (b ∷ s)) refl (sym (walk-cons n k b s) ∙ e)

walked-zero : (k : ℕ) (s : List ℕ) (es : List Entry) → length s ≤ 0 → walk 0 k s ≡ some es → Walked k s es
unfolding walk
walked-zero k [] es l e = walked_none k [] es tt e
walked-zero k (b ∷ s) es l e = absurd (omega arith)

-- what the walk gives are well-formed entries that follow each other; their bytes and an incomplete record are the bytes walked
pub walk_is : (n k : ℕ) (s : List ℕ) (es : List Entry) → Bytes s → length s ≤ n → walk n k s ≡ some es → Walked k s es
walk_is zero k s es h l e = walked-zero k s es l e
walk_is (suc n) k s es h l e = walked_next n (walk_is n) k s es h l e

pub entries_are : (s : List ℕ) (es : List Entry) → Bytes s → entries_of s ≡ some es → Walked head_size (drop head_size s) es
unfolding entries_of
entries_are s es h e = walk_is (length s) head_size (drop head_size s) es (bytes_drop 8 s h) (omega (arith, length-drop 8 s)) e

pub log-again : (s : List ℕ) (es : List Entry) → Bytes s → head_ok s ≡ true → entries_of s ≡ some es
    → take (last_end head_size es) s ≡ head_bytes (head_server s) ++ entries_bytes es
log-again s es h ok e =
    let w : Walked head_size (drop head_size s) es = entries_are s es h e in
    let log : List ℕ = head_bytes (head_server s) ++ entries_bytes es in
    let all : s ≡ log ++ w.rest = sym (take-append-drop head_size s) ∙ rw (← head-again s ok, w.split, append_assoc) in
    ap (λ (x : List ℕ). take (last_end head_size es) x) all ∙ take_at log w.rest (last_end head_size es) (log-length (head_server s) es w.entries)

-- a record written behind the entries
pub log_appended : (log : List ℕ) (n : ℕ) (es : List Entry) (r : LogRecord) → EntriesFrom head_size es
    → take (last_end head_size es) log ≡ head_bytes n ++ entries_bytes es → last_end head_size es + record_size r ≤ length log
    → take (last_end head_size es + record_size r) (written log (last_end head_size es) (record_bytes r))
    ≡ head_bytes n ++ entries_bytes (es ++ (record { item = r; end = last_end head_size es + record_size r } ∷ []))
unfolding entries_bytes
log_appended log n es r f e h =
    let k : ℕ = last_end head_size es in
    let l : k + record_size r ≡ k + length (record_bytes r) = ap (λ (x : ℕ). k + x) (sym (record-length r)) in
    ap (λ (x : ℕ). take x (written log k (record_bytes r))) l
    ∙ take-written-run log k (record_bytes r) (omega arith)
    ∙ rw (e, append_assoc, entries-append es (record { item = r; end = k + record_size r } ∷ []), append-nil)
