-- The log: a head and records, appended one after the other. Recovery finds the ends of all records first, then replays them.
-- Assumes nothing.
use Rattle.std.specs.Prelude.{ℕ, zero, suc, ◌+◌, Bool, true, false, ◌&&◌, ◌||◌, List, [], ◌∷◌, ◌++◌, length, take, drop, eqb, leb, ltb}
use Rattle.std.proofs.Math.Option.{Option, none, some}
use Rattle.model.specs.declared.Executed.{Executed}
use Rattle.model.specs.declared.Notice.{Notice}
use Rattle.model.specs.declared.Give.{Give}
use Rattle.model.specs.declared.Release.{Release}
use Rattle.model.specs.Choice.{pick}
use Rattle.model.specs.Numbers.{byte_at, le32_at, le32, signed_at, signed32, zero_at, zeros3_at, quad, starts_with}
use Rattle.model.specs.Packets.{id_ok, done_ok, command_ok, outcome_ok, time_at, time_bytes, notice_at, notice_ok, notice_bytes}
use Rattle.model.specs.Images.{Image, parse_image, image_bytes, image_length}
use Rattle.model.specs.Limits.{last_point, last_server, least_image, greatest_image, head_size}
use Rattle.model.specs.Limits.{first_executed_kind, gone_kind, give_kind, take_kind, release_kind, executed_kind}
use Rattle.model.specs.Limits.{first_executed_size, executed_size, gone_size, give_size, take_head, release_size}

-- ---- head: 57 4C 47 31, server number, three zeros

abbrev pub log_magic : List ℕ
log_magic = quad 87 76 71 49

unfoldable pub head_bytes : ℕ → List ℕ
head_bytes n = log_magic ++ quad n 0 0 0

unfoldable pub head_server : List ℕ → ℕ
head_server s = byte_at s 4

unfoldable pub head_ok : List ℕ → Bool
head_ok s =
    leb head_size (length s)
    && (starts_with s log_magic && (leb (head_server s) last_server && zeros3_at s 5))

-- ---- records

pub data LogRecord : Type 0 where
  executed : Executed → LogRecord
  gone : Notice → LogRecord
  gave : Give → LogRecord
  took : Image → LogRecord
  released : Release → LogRecord

-- 1, 6 executed: kind, op, point, outcome; client; call; done; argument; value; then the quality, padded with zeros; in 6 the time
unfoldable pub executed_kind_of : Bool → ℕ
executed_kind_of timed = pick timed executed_kind first_executed_kind

unfoldable pub executed_size_of : Bool → ℕ
executed_size_of timed = pick timed executed_size first_executed_size

unfoldable pub executed_at : Bool → List ℕ → Executed
executed_at timed s =
    record {
      command =
          record { client = le32_at s 4; call = le32_at s 8; op = byte_at s 1; point = byte_at s 2; argument = signed_at s 16 };
      done = le32_at s 12;
      result = record { outcome = byte_at s 3; value = signed_at s 20; quality = byte_at s 24; time = time_at timed s 28 };
      timed = timed;
    }

unfoldable pub executed_ok : Executed → Bool
executed_ok x =
    let c = x.command in
    command_ok c.op c.point c.argument
    && (outcome_ok x.result.outcome x.result.quality && (id_ok c.client c.call && done_ok x.done c.call))

unfoldable pub executed_bytes : Executed → List ℕ
executed_bytes x =
    let c = x.command in
    let r = x.result in
    quad (executed_kind_of x.timed) c.op c.point r.outcome
    ++ (le32 c.client
    ++ (le32 c.call
    ++ (le32 x.done
    ++ (signed32 c.argument ++ (signed32 r.value ++ (quad r.quality 0 0 0 ++ time_bytes x.timed r.time))))))

-- 3 give: kind, point, destination, 0, move
unfoldable pub give_at : List ℕ → Give
give_at s = record { point = byte_at s 1; destination = byte_at s 2; move_number = le32_at s 4 }

unfoldable pub give_ok : Give → Bool
give_ok g = leb g.point last_point && leb g.destination last_server

unfoldable pub give_bytes : Give → List ℕ
give_bytes g = quad give_kind g.point g.destination 0 ++ le32 g.move_number

-- 4 take: kind, three zeros, image length, image
abbrev pub image_size_in : List ℕ → ℕ
image_size_in s = le32_at s 4

unfoldable pub take_bytes : Image → List ℕ
take_bytes i = quad take_kind 0 0 0 ++ (le32 (image_length i) ++ image_bytes i)

-- 5 release: kind, point, two zeros, move (the give's)
unfoldable pub release_at : List ℕ → Release
release_at s = record { point = byte_at s 1; move_number = le32_at s 4 }

unfoldable pub release_ok : Release → Bool
release_ok r = leb r.point last_point

unfoldable pub release_bytes : Release → List ℕ
release_bytes r = quad release_kind r.point 0 0 ++ le32 r.move_number

unfoldable pub record_bytes : LogRecord → List ℕ
record_bytes (executed x) = executed_bytes x
record_bytes (gone n) = notice_bytes gone_kind n
record_bytes (gave g) = give_bytes g
record_bytes (took i) = take_bytes i
record_bytes (released r) = release_bytes r

unfoldable pub record_size : LogRecord → ℕ
record_size (executed x) = executed_size_of x.timed
record_size (gone n) = gone_size
record_size (gave g) = give_size
record_size (took i) = take_head + image_length i
record_size (released r) = release_size

-- ---- what stands at the front of s, the rest of a log

pub data Extent : Type 0 where
  off : Extent  -- no kind of record, or the length of an image that no image has
  cut : Extent  -- an incomplete record
  spans : ℕ → Extent  -- a record of that many bytes, all there

-- a record of n bytes, where they are all there
unfoldable pub within : List ℕ → ℕ → Extent
within s n = pick (ltb (length s) n) cut (spans n)

-- a take: its image's length is read once its 4 bytes are there
unfoldable pub take_extent : List ℕ → Extent
take_extent s =
    pick (ltb (length s) take_head) cut
    (pick (ltb (image_size_in s) least_image || ltb greatest_image (image_size_in s)) off (within s (take_head + image_size_in s)))

-- the extent of the record at the front of s, of at least one byte
unfoldable pub extent_of : List ℕ → Extent
extent_of s =
    pick (eqb (byte_at s 0) first_executed_kind) (within s first_executed_size)
    (pick (eqb (byte_at s 0) gone_kind) (within s gone_size)
    (pick (eqb (byte_at s 0) give_kind) (within s give_size)
    (pick (eqb (byte_at s 0) take_kind) (take_extent s)
    (pick (eqb (byte_at s 0) release_kind) (within s release_size)
    (pick (eqb (byte_at s 0) executed_kind) (within s executed_size) off)))))

-- a whole take record's image, read from its place
unfoldable pub take_parsed : Option Image → Option LogRecord
take_parsed none = none
take_parsed (some i) = some (took i)

-- a whole executed record, in one of its forms
unfoldable pub executed_parsed : Bool → List ℕ → Option LogRecord
executed_parsed timed s = pick (zeros3_at s 25 && executed_ok (executed_at timed s)) (some (executed (executed_at timed s))) none

-- the whole record at the front of s, if it keeps its layout
unfoldable pub record_at : List ℕ → Option LogRecord
record_at s =
    pick (eqb (byte_at s 0) first_executed_kind) (executed_parsed false s)
    (pick (eqb (byte_at s 0) gone_kind) (pick (zeros3_at s 1 && notice_ok (notice_at s)) (some (gone (notice_at s))) none)
    (pick (eqb (byte_at s 0) give_kind) (pick (zero_at s 3 && give_ok (give_at s)) (some (gave (give_at s))) none)
    (pick (eqb (byte_at s 0) take_kind) (pick (zeros3_at s 1) (take_parsed (parse_image (take (image_size_in s) (drop take_head s)))) none)
    (pick (eqb (byte_at s 0) release_kind) (pick (zero_at s 2 && (zero_at s 3 && release_ok (release_at s))) (some (released (release_at s))) none)
    (pick (eqb (byte_at s 0) executed_kind) (executed_parsed true s) none)))))

-- ---- the first walk: the ends of the records, by their kinds and lengths alone

-- the ends of the whole records of the log's rest s, which starts at place k; none where a kind or an image's length is off its layout.
-- An incomplete last record has no end. Each record has at least 8 bytes, so that the length is fuel enough
unfoldable pub walk_ends : ℕ → ℕ → List ℕ → Option (List ℕ)
walk_ends zero k s = some []
walk_ends (suc n) k [] = some []
walk_ends (suc n) k (b ∷ s) =
    elim (extent_of (b ∷ s)) [
      | off ↦ none
      | cut ↦ some []
      | spans m ↦ elim (walk_ends n (k + m) (drop m (b ∷ s))) [ none ↦ none | some es ↦ some ((k + m) ∷ es) ]
    ]

-- of a log; none where its head is off its layout, too
unfoldable pub ends_of : List ℕ → Option (List ℕ)
ends_of log = elim (head_ok log) [ true ↦ walk_ends (length log) head_size (drop head_size log) | false ↦ none ]

-- the last of the ends behind place k, k where there is none
unfoldable pub last_of : ℕ → List ℕ → ℕ
last_of k [] = k
last_of k (e ∷ es) = last_of e es

-- the first walk by itself: the end of the last whole record, none for 14
unfoldable pub whole_end : List ℕ → Option ℕ
whole_end log = elim (ends_of log) [ none ↦ none | some es ↦ some (last_of head_size es) ]

-- ---- the records between the ends

-- a log record with its end: the log's length once it is appended
pub record Entry : Type 0 where
  pub item : LogRecord
  pub end : ℕ

-- from place k on; none if one breaks its layout
unfoldable pub entries_to : List ℕ → ℕ → List ℕ → Option (List Entry)
entries_to log k [] = some []
entries_to log k (e ∷ es) =
    elim (record_at (drop k log)) [
      | none ↦ none
      | some r ↦ elim (entries_to log e es) [ none ↦ none | some xs ↦ some (record { item = r; end = e } ∷ xs) ]
    ]

-- the bytes of entries
unfoldable pub entries_bytes : List Entry → List ℕ
entries_bytes [] = []
entries_bytes (e ∷ es) = record_bytes e.item ++ entries_bytes es
