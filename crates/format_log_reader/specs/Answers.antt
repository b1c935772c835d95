-- What each case of an answer stands for, and what the readers answer.
-- Assumes nothing.
use Rattle.std.specs.Prelude.{ℕ, ◌+◌, ◌-◌, ◌≡◌, Bool, true, false, ◌&&◌, List, take, drop, eqb, Option, Some, None}
use Rattle.std.proofs.Math.Option.{Option as Maybe, none, some}
use Rattle.model.specs.Choice.{pick}
use Rattle.model.specs.Numbers.{byte_at, zero_at, zeros3_at}
use Rattle.model.specs.Limits.{take_head, first_executed_kind, gone_kind, give_kind, take_kind, release_kind, executed_kind}
use Rattle.model.specs.Packets.{notice_at, notice_ok}
use Rattle.model.specs.Images.{Image, image_head_of, image_at, image_ok}
use Rattle.model.specs.Logs.{LogRecord, executed, gone, gave, took, released, executed_at, executed_ok, give_at, give_ok, release_at, release_ok, record_at}
use Rattle.format_log_reader.specs.declared.Span.{Span}
use Rattle.format_log_reader.specs.declared.Record.{Record}
use Rattle.format_log_reader.specs.declared.Record.TheVariants.{Executed, Gone, Gave, Took, Released}

-- the image in bytes that are one
unfoldable pub image_in : List ℕ → Image
image_in s = image_at (image_head_of s) s

-- a part of the log
unfoldable pub span_in : List ℕ → Span → List ℕ
span_in log p = take p.len (drop p.from log)

-- the log record that an answer stands for: a take's image is the one at its place in the log
unfoldable pub record_means : List ℕ → Option Record → Maybe LogRecord
record_means log None = none
record_means log (Some (Executed x)) = some (executed x)
record_means log (Some (Gone n)) = some (gone n)
record_means log (Some (Gave g)) = some (gave g)
record_means log (Some (Took p)) = some (took (image_in (span_in log p)))
record_means log (Some (Released r)) = some (released r)

-- a take's image stands behind the record's 8 bytes, up to its end, and is well-formed
pub record ImagePlaced (log : List ℕ) (at n : ℕ) (p : Span) : Type 0 where
  pub start : p.from ≡ at + take_head
  pub end : p.from + p.len ≡ at + n
  pub ok : image_ok (span_in log p) ≡ true

abbrev pub record_placed : List ℕ → ℕ → ℕ → Option Record → Type 0
record_placed log at n None = Unit
record_placed log at n (Some (Executed x)) = Unit
record_placed log at n (Some (Gone m)) = Unit
record_placed log at n (Some (Gave g)) = Unit
record_placed log at n (Some (Took p)) = ImagePlaced log at n p
record_placed log at n (Some (Released r)) = Unit

-- r is what the whole record of n bytes at a place of the log says
pub record Parsed (log : List ℕ) (at n : ℕ) (r : Option Record) : Type 0 where
  pub means : record_means log r ≡ record_at (drop at log)
  pub placed : record_placed log at n r

-- what the readers answer of a record at the front of s, by kind
unfoldable pub executed_from : Bool → List ℕ → Option Record
executed_from timed s = pick (zeros3_at s 25 && executed_ok (executed_at timed s)) (Some (Executed (executed_at timed s))) None

unfoldable pub gone_from : List ℕ → Option Record
gone_from s = pick (zeros3_at s 1 && notice_ok (notice_at s)) (Some (Gone (notice_at s))) None

unfoldable pub give_from : List ℕ → Option Record
give_from s = pick (zero_at s 3 && give_ok (give_at s)) (Some (Gave (give_at s))) None

-- of a take of n bytes that stands at a place of the log
unfoldable pub take_from : List ℕ → ℕ → ℕ → Option Record
take_from s at n =
    pick (zeros3_at s 1 && image_ok (take (n - take_head) (drop take_head s))) (Some (Took (record { from = at + take_head; len = n - take_head }))) None

unfoldable pub release_from : List ℕ → Option Record
release_from s = pick (zero_at s 2 && (zero_at s 3 && release_ok (release_at s))) (Some (Released (release_at s))) None

unfoldable pub record_from : List ℕ → ℕ → ℕ → Option Record
record_from s at n =
    pick (eqb (byte_at s 0) first_executed_kind) (executed_from false s)
    (pick (eqb (byte_at s 0) gone_kind) (gone_from s)
    (pick (eqb (byte_at s 0) give_kind) (give_from s)
    (pick (eqb (byte_at s 0) take_kind) (take_from s at n)
    (pick (eqb (byte_at s 0) release_kind) (release_from s) (pick (eqb (byte_at s 0) executed_kind) (executed_from true s) None)))))
