-- What each case of an extent stands for, and the record at a place of the log, with its size where it is whole.
-- Assumes nothing.
use Rattle.std.specs.Prelude.{ℕ, ◌+◌, ◌≡◌, List, length, drop, eqb, leb}
use Rattle.model.specs.Choice.{pick}
use Rattle.model.specs.Numbers.{byte_at, le32_at}
use Rattle.model.specs.Limits.{first_executed_kind, gone_kind, give_kind, take_kind, release_kind, first_executed_size, gone_size, give_size, take_head, release_size, executed_size}
use Rattle.model.specs.Logs.{off, cut, spans, extent_of}
use Rattle.model.specs.Logs.{Extent as LogExtent}
use Rattle.format_log_ends.specs.declared.Extent.{Extent}
use Rattle.format_log_ends.specs.declared.Extent.TheVariants.{Off, Cut, Spans}

unfoldable pub extent_means : Extent → LogExtent
extent_means Off = off
extent_means Cut = cut
extent_means (Spans n) = spans n

-- the record at a place of the log; where nothing stands, one of which all bytes are cut
unfoldable pub extent_from : List ℕ → ℕ → LogExtent
extent_from log at = pick (leb (length log) at) cut (extent_of (drop at log))

-- a whole record stands there
pub record WholeAt (log : List ℕ) (at : ℕ) : Type 0 where
  pub size : ℕ
  pub whole : extent_from log at ≡ spans size

-- its size, by its kind, and a take's by its image's length
unfoldable pub size_from : List ℕ → ℕ → ℕ
size_from log at =
    pick (eqb (byte_at log at) first_executed_kind) first_executed_size
    (pick (eqb (byte_at log at) gone_kind) gone_size
    (pick (eqb (byte_at log at) give_kind) give_size
    (pick (eqb (byte_at log at) take_kind) (take_head + le32_at log (at + 4))
    (pick (eqb (byte_at log at) release_kind) release_size executed_size))))
