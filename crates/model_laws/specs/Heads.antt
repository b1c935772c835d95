-- What the first walk over a log sees: each record's kind, and a take's image length.
-- Assumes nothing.
use Rattle.std.specs.Prelude.{ℕ, zero, suc, ◌≡◌, List, drop}
use Rattle.model.specs.Numbers.{byte_at, le32_at}
use Rattle.model.specs.Limits.{take_kind}
use Rattle.model.specs.Logs.{spans, extent_of}

-- the same kinds and image lengths at the places where records start, up to n of them
abbrev pub SameHeads : ℕ → List ℕ → List ℕ → Type 0
SameHeads zero s t = Unit
SameHeads (suc n) s t =
    (byte_at s 0 ≡ byte_at t 0) × (byte_at s 0 ≡ take_kind → le32_at s 4 ≡ le32_at t 4) × ((m : ℕ) → extent_of s ≡ spans m → SameHeads n (drop m s) (drop m t))
