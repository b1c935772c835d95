-- Two buffers that differ behind their last completion record alone.
-- Assumes nothing.
use Rattle.std.specs.Prelude.{ℕ, ◌≡◌, List, length, take}
use Rattle.model.specs.States.{records_end, records_in}

pub record Alike (s t : List ℕ) : Type 0 where
  pub long : length t ≡ length s
  pub front : take (records_end (records_in s)) t ≡ take (records_end (records_in s)) s
