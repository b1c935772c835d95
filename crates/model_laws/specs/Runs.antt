-- Stores into a slice, one behind the other: what is stored from a place on, and where the next one starts.
-- Assumes nothing.
use Rattle.std.specs.Prelude.{ℕ, ◌+◌, ◌≡◌, List, ◌++◌, length}
use Rattle.model.specs.Tables.{written}

-- from k on
pub data Runs : ℕ → Type 0 where
  last : {k : ℕ} → List ℕ → Runs k
  run : {k : ℕ} (a : List ℕ) (n : ℕ) → k + length a ≡ n → Runs n → Runs k

-- a slice after all of them
unfoldable pub stored_by : {k : ℕ} → List ℕ → Runs k → List ℕ
stored_by {k} s (last a) = written s k a
stored_by {k} s (run a n p r) = stored_by (written s k a) r

-- all that they store
unfoldable pub bytes_by : {k : ℕ} → Runs k → List ℕ
bytes_by (last a) = a
bytes_by (run a n p r) = a ++ bytes_by r
