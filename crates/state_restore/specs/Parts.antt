-- Parts of the checkpoint's layout test and of the restored state, by the functions that make them.
-- Assumes nothing.
use Rattle.std.specs.Prelude.{ℕ, ◌+◌, ◌*◌, ◌/◌, Bool, ◌&&◌, List, ◌++◌, length, take, drop, eqb, leb}
use Rattle.model.specs.Numbers.{le32_at, le32, le64, quad}
use Rattle.model.specs.Limits.{head_size, plan_size, point_count, client_count, record_count, floor_row, checkpoint_point}
use Rattle.model.specs.States.{state_magic}
use Rattle.model.specs.Checkpoints.{plan_part, points_part, clients_part, records_part, clients_of, records_size_in}

-- ---- the pairs

-- those of the two tables, with completion records of w bytes
unfoldable pub table_pairs : ℕ → List ℕ → Bool
table_pairs w s =
    let m = records_size_in s / w in
    eqb (le32_at s 32) (floor_row * clients_of s)
    && (eqb (le32_at s 36) (records_part (clients_of s))
    && (eqb (records_size_in s) (w * m)
    && (leb (clients_of s) client_count && (leb m record_count && leb (records_part (clients_of s) + w * m) (length s)))))

-- those with one value for all checkpoints, then the others
unfoldable pub fixed_pairs : ℕ → List ℕ → Bool
fixed_pairs w s =
    eqb (le32_at s 12) plan_part
    && (eqb (le32_at s 16) plan_size
    && (eqb (le32_at s 20) points_part
    && (eqb (le32_at s 24) (checkpoint_point * point_count) && (eqb (le32_at s 28) clients_part && table_pairs w s))))

-- ---- the head of the restored state, with n clients and m completion records

unfoldable pub head_restored : ℕ → ℕ → List ℕ → List ℕ
head_restored n m s =
    state_magic ++ (take 8 (drop 4 s) ++ (le32 n ++ (le32 m ++ (quad 0 0 0 0 ++ (le64 head_size ++ le64 head_size)))))
