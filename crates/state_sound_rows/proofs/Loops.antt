-- What a loop that tests each row of a table starts from: `Open` of `model_laws`, the rows from i on decide the answer.
--     open_start     the answer is a test of every row
--     clients_open     it is that the clients ascend: a test of every two neighbours, at a place by client_pair
-- Assumes nothing.
use Prim.Native.Nat.{ℕ, zero, suc, ◌+◌, ◌-◌}
use mathlib.Core.Path.{◌≡◌, refl}
use mathlib.Core.Bool.{Bool}
use mathlib.Core.List.{List}
use native.Mathlib.Omega.{arith}
use native.Mathlib.Nat.{add-zero, mul-zero, sub-zero}
use lib.ListN.{drop}
use lib.Seq.{drop-drop}
use lib.Dec.{ltb}
use Rattle.model.specs.Tables.{rows, every_row}
use Rattle.model.specs.Images.{floor_of_bytes, clients_ascend}
use Rattle.model.specs.Limits.{floor_row}
use Rattle.model_laws.proofs.Loops.{Open}

pub open_start : (t : List ℕ → Bool) (w k : ℕ) (x : Bool) (s : List ℕ) (n : ℕ) → x ≡ every_row t w n (drop k s) → Open t w k x s n 0
open_start t w k x s n e = record { below = omega arith; rest = rw (mul-zero, add-zero, sub-zero) e }

-- the client of the first row is below that of the next
abbrev pub client_before : List ℕ → Bool
client_before s = ltb (floor_of_bytes s).client (floor_of_bytes (drop floor_row s)).client

ascend_rows : (n : ℕ) (s : List ℕ) → clients_ascend (rows floor_of_bytes floor_row n s) ≡ every_row client_before floor_row (n - 1) s
unfolding clients_ascend rows every_row
ascend_rows zero s = refl
ascend_rows (suc zero) s = refl
ascend_rows (suc (suc n)) s =
    let p : suc (suc n) - 1 ≡ suc n = omega arith in
    let q : suc n - 1 ≡ n = omega arith in
    rw (ascend_rows (suc n) (drop floor_row s), p, q)

pub clients_open : (k : ℕ) (s : List ℕ) (n : ℕ) → Open client_before floor_row k (clients_ascend (rows floor_of_bytes floor_row n (drop k s))) s (n - 1) 0
clients_open k s n = open_start client_before floor_row k (clients_ascend (rows floor_of_bytes floor_row n (drop k s))) s (n - 1) (ascend_rows n (drop k s))

pub client_pair : (s : List ℕ) (j : ℕ) {u : Bool} → u ≡ ltb (floor_of_bytes (drop j s)).client (floor_of_bytes (drop (j + floor_row) s)).client → u ≡ client_before (drop j s)
client_pair s j e = rw drop-drop e
