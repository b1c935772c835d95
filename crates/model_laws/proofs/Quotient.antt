-- The quotient of part by the first version of its rule is rounded down: the greatest integer whose product with the divisor is at most the dividend.
--     quotient_floor     quotient_down z n × n ≤ z < (quotient_down z n + 1) × n
-- Assumes nothing.
use Prim.Native.Nat.{ℕ, zero, suc, ◌+◌, ◌*◌, ◌/◌, ◌≤◌, ◌<◌}
use mathlib.Core.Path.{◌≡◌, refl}
use mathlib.Core.Bool.{true}
use native.Mathlib.Omega.{arith}
use native.Mathlib.Nat.{div-mul-le_self, lt-div-mul-add, suc-mul, add-mul, one-mul}
use borrow.Author.Tests.{le-leb, lt-ltb}
use lib.IntN.{ℤ, pos, negsuc, ◌+ℤ◌, ◌*ℤ◌, neg_ℤ}
use lib.Signed.{le_z, lt_z}
use Rattle.model.specs.Sequential.{quotient_down}
use Rattle.model_laws.proofs.Meaning.{sub-is_neg}

-- −k ≤ −1 − m, and the other side
neg_le : (k m : ℕ) → m < k → le_z (neg_ℤ (pos k)) (negsuc m) ≡ true
neg_le zero m h = absurd (omega arith)
neg_le (suc j) m h = le-leb m j (omega arith)

neg_lt : (k m : ℕ) → k ≤ m → lt_z (negsuc m) (neg_ℤ (pos k)) ≡ true
neg_lt zero m h = refl
neg_lt (suc j) m h = lt-ltb j m (omega arith)

next_neg : (q m n : ℕ) → q * n ≤ m → lt_z (negsuc m) ((negsuc q +ℤ pos 1) *ℤ pos n) ≡ true
next_neg zero m n h = refl
next_neg (suc q) m n h = rw (sub-is_neg 1 (suc (suc q)) q (omega arith)) (neg_lt (suc q * n) m h)

pub quotient_floor : (z : ℤ) (n : ℕ) → 0 < n
    → (le_z (quotient_down z n *ℤ pos n) z ≡ true) × (lt_z z ((quotient_down z n +ℤ pos 1) *ℤ pos n) ≡ true)
unfolding quotient_down
quotient_floor (pos m) n h = (le-leb (m / n * n) m (div-mul-le_self m n), lt-ltb m ((m / n + 1) * n) (rw (add-mul, one-mul) (lt-div-mul-add h)))
quotient_floor (negsuc m) n h = (neg_le (suc (m / n) * n) m (rw suc-mul (lt-div-mul-add h)), next_neg (m / n) m n (div-mul-le_self m n))
