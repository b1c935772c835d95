-- Zero bytes, and words joined by OR.
--     zero_word     4 bytes are zero where their number is
--     run-start, run-next, run_end     a loop that joins the words of a run: what is joined and the rest of the run decide whether the run is zero
-- Assumes nothing.
use Prim.Native.Nat.{ℕ, zero, suc, ◌+◌, ◌-◌, ◌*◌, ◌≤◌, ◌<◌}
use mathlib.Core.Path.{◌≡◌, refl, sym, ◌∙◌}
use mathlib.Core.Bool.{Bool, true, false, ◌&&◌, and_assoc, and-true}
use mathlib.Core.List.{List, [], ◌∷◌}
use native.Mathlib.Omega.{arith}
use native.Mathlib.Nat.{zero-add, suc-add, mul-suc, mul-zero, add-zero, sub-zero}
use lib.ListN.{drop}
use lib.Dec.{eqb}
use lib.Bits.{bit_and, bit_or, or_add_and, and_le_l, and_le_r}
use borrow.Author.Tests.{eqb-true, eqb-false, eq-eqb}
use Rattle.model.specs.Numbers.{join32, le32_at}
use Rattle.model.specs.Tables.{every_row, zeros}
use Rattle.model_laws.proofs.Numbers.{le32-drop}
use Rattle.model_laws.proofs.Tables.{every_row-cons}

zeros-nil : (n : ℕ) → zeros n [] ≡ true
unfolding zeros
zeros-nil zero = refl
zeros-nil (suc n) = refl

zeros-add : (m n : ℕ) (s : List ℕ) → zeros (m + n) s ≡ (zeros m s && zeros n (drop m s))
unfolding zeros
zeros-add zero n s = rw zero-add
zeros-add (suc m) n [] = rw (suc-add, zeros-nil n)
zeros-add (suc m) n (b ∷ s) = rw (suc-add, zeros-add m n s) (sym (and_assoc (eqb b 0) (zeros m s) (zeros n (drop m s))))

zeros-rows : (w n : ℕ) (s : List ℕ) → zeros (w * n) s ≡ every_row (zeros w) w n s
unfolding every_row zeros
zeros-rows w zero s = rw mul-zero
zeros-rows w (suc n) s = let e : w * suc n ≡ w + w * n = omega (arith, mul-suc w n) in rw (e, zeros-add w (w * n) s, zeros-rows w n (drop w s))

-- a number is zero exactly where two others are
both_zero : (x a b : ℕ) → (x ≡ 0 → a ≡ 0) → (x ≡ 0 → b ≡ 0) → (a ≡ 0 → b ≡ 0 → x ≡ 0) → eqb x 0 ≡ (eqb a 0 && eqb b 0)
both_zero x a b p q r = step (eqb x 0) (eqb a 0) (eqb b 0) refl refl refl
  where
    step : (t u v : Bool) → eqb x 0 ≡ t → eqb a 0 ≡ u → eqb b 0 ≡ v → eqb x 0 ≡ (eqb a 0 && eqb b 0)
    step true u v e f g = let z : x ≡ 0 = eqb-true x 0 e in rw (e, eq-eqb a 0 (p z), eq-eqb b 0 (q z))
    step false true true e f g = absurd (eqb-false x 0 e (r (eqb-true a 0 f) (eqb-true b 0 g)))
    step false true false e f g = rw (e, f, g)
    step false false v e f g = rw (e, f)

four : (a b c d : ℕ) → (eqb a 0 && (eqb b 0 && (eqb c 0 && (eqb d 0 && true)))) ≡ eqb (join32 a b c d) 0
four a b c d =
    let last : eqb (65536 * c + 16777216 * d) 0 ≡ (eqb c 0 && eqb d 0) = both_zero (65536 * c + 16777216 * d) c d (λ e. omega arith) (λ e. omega arith) (λ e f. omega arith) in
    let more : eqb (256 * b + (65536 * c + 16777216 * d)) 0 ≡ (eqb b 0 && eqb (65536 * c + 16777216 * d) 0) =
    both_zero (256 * b + (65536 * c + 16777216 * d)) b (65536 * c + 16777216 * d) (λ e. omega arith) (λ e. omega arith) (λ e f. omega arith) in
    let all : eqb (join32 a b c d) 0 ≡ (eqb a 0 && eqb (256 * b + (65536 * c + 16777216 * d)) 0) =
    both_zero (join32 a b c d) a (256 * b + (65536 * c + 16777216 * d)) (λ e. omega arith) (λ e. omega arith) (λ e f. omega arith) in
    sym (all ∙ rw (more, last, and-true (eqb d 0)))

word-zero : (s : List ℕ) → zeros 4 s ≡ eqb (le32_at s 0) 0
unfolding zeros le32_at
word-zero [] = refl
word-zero (a ∷ []) = four a 0 0 0
word-zero (a ∷ b ∷ []) = four a b 0 0
word-zero (a ∷ b ∷ c ∷ []) = four a b c 0
word-zero (a ∷ b ∷ c ∷ d ∷ []) = four a b c d
word-zero (a ∷ b ∷ c ∷ d ∷ e ∷ s) = four a b c d

pub zero_word : (s : List ℕ) (k : ℕ) {r : ℕ} → r ≡ le32_at s k → eqb r 0 ≡ zeros 4 (drop k s)
zero_word s k e = rw e (sym (word-zero (drop k s) ∙ rw (le32-drop k s 0, add-zero)))

or-zero : (a b : ℕ) → eqb (bit_or a b) 0 ≡ (eqb a 0 && eqb b 0)
or-zero a b =
    let sum : bit_or a b + bit_and a b ≡ a + b = or_add_and a b in
    let l : bit_and a b ≤ a = and_le_l a b in
    let r : bit_and a b ≤ b = and_le_r a b in
    both_zero (bit_or a b) a b (λ e. omega arith) (λ e. omega arith) (λ e f. omega arith)

-- ---- a run of n words of w bytes from k

-- those before i, joined, are acc
pub record Run (w k : ℕ) (s : List ℕ) (n acc i : ℕ) : Type 0 where
  pub below : i ≤ n
  pub rest : zeros (w * n) (drop k s) ≡ (eqb acc 0 && every_row (zeros w) w (n - i) (drop (k + w * i) s))

pub run-start : (w k : ℕ) (s : List ℕ) (n : ℕ) → Run w k s n 0 0
run-start w k s n = record { below = omega arith; rest = rw (mul-zero, add-zero, sub-zero) (zeros-rows w n (drop k s)) }

module _ {w k : ℕ} {s : List ℕ} {n acc i : ℕ} (o : Run w k s n acc i) where
  pub run-next : (r : ℕ) → i < n → eqb r 0 ≡ zeros w (drop (k + w * i) s) → Run w k s n (bit_or acc r) (i + 1)
  run-next r h p = record { below = omega arith; rest = o.rest ∙ rw (every_row-cons (zeros w) w s k i n h, ← p, or-zero acc r, and_assoc) }

  pub run_end : n ≤ i → eqb acc 0 ≡ zeros (w * n) (drop k s)
  unfolding every_row
  run_end h = let e : n - i ≡ 0 = omega arith in sym (o.rest ∙ rw (e, and-true (eqb acc 0)))
