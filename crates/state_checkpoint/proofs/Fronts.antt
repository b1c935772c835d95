-- Fronts of rows.
--     fronts-length                 the bytes of fronts
--     Fronted, fronted-..           a loop that stores them, one behind the other
--     fronts-again                  the front of a row that was read is the front of its bytes
-- Assumes nothing.
use Prim.Native.Nat.{ℕ, zero, suc, ◌+◌, ◌*◌, ◌≤◌, ◌<◌}
use mathlib.Core.Path.{◌≡◌, refl, sym, ap, ◌∙◌}
use mathlib.Core.Bool.{true}
use mathlib.Core.List.{List, ◌++◌}
use native.Mathlib.Omega.{arith}
use native.Mathlib.Nat.{mul-zero, mul-suc, zero-add}
use lib.ListN.{length, take, drop, length-append, length-drop}
use lib.Seq.{length-take-le, take-take}
use Rattle.model.specs.Tables.{rows, every_row, bytes_of, written}
use Rattle.model.specs.Checkpoints.{fronts}
use Rattle.model_laws.specs.Bytes.{Bytes, part}
use Rattle.model_laws.specs.Codec.{Codec}
use Rattle.model_laws.proofs.Tests.{and_left, and_right}
use Rattle.model_laws.proofs.Numbers.{bytes_drop}
use Rattle.model_laws.proofs.Written.{length-written, written_none, run-behind}
use Rattle.model_laws.proofs.Tables.{rows_snoc, row_in, bytes_of-append, bytes_of-one}

pub fronts-length : (w v n : ℕ) (t : List ℕ) → w ≤ v → v * n ≤ length t → length (bytes_of (take w) (fronts v n t)) ≡ w * n
unfolding fronts rows bytes_of
fronts-length w v zero t h b = sym (mul-zero w)
fronts-length w v (suc n) t h b =
    let one : length (take w t) ≡ w = length-take-le w t (omega (arith, mul-suc v n)) in
    let more : length (bytes_of (take w) (fronts v n (drop v t))) ≡ w * n = fronts-length w v n (drop v t) h (rw length-drop (omega (arith, mul-suc v n))) in
    length-append (take w t) (bytes_of (take w) (fronts v n (drop v t))) ∙ rw (one, more) (omega (arith, mul-suc w n))

-- ---- the loop

-- the fronts of i of n rows of the table t were stored
pub record Fronted (w v n : ℕ) (s₀ t s : List ℕ) (i : ℕ) : Type 0 where
  pub below : i ≤ n
  pub same : length s ≡ length s₀
  pub bytes : s ≡ written s₀ 0 (bytes_of (take w) (fronts v i t))

pub fronted_start : (w v n : ℕ) (s t : List ℕ) → Fronted w v n s t s 0
unfolding fronts rows bytes_of
fronted_start w v n s t = record { below = omega arith; same = refl; bytes = sym (written_none s 0) }

pub fronted_next : {w v n : ℕ} {s₀ t s s' : List ℕ} {i : ℕ} → w ≤ v → v * n ≤ length t → Fronted w v n s₀ t s i → i < n → s' ≡ written s (w * i) (part (v * i) w t) → Fronted w v n s₀ t s' (i + 1)
fronted_next {w} {v} {n} {s₀} {t} {s} {s'} {i} h b o l q =
    let us : List ℕ = bytes_of (take w) (fronts v i t) in
    let x : List ℕ = part (v * i) w t in
    let long : length us ≡ w * i = fronts-length w v i t h (omega (arith, row_in v i n l)) in
    let one : us ++ x ≡ bytes_of (take w) (fronts v (i + 1) t) = unfold fronts in rw (rows_snoc (λ (r : List ℕ). r) v i t, bytes_of-append, bytes_of-one) in
    record {
      below = omega arith;
      same = rw (q, length-written) o.same;
      bytes =
          q
          ∙ ap (λ (y : List ℕ). written y (w * i) x) o.bytes
          ∙ run-behind s₀ 0 us x long (sym (zero-add (w * i)))
          ∙ ap (λ (y : List ℕ). written s₀ 0 y) one;
    }

-- ---- rows that were read

module _ {A : Type 0} (C : Codec A) (w : ℕ) (h : w ≤ C.width) where
  pub fronts-again : (n : ℕ) (s : List ℕ) → Bytes s → C.width * n ≤ length s → every_row C.test C.width n s ≡ true
      → bytes_of (take w) (fronts C.width n s) ≡ bytes_of (λ (r : A). take w (C.enc r)) (rows C.dec C.width n s)
  unfolding fronts rows bytes_of every_row
  fronts-again zero s b l t = refl
  fronts-again (suc n) s b l t =
      let v : ℕ = C.width in
      let row : C.enc (C.dec s) ≡ take v s = C.enc-dec s b (omega (arith, mul-suc v n)) (and_left (C.test s) (every_row C.test v n (drop v s)) t) in
      let one : take w s ≡ take w (C.enc (C.dec s)) = sym (ap (take w) row ∙ take-take w v s h) in
      let more : bytes_of (take w) (fronts v n (drop v s)) ≡ bytes_of (λ (r : A). take w (C.enc r)) (rows C.dec v n (drop v s)) =
      fronts-again n (drop v s) (bytes_drop v s b) (rw length-drop (omega (arith, mul-suc v n))) (and_right (C.test s) (every_row C.test v n (drop v s)) t) in
      rw (one, more)
