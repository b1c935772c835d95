-- Bytes copied one by one.
--     copy_step     one more byte
-- Assumes nothing.
use Prim.Native.Nat.{ℕ, ◌+◌, ◌<◌}
use mathlib.Core.Path.{◌≡◌, sym, ap, ◌∙◌}
use mathlib.Core.List.{List, [], ◌∷◌}
use native.Mathlib.Omega.{arith}
use native.Mathlib.Numerals.{add-one}
use native.Mathlib.Nat.{zero-add}
use lib.ListN.{length, take, set, get_or}
use lib.Seq.{take-suc, length-take-le}
use Rattle.model.specs.Tables.{written}
use Rattle.model_laws.proofs.Written.{written-sets, written-append}

pub copy_step : (s src : List ℕ) (i : ℕ) → i < length src → set (written s 0 (take i src)) i (get_or src i 0) ≡ written s 0 (take (i + 1) src)
copy_step s src i h =
    let l : 0 + length (take i src) ≡ i = zero-add (length (take i src)) ∙ length-take-le i src (omega arith) in
    let x : List ℕ = written s 0 (take i src) in
    sym (
    ap (λ (k : ℕ). written s 0 (take k src)) (add-one i)
    ∙ ap (λ (vs : List ℕ). written s 0 vs) (take-suc src i 0 h)
    ∙ written-append s 0 (take i src) (get_or src i 0 ∷ [])
    ∙ ap (λ (k : ℕ). written x k (get_or src i 0 ∷ [])) l
    ∙ written-sets x i (get_or src i 0 ∷ [])
    )
