-- Zeros stored in a part of a buffer.
--     cleared
-- Assumes nothing.
use Prim.Native.Nat.{ℕ, ◌+◌, ◌-◌, ◌≤◌}
use mathlib.Core.Path.{◌≡◌, sym, ◌∙◌}
use mathlib.Core.List.{List}
use native.Mathlib.Omega.{arith}
use lib.ListN.{length, replicate, length-replicate, length-drop, drop}
use lib.Seq.{length-take-le}
use borrow.Rule.Slice.PartMut.{put_mid, mid_of, Post-is}
use Rattle.model.specs.Tables.{written}
use Rattle.model_laws.proofs.Written.{written-fits}

pub cleared : (s : List ℕ) {a b : ℕ} {zs : List ℕ} → (a ≤ b) × (b ≤ length s) → zs ≡ replicate (length (mid_of a (b - a) s)) 0
    → put_mid a (b - a) s zs ≡ written s a (replicate (b - a) 0)
cleared s {a} {b} h e =
    let count : length (mid_of a (b - a) s) ≡ b - a = length-take-le (b - a) (drop a s) (omega (arith, length-drop a s, h.0, h.1)) in
    let zeros : List ℕ = replicate (b - a) 0 in
    let all : a + length zeros ≡ b = omega (arith, length-replicate {A = ℕ} (b - a) 0, h.0) in
    rw (e, count, Post-is a b s h.0) (sym (written-fits s a zeros (omega (arith, all, h.1)) ∙ rw all))
