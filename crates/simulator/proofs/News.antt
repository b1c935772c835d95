-- A new simulator: slices cleared, servers founded.
-- Assumes nothing.
use Prim.Native.Nat.{ℕ, ◌-◌}
use mathlib.Core.Path.{◌≡◌, refl, ap, ◌∙◌}
use mathlib.Core.List.{List, [], append-nil}
use native.Mathlib.Omega.{arith}
use lib.ListN.{length, drop, replicate, length-replicate, drop_of_length-le}
use Rattle.model.specs.declared.Answer.{Answer}
use Rattle.model.specs.Tables.{written}
use Rattle.model.specs.Limits.{state_size}
use Rattle.model.specs.Operations.{After, after, found_of}
use Rattle.model.specs.Simulator.{simulator_log, simulator_plan, simulator_server}
use Rattle.model_laws.proofs.Written.{written-front}

-- zeros over all of a slice
pub all_zeros : {t : List ℕ} (s : List ℕ) → t ≡ written s 0 (replicate (length s - 0) 0) → t ≡ replicate (length s) 0
all_zeros s e =
    let n = length s in
    let z : n - 0 ≡ n = omega arith in
    let l = length-replicate {A = ℕ} n 0 in
    let d : drop n s ≡ [] = drop_of_length-le s {i = n} (omega arith) in
    (rw z at e) ∙ written-front s (replicate n 0) (omega (arith, l)) ∙ rw (l, d) (append-nil (replicate n 0))

pub new_server : {a : Answer} {s l : List ℕ} (x y p : List ℕ) (n i j : ℕ) → after a s l [] ≡ found_of x y p n → x ≡ replicate i 0 → y ≡ replicate j 0 → i ≡ state_size → j ≡
    simulator_log → p ≡ simulator_plan
    → (s ≡ (simulator_server n).state) × (l ≡ (simulator_server n).log)
unfolding simulator_server
new_server {a} {s} {l} x y p n i j e f g u v h =
    let d : after a s l [] ≡ found_of (replicate state_size 0) (replicate simulator_log 0) simulator_plan n = e ∙ rw (f, g, h, u, v) refl in
    (ap (λ (z : After). z.state) d, ap (λ (z : After). z.log) d)
