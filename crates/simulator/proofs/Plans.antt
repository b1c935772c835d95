-- The simulator's plan, byte by byte: one row for every point.
-- Assumes nothing.
use Prim.Native.Nat.{ℕ, zero, suc, ◌+◌, ◌-◌, ◌*◌, ◌%◌, ◌≤◌, ◌<◌}
use mathlib.Core.Path.{◌≡◌, refl, sym, ap, ◌∙◌}
use mathlib.Core.Bool.{Bool, true, false}
use mathlib.Core.List.{List, [], ◌∷◌, ◌++◌}
use native.Mathlib.Omega.{arith}
use native.Mathlib.Nat.{not-suc-le-zero}
use lib.Dec.{eqb, ltb}
use lib.ListN.{length, get_or, set, length-set, length-append, get_or-append}
use lib.Seq.{get_or-append-add, get_or-set_same, get_or-set_other, ext_get_or}
use borrow.Author.Tests.{ltb-true, ltb-false, eqb-true, eqb-false}
use Rattle.model.specs.Numbers.{flip}
use Rattle.model.specs.Limits.{plan_row, plan_size, point_count}
use Rattle.model.specs.Tables.{bytes_of}
use Rattle.model.specs.Plan.{plan_bytes, plan_entry_bytes}
use Rattle.model.specs.Simulator.{simulator_plan}

-- the bytes of a row: low -100, high 1000, fallback 0, home 0
abbrev pub row_bytes : List ℕ
row_bytes = 156 ∷ 255 ∷ 255 ∷ 255 ∷ 232 ∷ 3 ∷ 0 ∷ 0 ∷ 0 ∷ 0 ∷ 0 ∷ 0 ∷ 0 ∷ 0 ∷ 0 ∷ 0 ∷ []

unfoldable pub repeated : ℕ → List ℕ
repeated zero = []
repeated (suc n) = row_bytes ++ repeated n

repeated_plan : simulator_plan ≡ repeated point_count
unfolding simulator_plan plan_bytes bytes_of plan_entry_bytes repeated flip
repeated_plan = refl

length_repeated : (n : ℕ) → length (repeated n) ≡ plan_row * n
unfolding repeated
length_repeated zero = refl
length_repeated (suc n) = length-append row_bytes (repeated n) ∙ omega (arith, length_repeated n)

repeated_at : (n i : ℕ) → i < plan_row * n → get_or (repeated n) i 0 ≡ get_or row_bytes (i % plan_row) 0
unfolding repeated
repeated_at zero i h = absurd (omega arith)
repeated_at (suc n) i h = go (ltb i plan_row) refl (λ l. repeated_at n (i - plan_row) l)
  where
    go : (t : Bool) → ltb i plan_row ≡ t
        → (i - plan_row < plan_row * n → get_or (repeated n) (i - plan_row) 0 ≡ get_or row_bytes ((i - plan_row) % plan_row) 0)
        → get_or (row_bytes ++ repeated n) i 0 ≡ get_or row_bytes (i % plan_row) 0
    go true e again =
        let l : i < plan_row = ltb-true i plan_row e in
        let m : i % plan_row ≡ i = omega arith in
        get_or-append row_bytes (repeated n) 0 i l ∙ rw m refl
    go false e again =
        let l : plan_row ≤ i = ltb-false i plan_row e in
        let p : i ≡ plan_row + (i - plan_row) = omega arith in
        let m : (i - plan_row) % plan_row ≡ i % plan_row = omega arith in
        ap (λ (j : ℕ). get_or (row_bytes ++ repeated n) j 0) p ∙ get_or-append-add row_bytes (repeated n) (i - plan_row) 0 ∙ again (omega arith) ∙ rw m refl

-- the bytes before i are the plan's
pub record Planned (p : List ℕ) (i : ℕ) : Type 0 where
  pub long : length p ≡ plan_size
  pub most : i ≤ plan_size
  pub same : (j : ℕ) → j < i → get_or p j 0 ≡ get_or (repeated point_count) j 0

pub planned-start : (p : List ℕ) → length p ≡ plan_size → Planned p 0
planned-start p h = record { long = h; most = omega arith; same = λ j l. absurd (not-suc-le-zero l) }

pub planned-next : (p : List ℕ) (i : ℕ) → Planned p i → i < plan_size → Planned (set p i (get_or row_bytes (i % plan_row) 0)) (i + 1)
planned-next p i x h =
    record {
      long = length-set p i (get_or row_bytes (i % plan_row) 0) ∙ x.long;
      most = omega arith;
      same = λ j l. go j (eqb j i) refl l;
    }
  where
    go : (j : ℕ) (t : Bool) → eqb j i ≡ t → j < i + 1 → get_or (set p i (get_or row_bytes (i % plan_row) 0)) j 0 ≡ get_or (repeated point_count) j 0
    go j true e l =
        let q : j ≡ i = eqb-true j i e in
        rw q (get_or-set_same p i (get_or row_bytes (i % plan_row) 0) 0 (omega (arith, x.long)) ∙ sym (repeated_at point_count i (omega arith)))
    go j false e l =
        let q : j ≡ i → ⊥ = eqb-false j i e in
        get_or-set_other p i j (get_or row_bytes (i % plan_row) 0) 0 q ∙ x.same j (omega arith)

pub planned-end : (p : List ℕ) (i : ℕ) → Planned p i → plan_size ≤ i → p ≡ simulator_plan
planned-end p i x h =
    ext_get_or 0 p (repeated point_count) (x.long ∙ sym (length_repeated point_count)) (λ j l. x.same j (omega (arith, x.long, x.most))) ∙ sym repeated_plan
