-- The hints for the search of a client, as a loop fills them.
--     hints_start, hints_next, hints_end
-- Assumes nothing.
use Prim.Native.Nat.{ℕ, ◌+◌, ◌-◌, ◌*◌, ◌%◌, ◌≤◌, ◌<◌}
use mathlib.Core.Path.{◌≡◌, sym, ◌∙◌}
use mathlib.Core.List.{List}
use native.Mathlib.Omega.{arith}
use native.Mathlib.Numerals.{add-one}
use native.Mathlib.Nat.{sub-zero}
use lib.ListN.{length, set, drop, replicate, length-set, length-replicate}
use Rattle.model.specs.declared.Floor.{Floor}
use Rattle.model.specs.Tables.{rows}
use Rattle.model.specs.Images.{floor_of_bytes}
use Rattle.model.specs.States.{floors_start}
use Rattle.model.specs.Limits.{floor_row}
use Rattle.model_laws.proofs.Tables.{rows-cons}
use Rattle.state_soundness.specs.Slots.{hints_from}

abbrev pub all_hints : List ℕ → ℕ → List ℕ
all_hints s n = hints_from 0 (replicate 256 0) (rows floor_of_bytes floor_row n (drop floors_start s))

-- the clients from i on complete the hints
pub record Hinted (s : List ℕ) (n : ℕ) (hints : List ℕ) (i : ℕ) : Type 0 where
  pub below : i ≤ n
  pub long : length hints ≡ 256
  pub rest : all_hints s n ≡ hints_from i hints (rows floor_of_bytes floor_row (n - i) (drop (floors_start + floor_row * i) s))

pub hints_start : (s : List ℕ) (n : ℕ) → Hinted s n (replicate 256 0) 0
hints_start s n = record { below = omega arith; long = length-replicate {A = ℕ} 256 0; rest = rw sub-zero }

module _ {s : List ℕ} {n : ℕ} {hints : List ℕ} {i : ℕ} (o : Hinted s n hints i) where
  pub hints_next : {f : Floor} → i < n → f ≡ floor_of_bytes (drop (floors_start + floor_row * i) s) → Hinted s n (set hints (f.client % 256) i) (i + 1)
  unfolding hints_from
  hints_next {f} h p =
      record {
        below = omega arith;
        long = length-set hints (f.client % 256) i ∙ o.long;
        rest = o.rest ∙ rw (rows-cons floor_of_bytes floor_row s floors_start i n h, ← p, add-one);
      }

  pub hints_end : n ≤ i → hints ≡ all_hints s n
  unfolding hints_from rows
  hints_end h = let e : n - i ≡ 0 = omega arith in sym (o.rest ∙ rw e)
