-- The completion records in front that stay.
--     front-most, front-keep                             they are some of the records, and a test keeps them all
--     front-rows                                         so are the rows that they stand in
-- Assumes nothing.
use Prim.Native.Nat.{ℕ, suc, ◌+◌, ◌-◌, ◌*◌, ◌≤◌}
use mathlib.Core.Path.{◌≡◌, refl}
use mathlib.Core.Bool.{Bool, true, false, not}
use mathlib.Core.List.{List, [], ◌∷◌}
use native.Mathlib.Omega.{arith}
use lib.ListN.{length, take, drop}
use lib.Seq.{take_at}
use Rattle.model.specs.declared.Completion.{Completion}
use Rattle.model.specs.Choice.{pick}
use Rattle.model.specs.Tables.{rows, keep, index_of}
use Rattle.model.specs.States.{load, records_in, completion_of, record_row, records_start}
use Rattle.model_laws.proofs.Tables.{length-rows, rows_append}
use Rattle.model_laws.proofs.Searches.{index_most}
use Rattle.state_rows.proofs.Access.{records-count}
use Rattle.state_records.specs.Rules.{front}
use Rattle.state_records.proofs.Search.{all_records}

module _ {A : Type 0} (t : A → Bool) where
  pub front-most : (rs : List A) → front t rs ≤ length rs
  unfolding front
  front-most rs = index_most (λ r. not (t r)) rs

  pub front-keep : (rs : List A) → keep t (take (front t rs) rs) ≡ take (front t rs) rs
  unfolding front index_of keep
  front-keep [] = refl
  front-keep (r ∷ rs) = go (t r) refl (front-keep rs)
    where
      go : (b : Bool) → t r ≡ b → keep t (take (front t rs) rs) ≡ take (front t rs) rs → keep t (take (pick (not b) 0 (suc (front t rs))) (r ∷ rs)) ≡ take (pick (not b) 0 (suc (front t rs))) (r ∷ rs)
      go true e h = rw (e, h)
      go false e h = refl

take-rows : {A : Type 0} (dec : List ℕ → A) (w m n : ℕ) (s : List ℕ) → m ≤ n → take m (rows dec w n s) ≡ rows dec w m s
take-rows dec w m n s h =
    let e : n ≡ m + (n - m) = omega arith in
    rw (e, rows_append dec w m (n - m) s) (take_at (rows dec w m s) (rows dec w (n - m) (drop (w * m) s)) m (length-rows dec w m s))

pub front-rows : (t : Completion → Bool) (s : List ℕ) {k : ℕ} → k ≡ front t (load s).records → keep t (rows completion_of record_row k (drop records_start s)) ≡ rows completion_of record_row k
    (drop records_start s)
front-rows t s {k} e =
    let few : k ≤ records_in s = omega (arith, front-most t (load s).records, records-count s) in
    let all : take k (load s).records ≡ rows completion_of record_row k (drop records_start s) =
    rw (all_records s (records_in s) refl) (take-rows completion_of record_row k (records_in s) (drop records_start s) few) in
    rw (← all, e) (front-keep t (load s).records)
