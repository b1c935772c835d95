-- Whole changes of the completion records' table: its rows, then its count. What lies past the last row is kept.
--     records_added     rows behind the others; record-added: one
--     records-kept      some of the rows
-- Assumes nothing.
use Prim.Native.Nat.{ℕ, ◌+◌, ◌*◌, ◌≤◌, ◌<◌}
use mathlib.Core.Path.{◌≡◌, refl, ap, ◌∙◌}
use mathlib.Core.List.{List, [], ◌∷◌, ◌++◌}
use native.Mathlib.Omega.{arith}
use lib.ListN.{length, take}
use lib.Seq.{take-length}
use Rattle.model.specs.declared.Completion.{Completion}
use Rattle.model.specs.Numbers.{le32}
use Rattle.model.specs.Tables.{bytes_of, written}
use Rattle.model.specs.States.{load, completion_bytes, records_start, record_row}
use Rattle.model.specs.Limits.{record_count}
use Rattle.model.specs.Operations.{stored}
use Rattle.model_laws.specs.Layout.{with_records}
use Rattle.model_laws.proofs.Tables.{bytes_of-one}
use Rattle.model_laws.proofs.Stores.{records-replaced}
use Rattle.state_rows.specs.Canonical.{Canonical}

module _ (s : List ℕ) (w : Canonical s) where
  abbrev rs : List Completion
  rs = (load s).records

  -- the rows from index i on replaced
  replaced : (i : ℕ) (us : List Completion) {j : ℕ} → i ≤ length rs → j ≡ i + length us
      → written (written s (records_start + record_row * i) (bytes_of completion_bytes us)) 16 (le32 j) ≡ stored s (with_records (take i rs ++ us) (load s))
  unfolding stored
  replaced i us h e = rw e (records-replaced s (load s) w.fits w.same i us h)

  pub records_added : (us : List Completion) {n j : ℕ} → n ≡ length rs → j ≡ n + length us → j ≤ record_count
      → written (written s (records_start + record_row * n) (bytes_of completion_bytes us)) 16 (le32 j) ≡ stored s (with_records (rs ++ us) (load s))
  records_added us {n} p q h = replaced n us (omega arith) q ∙ ap (λ (x : List Completion). stored s (with_records (x ++ us) (load s))) (ap (λ (k : ℕ). take k rs) p ∙ take-length rs)

  pub record_added : (r : Completion) {n : ℕ} → n ≡ length rs → length rs < record_count
      → written (written s (records_start + record_row * n) (completion_bytes r)) 16 (le32 (n + 1)) ≡ stored s (with_records (rs ++ (r ∷ [])) (load s))
  record_added r {n} p h = rw (← bytes_of-one completion_bytes r) (records_added (r ∷ []) p refl (omega arith))

  pub records-kept : (ks : List Completion) {n j : ℕ} → n ≡ length rs → j ≡ length ks → j ≤ n
      → written (written s records_start (bytes_of completion_bytes ks)) 16 (le32 j) ≡ stored s (with_records ks (load s))
  records-kept ks {n} {j} p q h = replaced 0 ks (omega arith) (omega arith)
