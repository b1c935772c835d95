-- Rows gathered in a table: those of a list that a test keeps, stored one after the other.
--     gathered_start, gathered_next     the loop
--     gathered_few                      at most as many as there were
--     floors-kept, clients-kept         stores in the completion records' table leave the clients' as it was
-- Assumes nothing.
use Prim.Native.Nat.{ℕ, ◌+◌, ◌*◌, ◌≤◌}
use mathlib.Core.Path.{◌≡◌, refl, sym, ap}
use mathlib.Core.Bool.{Bool, true, false}
use mathlib.Core.List.{List, [], ◌∷◌, ◌++◌}
use native.Mathlib.Omega.{arith}
use native.Mathlib.Nat.{add-zero, mul-add}
use lib.ListN.{length, length-append}
use Rattle.model.specs.Choice.{pick}
use Rattle.model.specs.Limits.{client_count}
use Rattle.model.specs.Tables.{bytes_of, keep, written}
use Rattle.model.specs.States.{load, clients_in, floors_start, records_start}
use Rattle.model_laws.specs.Codec.{Codec}
use Rattle.model_laws.proofs.Written.{length-written, written_none, written-append, le32-written-below}
use Rattle.model_laws.proofs.Tables.{bytes_of-append, bytes_of-one, length-bytes_of, keep_yes, keep_no, length-keep, rows-written-below}
use Rattle.model_laws.proofs.Images.{floor_codec}

module _ {A : Type 0} (C : Codec A) (t : A → Bool) where
  -- of the list us, those that t keeps stand from row b on of the table at k; j is the row behind them
  pub record Gathered (k b : ℕ) (s₀ : List ℕ) (us : List A) (s : List ℕ) (j : ℕ) : Type 0 where
    pub same : length s ≡ length s₀
    pub count : j ≡ b + length (keep t us)
    pub bytes : s ≡ written s₀ (k + C.width * b) (bytes_of C.enc (keep t us))

  pub gathered_start : (k b : ℕ) (s : List ℕ) → Gathered k b s [] s b
  unfolding keep bytes_of
  gathered_start k b s = record { same = refl; count = sym (add-zero b); bytes = sym (written_none s (k + C.width * b)) }

  module _ {k b : ℕ} {s₀ : List ℕ} {us : List A} {s : List ℕ} {j : ℕ} (o : Gathered k b s₀ us s j) where
    gathered_yes : (u : A) → t u ≡ true → Gathered k b s₀ (us ++ (u ∷ [])) (written s (k + C.width * j) (C.enc u)) (j + 1)
    gathered_yes u e =
        let w : ℕ = C.width in
        let ks : List A = keep t us in
        let B : List ℕ = bytes_of C.enc ks in
        let place : k + w * j ≡ k + w * b + length B = rw (o.count, mul-add, length-bytes_of C ks) (omega arith) in
        record {
          same = rw length-written o.same;
          count = rw (keep_yes t us u e, length-append) (omega (arith, o.count));
          bytes =
              rw (place, keep_yes t us u e, bytes_of-append, bytes_of-one, written-append)
              (ap (λ (x : List ℕ). written x (k + w * b + length B) (C.enc u)) o.bytes);
        }

    gathered_no : (u : A) → t u ≡ false → Gathered k b s₀ (us ++ (u ∷ [])) s j
    gathered_no u e = record { same = o.same; count = rw (keep_no t us u e) o.count; bytes = rw (keep_no t us u e) o.bytes }

    pub gathered_next : (u : A) (v : Bool) → v ≡ t u → {s' : List ℕ} {j' : ℕ} → s' ≡ pick v (written s (k + C.width * j) (C.enc u)) s → j' ≡ pick v (j + 1) j
        → Gathered k b s₀ (us ++ (u ∷ [])) s' j'
    gathered_next u true e p q = rw (p, q) (gathered_yes u (sym e))
    gathered_next u false e p q = rw (p, q) (gathered_no u (sym e))

    pub gathered_few : j ≤ b + length us
    gathered_few = omega (arith, o.count, length-keep t us)

-- ---- the clients' table

pub clients-kept : (s : List ℕ) (i : ℕ) (vs : List ℕ) → clients_in (written s (records_start + i) vs) ≡ clients_in s
unfolding clients_in
clients-kept s i vs = le32-written-below s (records_start + i) vs 12 (omega arith)

pub floors-kept : (s : List ℕ) (i : ℕ) (vs : List ℕ) → clients_in s ≤ client_count → (load (written s (records_start + i) vs)).floors ≡ (load s).floors
unfolding load
floors-kept s i vs h = rw (clients-kept s i vs) (rows-written-below floor_codec s (records_start + i) vs floors_start (clients_in s) (omega arith))

-- ---- zeros stored one by one
