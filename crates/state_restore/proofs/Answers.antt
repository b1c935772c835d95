-- What restoring answers.
--     restored_no, restored_as      off its layout; restored, with the state's own test
--     restored-none, restored-some  what it tells a caller
-- Assumes nothing.
use Prim.Native.Nat.{ℕ, ◌-◌, ◌*◌}
use mathlib.Core.Path.{◌≡◌, sym, ap, ◌∙◌}
use mathlib.Core.Bool.{Bool, true, false, not}
use mathlib.Core.List.{List}
use mathlib.Core.Option.{none, some}
use native.Mathlib.Omega.{arith}
use lib.ListN.{length, take, drop, replicate, length-append, length-replicate}
use lib.Seq.{take_at}
use borrow.Author.Tests.{not-true, not-false}
use Rattle.model.specs.Limits.{record_count}
use Rattle.model.specs.Tables.{written}
use Rattle.model.specs.States.{load, record_row, state_end, records_end, records_in, sound}
use Rattle.model.specs.Checkpoints.{records_of, restored_bytes, restored, checkpoint_framed, checkpoint_state}
use Rattle.model_laws.specs.Bytes.{Bytes}
use Rattle.model_laws.specs.Alike.{Alike}
use Rattle.model_laws.proofs.Written.{length-written, written-front}
use Rattle.model_laws.proofs.Checkpoints.{Framed, framed_is}
use Rattle.model_laws.proofs.Restored.{restored-fit, restored-long, restored-records}
use Rattle.model_laws.proofs.Alike.{load-alike, sound-alike}
use Rattle.state_restore.specs.Restored.{state_in, RestoredBy}

module _ (t : List ℕ) {u : Bool} (p : u ≡ checkpoint_framed t) where
  pub restored_no : (s : List ℕ) → not u ≡ true → RestoredBy t s false
  unfolding state_in checkpoint_state
  restored_no s q = record { state = rw (← p, not-true u q); sound = λ (e : false ≡ true). let z : ◌≡◌ {A = ℕ} 0 1 = cc in absurd (omega arith) }

  module _ (q : not u ≡ false) where
    d : Framed t
    d = framed_is t (sym p ∙ not-false u q)

    -- whatever the buffer held
    restored_in : (s : List ℕ) → length s ≡ state_end → Alike (restored t) (written s 0 (restored_bytes t))
    unfolding restored
    restored_in s l =
        let bs : List ℕ = restored_bytes t in
        let n : ℕ = records_end (records_in (restored t)) in
        let k : ℕ = record_row * (record_count - records_of t) in
        let size : n ≡ length bs = omega (arith, restored-records t d, d.few_records, restored-long t d, length-append bs (replicate k 0), length-replicate {A = ℕ} k 0) in
        record {
          long = length-written s 0 bs ∙ l ∙ sym (restored-long t d);
          front =
              ap (λ (x : List ℕ). take n x) (written-front s bs (omega (arith, d.few_records, restored-records t d)))
              ∙ take_at bs (drop (length bs) s) n (sym size)
              ∙ sym (take_at bs (replicate k 0) n (sym size));
        }

    pub restored_as : Bytes t → (s : List ℕ) {s' : List ℕ} {r : Bool} → length s ≡ state_end → s' ≡ written s 0 (restored_bytes t) → Bytes s' → r ≡ sound s' → RestoredBy t s' r
    unfolding state_in checkpoint_state
    restored_as h s {s'} {r} l e b f =
        let a : Alike (restored t) s' = rw e (restored_in s l) in
        let g : r ≡ sound (restored t) = f ∙ sound-alike (restored t) s' a (restored-fit t h) b in
        record { state = by a r g; sound = λ (y : r ≡ true). sym f ∙ y }
      where
        by : Alike (restored t) s' → (x : Bool) → x ≡ sound (restored t) → state_in x s' ≡ checkpoint_state t
        by a true g = ap some (load-alike (restored t) s' a (restored-fit t h) (sym g)) ∙ rw (← p, not-false u q, ← g)
        by a false g = rw (← p, not-false u q, ← g)

-- ---- for a caller

module _ {t s : List ℕ} {r : Bool} (w : RestoredBy t s r) where
  pub restored-none : r ≡ false → checkpoint_state t ≡ none
  unfolding state_in
  restored-none e = sym (rw e at w.state)

  pub restored-some : r ≡ true → checkpoint_state t ≡ some (load s)
  unfolding state_in
  restored-some e = sym (rw e at w.state)
