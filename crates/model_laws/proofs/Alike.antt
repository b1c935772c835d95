-- Bytes behind the last completion record are no part of a state.
--     front-load, front-sound     a buffer that begins as a sound one does, up to its last completion record, holds its state
--     count-alike, alike-back     buffers alike: their number of completion records; the other way round
--     load-alike, sound-alike     they hold one state, or none of them a sound one
--     stored-alike                one state stored in both
-- Assumes nothing.
use Prim.Native.Nat.{ℕ, ◌+◌, ◌≤◌}
use mathlib.Core.Path.{◌≡◌, refl, sym, ap, ◌∙◌}
use mathlib.Core.Bool.{Bool, true, false}
use mathlib.Core.List.{List, ◌++◌}
use native.Mathlib.Omega.{arith}
use lib.ListN.{length, take, drop, take-append-drop}
use Rattle.model.specs.Numbers.{le32_at}
use Rattle.model.specs.Tables.{written}
use Rattle.model.specs.States.{State, record_row, records_start, state_end, records_end, records_in, completion_of, load, state_bytes, sound}
use Rattle.model.specs.Operations.{stored}
use Rattle.model_laws.specs.Bytes.{Bytes}
use Rattle.model_laws.specs.Fits.{StateFits}
use Rattle.model_laws.specs.Alike.{Alike}
use Rattle.model_laws.proofs.Numbers.{le32-take}
use Rattle.model_laws.proofs.Written.{length-written, take-written-run}
use Rattle.model_laws.proofs.Tables.{length-rows}
use Rattle.model_laws.proofs.States.{state-length, state-within, load-back, state-again, load-front, sound-front, sound-is, load_fits}

records-number : (s : List ℕ) → length (load s).records ≡ records_in s
unfolding load
records-number s = length-rows completion_of record_row (records_in s) (drop records_start s)

module _ (s t : List ℕ) (b : Bytes s) (h : sound s ≡ true) (p : take (records_end (records_in s)) t ≡ take (records_end (records_in s)) s) where
  opens : t ≡ state_bytes (load s) ++ drop (records_end (records_in s)) t
  opens =
      let n : ℕ = records_end (records_in s) in
      sym (take-append-drop n t) ∙ ap (λ (x : List ℕ). x ++ drop n t) (p ∙ sym (state-again s b (sound-is s h)))

  pub front-load : load t ≡ load s
  front-load = ap load opens ∙ load-front (load s) (load_fits s b (sound-is s h)) (drop (records_end (records_in s)) t)

  pub front-sound : state_end ≤ length t → sound t ≡ true
  front-sound l =
      ap sound opens
      ∙ sound-front (load s) (load_fits s b (sound-is s h)) (drop (records_end (records_in s)) t) (omega (arith, ap length opens)) (sound-is s h).state

module _ (s t : List ℕ) (a : Alike s t) where
  pub count-alike : records_in t ≡ records_in s
  unfolding records_in
  count-alike =
      let n : ℕ = records_end (records_in s) in
      sym (le32-take n t 16 (omega arith)) ∙ ap (λ (x : List ℕ). le32_at x 16) a.front ∙ le32-take n s 16 (omega arith)

  pub alike-back : Alike t s
  alike-back = record { long = sym a.long; front = ap (λ (n : ℕ). take (records_end n) s) count-alike ∙ sym a.front ∙ ap (λ (n : ℕ). take (records_end n) t) (sym count-alike) }

  pub load-alike : Bytes s → sound s ≡ true → load t ≡ load s
  load-alike b h = front-load s t b h a.front

  sound_on : Bytes s → sound s ≡ true → sound t ≡ true
  sound_on b h = front-sound s t b h a.front (omega (arith, a.long, (sound-is s h).long))

pub sound-alike : (s t : List ℕ) → Alike s t → Bytes s → Bytes t → sound t ≡ sound s
sound-alike s t a b c = go (sound s) (sound t) refl refl
  where
    go : (x y : Bool) → sound s ≡ x → sound t ≡ y → y ≡ x
    go true y p q = sym q ∙ sound_on s t a b p
    go false true p q = sym (sym p ∙ sound_on t s (alike-back s t a) c q)
    go false false p q = refl

-- one state stored in both
pub stored-alike : (s t : List ℕ) (st : State) → StateFits st → state_end ≤ length s → length t ≡ length s → Alike (stored s st) (stored t st)
unfolding stored
stored-alike s t st f l e =
    let bs : List ℕ = state_bytes st in
    let count : records_in (written s 0 bs) ≡ length st.records = sym (records-number (written s 0 bs)) ∙ ap (λ (x : State). length x.records) (load-back st f s l) in
    let n : records_end (records_in (written s 0 bs)) ≡ 0 + length bs = omega (arith, count, state-length st f) in
    let front : (x : List ℕ) → state_end ≤ length x → take (records_end (records_in (written s 0 bs))) (written x 0 bs) ≡ bs =
    λ (x : List ℕ) (k : state_end ≤ length x). ap (λ (j : ℕ). take j (written x 0 bs)) n ∙ take-written-run x 0 bs (omega (arith, state-within st f)) in
    record { long = length-written t 0 bs ∙ e ∙ sym (length-written s 0 bs); front = front t (omega arith) ∙ sym (front s l) }
