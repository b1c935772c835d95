-- Recovery of what operations logged.
--     from_next, replay-next          the replay with one more record
--     recovers, recovers_prefix       a decided log, and every prefix of it, is recovered as its replay, which is sound
--     recovered-replay                what recovery gives is the replay
--     recovered-sound                 and is sound, for every chain of well-formed records
-- Assumes nothing.
use Prim.Native.Nat.{ℕ, ◌+◌}
use mathlib.Core.Path.{◌≡◌, refl, sym, ap, ◌∙◌, subst}
use mathlib.Core.Bool.{Bool, true, false}
use mathlib.Core.List.{List, [], ◌∷◌, ◌++◌}
use mathlib.Core.Option.{none, some}
use native.Mathlib.Omega.{arith}
use lib.ListN.{length, take, length-append}
use lib.Seq.{take-append-le, take_all, take-nil}
use lib.Dec.{leb}
use borrow.Author.Tests.{leb-true, leb-false}
use Rattle.model.specs.declared.PlanEntry.{PlanEntry}
use Rattle.model.specs.Logs.{LogRecord, executed, gone, gave, took, released, Entry, record_size}
use Rattle.model.specs.States.{State}
use Rattle.model.specs.Apply.{apply_record, apply_executed, apply_gone, apply_gave, apply_took, apply_released, apply, founded, replay_from, replay}
use Rattle.model.specs.Decisions.{follows}
use Rattle.model.specs.Operations.{recovered}
use Rattle.model_invariants.specs.Sound.{SoundBy}
use Rattle.model_invariants.specs.History
use Rattle.model_invariants.specs.History.{StartBy, entry_for, DecidedBy, next, Recovers, Chained}
use Rattle.model_invariants.proofs.Kept.{follows-sound, decided-follows, decided-sound}

-- ---- replay and recovery, record by record

pub from_next : (st : State) (es : List Entry) (e : Entry) → replay_from st (es ++ (e ∷ [])) ≡ apply (replay_from st es) e
unfolding replay_from
from_next st [] e = refl
from_next st (x ∷ es) e = from_next (apply st x) es e

pub replay-next : (plan : List PlanEntry) (n : ℕ) (es : List Entry) (e : Entry) → replay plan n (es ++ (e ∷ [])) ≡ apply (replay plan n es) e
unfolding replay
replay-next plan n es e = from_next (founded plan n) es e

recovered_yes : (st : State) (e : Entry) (es : List Entry) → follows st e.item ≡ true → recovered st (e ∷ es) ≡ recovered (apply st e) es
unfolding recovered
recovered_yes st e es h = rw (h, recovered)

recovered_no : (st : State) (e : Entry) (es : List Entry) → follows st e.item ≡ false → recovered st (e ∷ es) ≡ none
unfolding recovered
recovered_no st e es h = rw (h, recovered)

pub recovered-next : (st s : State) (es : List Entry) (e : Entry) → recovered st es ≡ some s → follows s e.item ≡ true
    → recovered st (es ++ (e ∷ [])) ≡ some (apply s e)
unfolding recovered
recovered-next st s [] e h f =
    let k : st ≡ s = cc in
    recovered_yes st e [] (subst (λ (x : State). follows x e.item ≡ true) (sym k) f) ∙ ap (λ (x : State). some (apply x e)) k
recovered-next st s (x ∷ es) e h f = go (follows st x.item) refl (recovered-next (apply st x) s es e)
  where
    go : (b : Bool) → follows st x.item ≡ b
        → (recovered (apply st x) es ≡ some s → follows s e.item ≡ true → recovered (apply st x) (es ++ (e ∷ [])) ≡ some (apply s e))
        → recovered st (x ∷ (es ++ (e ∷ []))) ≡ some (apply s e)
    go true q ih = recovered_yes st x (es ++ (e ∷ [])) q ∙ ih (sym (recovered_yes st x es q) ∙ h) f
    go false q ih =
        let n : none ≡ some s = sym (recovered_no st x es q) ∙ h in
        let z : ◌≡◌ {A = ℕ} 0 1 = cc in
        absurd (omega arith)

-- ---- a decided log

pub recovers : {P : ℕ → Type 0} {st : State} → StartBy P st → (es : List Entry) → DecidedBy P st es → Recovers P st es
unfolding replay_from recovered apply
recovers s es History.none = record { sound = s.sound; same = refl }
recovers {P} {st} s es' (next es free r d D z) =
    let now = replay_from st es in
    let R = recovers s es d in
    let e = entry_for now r in
    let k : replay_from st (es ++ (e ∷ [])) ≡ apply now e = from_next st es e in
    record {
      sound = subst (SoundBy P) (sym k) (decided-sound now free r R.sound D z);
      same = recovered-next st now es e R.same (decided-follows now free r R.sound D) ∙ ap some (sym k);
    }

pub decided_prefix : {P : ℕ → Type 0} {st : State} (es : List Entry) → DecidedBy P st es → (k : ℕ) → DecidedBy P st (take k es)
decided_prefix es History.none k = rw (take-nil k) History.none
decided_prefix {P} {st} es' (next es free r d D z) k = go (leb k (length es)) refl (decided_prefix es d k)
  where
    e : Entry
    e = entry_for (replay_from st es) r

    go : (b : Bool) → leb k (length es) ≡ b → DecidedBy P st (take k es) → DecidedBy P st (take k (es ++ (e ∷ [])))
    go true q ih = rw (take-append-le k es (e ∷ []) (leb-true _ _ q)) ih
    go false q ih = rw (take_all k (es ++ (e ∷ [])) (rw (length-append es (e ∷ [])) (omega (arith, leb-false k (length es) q)))) (next es free r d D z)

pub recovers_prefix : {P : ℕ → Type 0} {st : State} → StartBy P st → (es : List Entry) → DecidedBy P st es → (k : ℕ) → Recovers P st (take k es)
recovers_prefix s es d k = recovers s (take k es) (decided_prefix es d k)

-- ---- any log that recovery accepts

pub recovered-replay : (st s : State) (es : List Entry) → recovered st es ≡ some s → s ≡ replay_from st es
unfolding recovered replay_from
recovered-replay st s [] h = cc
recovered-replay st s (e ∷ es) h = go (follows st e.item) refl (recovered-replay (apply st e) s es)
  where
    go : (b : Bool) → follows st e.item ≡ b → (recovered (apply st e) es ≡ some s → s ≡ replay_from (apply st e) es) → s ≡ replay_from (apply st e) es
    go true q ih = ih (sym (recovered_yes st e es q) ∙ h)
    go false q ih =
        let n : none ≡ some s = sym (recovered_no st e es q) ∙ h in
        let z : ◌≡◌ {A = ℕ} 0 1 = cc in
        absurd (omega arith)

-- the log's length after a record
pub apply-size : (r : LogRecord) (end : ℕ) (st : State) → (apply_record r end st).size ≡ end
unfolding apply_record apply_executed apply_gone apply_gave apply_took apply_released
apply-size (executed x) end st = refl
apply-size (gone n) end st = refl
apply-size (gave g) end st = refl
apply-size (took i) end st = refl
apply-size (released r) end st = refl

pub recovered-sound : {P : ℕ → Type 0} (st s : State) (es : List Entry) → SoundBy P st → Chained P st.size es → recovered st es ≡ some s → SoundBy P s
unfolding recovered apply
recovered-sound {P} st s [] S c h = let k : st ≡ s = cc in subst (SoundBy P) k S
recovered-sound {P} st s (e ∷ es) S c h =
    go (follows st e.item) refl (recovered-sound (apply st e) s es)
  where
    go : (b : Bool) → follows st e.item ≡ b → (SoundBy P (apply st e) → Chained P (apply st e).size es → recovered (apply st e) es ≡ some s → SoundBy P s) → SoundBy P s
    go true q ih =
        let k : e.end ≡ st.size + record_size e.item = c.1 in
        let l : P (st.size + record_size e.item) = subst P k c.2 in
        let T : SoundBy P (apply_record e.item e.end st)
        = subst (λ (x : ℕ). SoundBy P (apply_record e.item x st)) (sym k) (follows-sound st e.item S c.0 q l) in
        ih T (subst (λ (x : ℕ). Chained P x es) (sym (apply-size e.item e.end st)) c.3) (sym (recovered_yes st e es q) ∙ h)
    go false q ih =
        let n : none ≡ some s = sym (recovered_no st e es q) ∙ h in
        let z : ◌≡◌ {A = ℕ} 0 1 = cc in
        absurd (omega arith)
