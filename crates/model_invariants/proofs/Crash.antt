-- Recovery from the bytes of a log.
--     replay-end              the recorded length of a replay
--     decided-from            the entries of a decided log follow each other
--     log-recovers            a decided log's bytes, with an incomplete record behind them or none, are recovered as its replay
--     decided-cut, crash-recovers     a crash that leaves c bytes leaves the replay of the records that end at or under c
--     head-recovers, crash-state      of a log since the founding
--     recovered-from, recovered-bytes     what recovery gives from any bytes is sound, also with the mark at its end
-- Assumes nothing.
use Prim.Native.Nat.{ℕ, ◌+◌, ◌-◌, ◌*◌, ◌≤◌, ◌<◌}
use mathlib.Core.Path.{◌≡◌, refl, sym, ap, ◌∙◌}
use mathlib.Core.Bool.{Bool, true, false}
use mathlib.Core.List.{List, [], ◌∷◌, ◌++◌}
use mathlib.Core.Option.{Option, none, some}
use native.Mathlib.Omega.{arith}
use lib.ListN.{length, take, drop, length-append, length-drop}
use lib.Seq.{take-append_seam, take-append-add}
use lib.Dec.{leb, ltb}
use Rattle.model.specs.declared.PlanEntry.{PlanEntry}
use Rattle.model.specs.Numbers.{word, zeros3_at, starts_with}
use Rattle.model.specs.Limits.{head_size, last_server}
use Rattle.model.specs.Tables.{keep}
use Rattle.model.specs.Logs.{log_magic, Entry, record_size, head_bytes, head_server, head_ok, entries_bytes}
use Rattle.model.specs.States.{State}
use Rattle.model.specs.Apply.{apply, founded, replay_from}
use Rattle.model.specs.Operations.{recovered_all, recovered_on, recovered_state}
use Rattle.model_laws.specs.Bytes.{Bytes}
use Rattle.model_laws.specs.OneWalk.{entries_of}
use Rattle.model_laws.specs.Fits.{EntryFrom, EntriesFrom, last_end, Incomplete, Walked}
use Rattle.model_laws.proofs.Reflects.{le, flag, facts}
use Rattle.model_laws.proofs.Logs.{head-server, head-back, head-length, entries-length, from-append, entries-back, entries-take, cut-split, entries_are}
use Rattle.model_laws.proofs.TwoWalks.{recovered_on_lem, recovered-off}
use Rattle.model_invariants.specs.Sound.{Sound}
use Rattle.model_invariants.specs.History
use Rattle.model_invariants.specs.History.{GoodPlan, StartBy, Start, entry_for, DecidedBy, DecidedFrom, next, RecoveredSound}
use Rattle.model_invariants.proofs.Steps.{sound-mark}
use Rattle.model_invariants.proofs.Kept.{founded-start, decided-good}
use Rattle.model_invariants.proofs.Recovery.{recovers, decided_prefix, recovered-replay, apply-size, recovered-sound}
use Rattle.model_invariants.proofs.Formats.{record-good, chained}

-- ---- ends

pub last-append : (k : ℕ) (es : List Entry) (e : Entry) → last_end k (es ++ (e ∷ [])) ≡ e.end
unfolding last_end
last-append k [] e = refl
last-append k (x ∷ es) e = last-append x.end es e

pub from_end : (st : State) (es : List Entry) → (replay_from st es).size ≡ last_end st.size es
unfolding replay_from last_end apply
from_end st [] = refl
from_end st (e ∷ es) = from_end (apply st e) es ∙ ap (λ (k : ℕ). last_end k es) (apply-size e.item e.end st)

module _ {P : ℕ → Type 0} {st : State} (s : StartBy P st) where
  pub replay-end : (es : List Entry) → (replay_from st es).size ≡ last_end head_size es
  replay-end es = from_end st es ∙ ap (λ (k : ℕ). last_end k es) s.empty

  pub decided-from : (es : List Entry) → DecidedBy P st es → EntriesFrom head_size es
  decided-from es History.none = tt
  decided-from es' (next es free r d D z) =
      let now = replay_from st es in
      let G = record-good r (decided-good now free r (recovers s es d).sound D) in
      let e = entry_for now r in
      let f : EntryFrom (last_end head_size es) e = record { ok = G.0; fits = G.1; end = ap (λ (k : ℕ). k + record_size r) (replay-end es) } in
      from-append head_size es (e ∷ []) (decided-from es d) (f, tt)

  -- ---- recovery of a decided log's bytes

  pub log-recovers : (n : ℕ) (es : List Entry) (rest : List ℕ) → DecidedBy P st es → Incomplete rest
      → recovered_all st (entries_of (head_bytes n ++ (entries_bytes es ++ rest))) ≡ some (replay_from st es)
  unfolding recovered_all
  log-recovers n es rest d i = rw (entries-back n es rest (decided-from es d) i) (recovers s es d).same

  -- the records that end at or under c are the first ones
  cut-take : (c k : ℕ) (es : List Entry) → EntriesFrom k es → keep (λ (e : Entry). leb e.end c) es ≡ take (length (keep (λ (e : Entry). leb e.end c) es)) es
  cut-take c k es f =
      let a : List Entry = keep (λ (e : Entry). leb e.end c) es in
      let b : List Entry = keep (λ (e : Entry). ltb c e.end) es in
      sym (take-append_seam a b) ∙ ap (λ (x : List Entry). take (length a) x) (cut-split c k es f)

  pub decided-cut : (c : ℕ) (es : List Entry) → DecidedBy P st es → DecidedBy P st (keep (λ (e : Entry). leb e.end c) es)
  decided-cut c es d = rw (cut-take c head_size es (decided-from es d)) (decided_prefix es d (length (keep (λ (e : Entry). leb e.end c) es)))

  pub crash-recovers : (n : ℕ) (es : List Entry) (c : ℕ) → DecidedBy P st es → head_size ≤ c
      → recovered_all st (entries_of (take c (head_bytes n ++ entries_bytes es))) ≡ some (replay_from st (keep (λ (e : Entry). leb e.end c) es))
  unfolding recovered_all
  crash-recovers n es c d l = rw (entries-take n es c (decided-from es d) l) (recovers s (keep (λ (x : Entry). leb x.end c) es) (decided-cut c es d)).same

-- ---- since the founding

-- a log with the head of server n
pub head-recovers : (plan : List PlanEntry) (n : ℕ) (rest : List ℕ) → n ≤ last_server
    → recovered_state plan (head_bytes n ++ rest) ≡ recovered_all (founded plan n) (entries_of (head_bytes n ++ rest))
unfolding recovered_state
head-recovers plan n rest h =
    let log : List ℕ = head_bytes n ++ rest in
    ap (λ (x : ℕ). recovered_on (founded plan x) log) (head-server n rest) ∙ recovered_on_lem log (founded plan n) (head-back n rest h)

-- what a crash keeps of it has that head
head-kept : (n : ℕ) (c : ℕ) (s : List ℕ) → head_size ≤ c → take c (head_bytes n ++ s) ≡ head_bytes n ++ take (c - head_size) s
unfolding head_bytes
head-kept n c s l = let e : head_size + (c - head_size) ≡ c = omega arith in ap (λ (x : ℕ). take x (head_bytes n ++ s)) (sym e) ∙ take-append-add (head_bytes n) s (c - head_size)

pub crash-state : (plan : List PlanEntry) (n : ℕ) → Start (founded plan n) → n ≤ last_server → (es : List Entry) (c : ℕ) → DecidedFrom (founded plan n) es → head_size ≤ c
    → recovered_state plan (take c (head_bytes n ++ entries_bytes es)) ≡ some (replay_from (founded plan n) (keep (λ (e : Entry). leb e.end c) es))
crash-state plan n s h es c d l =
    let k = head-kept n c (entries_bytes es) l in
    ap (recovered_state plan) k ∙ head-recovers plan n (take (c - head_size) (entries_bytes es)) h
    ∙ ap (λ (x : List ℕ). recovered_all (founded plan n) (entries_of x)) (sym k) ∙ crash-recovers s n es c d l

-- ---- recovery of any bytes

pub head-limit : (s : List ℕ) → head_ok s ≡ true → head_server s ≤ last_server
unfolding head_ok
head-limit s e = facts (le head_size (length s) ∷ flag (starts_with s log_magic) ∷ le (head_server s) last_server ∷ flag (zeros3_at s 5) ∷ []) e 2

walked_end : (s : List ℕ) (es : List Entry) → head_size ≤ length s → Walked head_size (drop head_size s) es → last_end head_size es ≤ length s
walked_end s es l w =
    let a = ap length w.split in
    omega (arith, simp length-append at a, length-drop head_size s, entries-length head_size es w.entries)

-- from any state that a log starts from
pub recovered-from : {st : State} → Start st → (log : List ℕ) (now : State) → head_size ≤ length log → Bytes log → length log < word * word
    → recovered_all st (entries_of log) ≡ some now → RecoveredSound log now
unfolding recovered_all
recovered-from {st} s log now l b z e = go (entries_of log) refl e
  where
    go : (o : Option (List Entry)) → entries_of log ≡ o → recovered_all st o ≡ some now → RecoveredSound log now
    go none c r = let y : ◌≡◌ {A = ℕ} 0 1 = cc in absurd (omega arith)
    go (some es) c r =
        let w = entries_are log es b c in
        let n : last_end head_size es ≤ length log = walked_end log es l w in
        let S : Sound now = recovered-sound st now es s.sound (rw s.empty (chained head_size es w.entries (omega arith))) r in
        let k : now.size ≡ last_end head_size es = ap (λ (x : State). x.size) (recovered-replay st now es r) ∙ replay-end s es in
        record { sound = S; within = omega arith; marked = sound-mark now now.size S S.mark (omega arith) }

pub recovered-bytes : (plan : List PlanEntry) (log : List ℕ) (st : State) → GoodPlan plan → Bytes log → length log < word * word
    → recovered_state plan log ≡ some st → RecoveredSound log st
unfolding recovered_state
recovered-bytes plan log st g b z e = go (head_ok log) refl
  where
    go : (a : Bool) → head_ok log ≡ a → RecoveredSound log st
    go true a =
        recovered-from (founded-start plan (head_server log) g (head-limit log a)) log st (head-length log a) b z (sym (recovered_on_lem log (founded plan (head_server log)) a) ∙ e)
    go false a =
        let n : none ≡ some st = sym (recovered-off log (founded plan (head_server log)) a) ∙ e in
        let y : ◌≡◌ {A = ℕ} 0 1 = cc in
        absurd (omega arith)
