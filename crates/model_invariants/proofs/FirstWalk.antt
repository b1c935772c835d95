-- What the first walk's answer is worth: a log that it refuses is not recovered, and a recovered log has the length that it gives.
--     walk_refused            14 of the first walk is 14 of recovery
--     recovered-length        the recovered length is the first walk's answer
--     end_refused, recovered-end     both of the operation
--     logged-end, crash-end   over a log that a server wrote, with an incomplete record behind it or none; and over what a crash left of it
-- Assumes nothing.
use Prim.Native.Nat.{ℕ, ◌≤◌}
use mathlib.Core.Path.{◌≡◌, refl, sym, ap, ◌∙◌}
use mathlib.Core.List.{List, ◌++◌}
use mathlib.Core.Option.{Option, none, some}
use native.Mathlib.Omega.{arith}
use lib.ListN.{take}
use lib.Dec.{leb}
use Rattle.model.specs.declared.PlanEntry.{PlanEntry}
use Rattle.model.specs.declared.LogEnd.{LogEnd}
use Rattle.model.specs.Refusals.{bad_log, no_refusal}
use Rattle.model.specs.Limits.{head_size, last_server}
use Rattle.model.specs.Tables.{keep}
use Rattle.model.specs.Logs.{Entry, head_bytes, head_server, entries_bytes, ends_of, last_of, whole_end, entries_to}
use Rattle.model.specs.States.{State}
use Rattle.model.specs.Apply.{founded, replay_from}
use Rattle.model.specs.Operations.{recovered_all, recovered_on, recovered_state, log_end_of}
use Rattle.model_laws.specs.Fits.{last_end, Incomplete}
use Rattle.model_laws.proofs.TwoWalks.{entries-last}
use Rattle.model_invariants.specs.History.{Start, DecidedFrom}
use Rattle.model_invariants.proofs.Recovery.{recovered-replay}
use Rattle.model_invariants.proofs.Crash.{from_end, replay-end, log-recovers, head-recovers, crash-state, decided-cut}

last_found : Option (List ℕ) → Option ℕ
last_found w = elim w [ none ↦ none | some es ↦ some (last_of head_size es) ]

module _ (log : List ℕ) (st : State) where
  -- the second walk, by what the first one found
  found : Option (List ℕ) → Option State
  found w = elim w [ none ↦ none | some es ↦ recovered_all st (entries_to log head_size es) ]

  pub walk_refused : whole_end log ≡ none → recovered_on st log ≡ none
  unfolding whole_end recovered_on last_found found
  walk_refused h = go (ends_of log) h
    where
      go : (w : Option (List ℕ)) → last_found w ≡ none → found w ≡ none
      go none e = refl
      go (some es) e = let z : ◌≡◌ {A = ℕ} 0 1 = cc in absurd (omega arith)

  pub recovered-length : (now : State) → st.size ≡ head_size → recovered_on st log ≡ some now → whole_end log ≡ some now.size
  unfolding whole_end recovered_on recovered_all last_found found
  recovered-length now z h = go (ends_of log) h
    where
      read : (es : List ℕ) (o : Option (List Entry)) → entries_to log head_size es ≡ o → recovered_all st o ≡ some now → last_of head_size es ≡ now.size
      read es none e r = let y : ◌≡◌ {A = ℕ} 0 1 = cc in absurd (omega arith)
      read es (some xs) e r =
          entries-last log head_size es xs e ∙ ap (λ (k : ℕ). last_end k xs) (sym z) ∙ sym (from_end st xs) ∙ ap (λ (x : State). x.size) (sym (recovered-replay st now xs r))

      go : (w : Option (List ℕ)) → found w ≡ some now → last_found w ≡ some now.size
      go none e = let y : ◌≡◌ {A = ℕ} 0 1 = cc in absurd (omega arith)
      go (some es) e = ap some (read es (entries_to log head_size es) refl e)

module _ (log : List ℕ) where
  answers : Option ℕ → LogEnd
  answers w = elim w [ none ↦ record { refusal = bad_log; end = 0 } | some e ↦ record { refusal = no_refusal; end = e } ]

  pub end_refused : (plan : List PlanEntry) → ((log_end_of log).refusal ≡ no_refusal → ⊥) → recovered_state plan log ≡ none
  unfolding recovered_state log_end_of answers
  end_refused plan h = go (whole_end log) refl h
    where
      go : (w : Option ℕ) → whole_end log ≡ w → ((answers w).refusal ≡ no_refusal → ⊥) → recovered_on (founded plan (head_server log)) log ≡ none
      go none e n = walk_refused log (founded plan (head_server log)) e
      go (some k) e n = absurd (n refl)

  pub recovered-end : (plan : List PlanEntry) (now : State) → recovered_state plan log ≡ some now → log_end_of log ≡ record { refusal = no_refusal; end = now.size }
  unfolding recovered_state log_end_of answers founded
  recovered-end plan now h = ap answers (recovered-length log (founded plan (head_server log)) now refl h)

module _ (plan : List PlanEntry) (n : ℕ) (s : Start (founded plan n)) (h : n ≤ last_server) (es : List Entry) (d : DecidedFrom (founded plan n) es) where
  -- by a recovery that succeeds
  by_recovery : (log : List ℕ) (xs : List Entry) → DecidedFrom (founded plan n) xs → recovered_state plan log ≡ some (replay_from (founded plan n) xs)
      → whole_end log ≡ some (last_end head_size xs)
  unfolding recovered_state founded
  by_recovery log xs x r = recovered-length log (founded plan _) (replay_from (founded plan n) xs) refl r ∙ ap some (replay-end s xs)

  pub logged-end : (rest : List ℕ) → Incomplete rest → whole_end (head_bytes n ++ (entries_bytes es ++ rest)) ≡ some (last_end head_size es)
  logged-end rest i = by_recovery (head_bytes n ++ (entries_bytes es ++ rest)) es d (head-recovers plan n (entries_bytes es ++ rest) h ∙ log-recovers s n es rest d i)

  pub crash-end : (c : ℕ) → head_size ≤ c → whole_end (take c (head_bytes n ++ entries_bytes es)) ≡ some (last_end head_size (keep (λ (e : Entry). leb e.end c) es))
  crash-end c l = by_recovery (take c (head_bytes n ++ entries_bytes es)) (keep (λ (e : Entry). leb e.end c) es) (decided-cut s c es d) (crash-state plan n s h es c d l)
