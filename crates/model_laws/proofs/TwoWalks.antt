-- Recovery in two walks is what it was in one.
--     entries-same                  the records between the ends are those that one walk reads
--     recovered_on_lem                  replayed on any state
--     recovered-same, recover-same     on every log, the same state; and the same answer, with the same bytes in every lent slice
--     entries-last                  the last end is that of the last entry
--     whole-alike                   the first walk sees the head, kinds and image lengths alone
-- Assumes nothing.
use Prim.Native.Nat.{ℕ, zero, suc, ◌+◌}
use mathlib.Core.Path.{◌≡◌, refl, sym, ap, ◌∙◌}
use mathlib.Core.Bool.{Bool, true, false}
use mathlib.Core.List.{List, [], ◌∷◌}
use mathlib.Core.Option.{Option, none, some}
use native.Mathlib.Omega.{arith}
use lib.ListN.{length, drop, length-drop}
use lib.Seq.{drop-drop}
use Rattle.model.specs.declared.PlanEntry.{PlanEntry}
use Rattle.model.specs.Limits.{head_size}
use Rattle.model.specs.Plan.{plan_ok, plan_of}
use Rattle.model.specs.Logs.{LogRecord, Entry, Extent, off, cut, spans, head_ok, head_server, extent_of, record_at, walk_ends, ends_of, last_of, whole_end, entries_to}
use Rattle.model.specs.States.{State}
use Rattle.model.specs.Apply.{founded}
use Rattle.model.specs.Operations.{left_unless, recovered_all, recovered_on, recovered_state, recover_refusal, settle_recovered, recover_of}
use Rattle.model_laws.specs.Heads.{SameHeads}
use Rattle.model_laws.specs.Fits.{last_end}
use Rattle.model_laws.specs.OneWalk.{walk, entries_of, state_by_one_walk, recover_by_one_walk}
use Rattle.model_laws.proofs.Logs.{step_walk, step_record, step_extent, walk-cons}
use Rattle.model_laws.proofs.Ends.{join_end, on_extent, ends_cons, ends_step, ends_alike}

module _ (log : List ℕ) where
  -- the records between the ends, where these were found
  read_to : ℕ → Option (List ℕ) → Option (List Entry)
  read_to k w = elim w [ none ↦ none | some es ↦ entries_to log k es ]

  read_join : (k end : ℕ) (w : Option (List ℕ)) → read_to k (join_end end w) ≡ step_record end (record_at (drop k log)) (read_to end w)
  unfolding read_to join_end step_record step_walk entries_to
  read_join k end none = go (record_at (drop k log))
    where
      go : (o : Option LogRecord) → none ≡ step_record end o none
      go none = refl
      go (some r) = refl
  read_join k end (some es) = refl

  module _ (n : ℕ) (below : (k : ℕ) (s : List ℕ) → s ≡ drop k log → read_to k (walk_ends n k s) ≡ walk n k s) where
    same_extent : (k b : ℕ) (s : List ℕ) → b ∷ s ≡ drop k log → (x : Extent) → extent_of (b ∷ s) ≡ x → read_to k (walk_ends (suc n) k (b ∷ s)) ≡ step_extent n k (b ∷ s) x
    unfolding read_to step_extent on_extent entries_to
    same_extent k b s h off e = ap (read_to k) (ends_step n k b s e)
    same_extent k b s h cut e = ap (read_to k) (ends_step n k b s e)
    same_extent k b s h (spans m) e =
        ap (read_to k) (ends_cons n k b s m e)
        ∙ read_join k (k + m) (walk_ends n (k + m) (drop m (b ∷ s)))
        ∙ ap (λ (x : List ℕ). step_record (k + m) (record_at x) (read_to (k + m) (walk_ends n (k + m) (drop m (b ∷ s))))) (sym h)
        ∙ ap (step_record (k + m) (record_at (b ∷ s))) (below (k + m) (drop m (b ∷ s)) (ap (drop m) h ∙ drop-drop m k log))

    same_next : (k : ℕ) (s : List ℕ) → s ≡ drop k log → read_to k (walk_ends (suc n) k s) ≡ walk (suc n) k s
    unfolding read_to walk_ends walk entries_to
    same_next k [] h = refl
    same_next k (b ∷ s) h = same_extent k b s h (extent_of (b ∷ s)) refl ∙ sym (walk-cons n k b s)

  walk_same : (n k : ℕ) (s : List ℕ) → s ≡ drop k log → read_to k (walk_ends n k s) ≡ walk n k s
  unfolding read_to walk_ends walk entries_to
  walk_same zero k s h = refl
  walk_same (suc n) k s h = same_next n (walk_same n) k s h

  pub entries-same : (es : List ℕ) → walk_ends (length log) head_size (drop head_size log) ≡ some es → entries_to log head_size es ≡ entries_of log
  unfolding read_to entries_of
  entries-same es e = sym (ap (read_to head_size) e) ∙ walk_same (length log) head_size (drop head_size log) refl

  -- an entry before the others
  last_step : (k end : ℕ) (es : List ℕ) (xs : List Entry) (o : Option LogRecord) (w : Option (List Entry)) → ((ys : List Entry) → w ≡ some ys → last_of end es ≡ last_end end ys)
      → step_record end o w ≡ some xs → last_of end es ≡ last_end k xs
  unfolding step_record step_walk last_end
  last_step k end es xs none w h e = let z : ◌≡◌ {A = ℕ} 0 1 = cc in absurd (omega arith)
  last_step k end es xs (some r) none h e = let z : ◌≡◌ {A = ℕ} 0 1 = cc in absurd (omega arith)
  last_step k end es xs (some r) (some ys) h e =
      let q : record { item = r; end = end } ∷ ys ≡ xs = cc in
      h ys refl ∙ ap (last_end k) q

  pub entries-last : (k : ℕ) (es : List ℕ) (xs : List Entry) → entries_to log k es ≡ some xs → last_of k es ≡ last_end k xs
  unfolding entries_to last_of last_end step_record step_walk
  entries-last k [] xs e = let q : [] ≡ xs = cc in ap (last_end k) q
  entries-last k (end ∷ es) xs e = last_step k end es xs (record_at (drop k log)) (entries_to log end es) (λ ys. entries-last end es ys) e

  replayed_read : (st : State) (w : Option (List ℕ)) → elim w [ none ↦ none | some es ↦ recovered_all st (entries_to log head_size es) ] ≡ recovered_all st (read_to head_size w)
  unfolding read_to recovered_all
  replayed_read st none = refl
  replayed_read st (some es) = refl

  pub recovered_on_lem : (st : State) → head_ok log ≡ true → recovered_on st log ≡ recovered_all st (entries_of log)
  unfolding recovered_on ends_of entries_of
  recovered_on_lem st k =
      rw (k, recovered_on, ends_of) (replayed_read st (walk_ends (length log) head_size (drop head_size log)) ∙ ap (recovered_all st) (walk_same (length log) head_size (drop head_size log) refl))

  pub recovered-off : (st : State) → head_ok log ≡ false → recovered_on st log ≡ none
  unfolding recovered_on ends_of
  recovered-off st k = rw (k, recovered_on, ends_of)

  pub recovered-same : (plan : List PlanEntry) → recovered_state plan log ≡ state_by_one_walk plan log
  unfolding recovered_state state_by_one_walk
  recovered-same plan = go (head_ok log) refl
    where
      go : (b : Bool) → head_ok log ≡ b
          → recovered_on (founded plan (head_server log)) log ≡ elim b [ true ↦ recovered_all (founded plan (head_server log)) (entries_of log) | false ↦ none ]
      go true k = recovered_on_lem (founded plan (head_server log)) k
      go false k = recovered-off (founded plan (head_server log)) k

pub recover-same : (state log plan : List ℕ) → recover_of state log plan ≡ recover_by_one_walk state log plan
unfolding recover_of recover_by_one_walk
recover-same state log plan =
    ap (λ (x : Option State). left_unless (recover_refusal (length state) (plan_ok plan)) state log (settle_recovered state log x)) (recovered-same log (plan_of plan))

-- the first walk's answer, by the head's test and the ends found
answered : Bool → Option (List ℕ) → Option ℕ
answered b w = let o : Option (List ℕ) = elim b [ true ↦ w | false ↦ none ] in elim o [ none ↦ none | some es ↦ some (last_of head_size es) ]

-- two logs of one length, with good heads or bad ones, with the same kinds and image lengths: the first walk cannot tell them apart
pub whole-alike : (log t : List ℕ) → length log ≡ length t → head_ok log ≡ head_ok t → SameHeads (length log) (drop head_size log) (drop head_size t)
    → whole_end log ≡ whole_end t
unfolding whole_end ends_of answered
whole-alike log t l k h =
    let w : Option (List ℕ) = walk_ends (length log) head_size (drop head_size log) in
    let d : length (drop head_size log) ≡ length (drop head_size t) = omega (arith, length-drop head_size log, length-drop head_size t) in
    ap (λ (b : Bool). answered b w) k
    ∙ ap (answered (head_ok t)) (ends_alike (length log) head_size (drop head_size log) (drop head_size t) d h ∙ ap (λ (n : ℕ). walk_ends n head_size (drop head_size t)) l)
