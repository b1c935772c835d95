-- The first walk, record by record; what its answer says of the places between.
--     ends_from-cut, ends_from-off, ends_from-spans     one step of the walk from a place of the log
--     end-from-off, end-from-cut, end-from-spans     the same of its answer
--     means-spans, walked-off, walked-cut, walked_next     what the loop answers, and what it goes on with
--     log-end-off, log-end-from     the whole walk, by the test of the head
--     log-end-refused, log-end-head, log-end-found     what its answer says
--     whole_before, ends_reached, end_after     before the last end stands a whole record; there, none
-- Assumes nothing.
use Prim.Native.Nat.{ℕ, ◌+◌, ◌≤◌, ◌<◌}
use mathlib.Core.Path.{◌≡◌, refl, sym, ap, ◌∙◌}
use mathlib.Core.Bool.{Bool, true, false}
use mathlib.Core.List.{List, []}
use mathlib.Core.Option.{Option, none, some}
use native.Mathlib.Omega.{arith}
use borrow.Author.Tests.{leb-true, leb-false}
use lib.ListN.{length, drop, length-drop, drop_of_length-le}
use lib.Seq.{drop-drop}
use lib.Dec.{leb}
use Rattle.model.specs.declared.LogEnd.{LogEnd}
use Rattle.model.specs.Limits.{head_size}
use Rattle.model.specs.Refusals.{bad_log, no_refusal}
use Rattle.model.specs.Logs.{off, cut, spans, extent_of, head_ok, ends_of, whole_end, walk_ends, last_of}
use Rattle.model.specs.Logs.{Extent as LogExtent}
use Rattle.model.specs.Operations.{log_end_of}
use Rattle.model_laws.proofs.Tests.{choose, impossible}
use Rattle.model_laws.proofs.Ends.{spans-least, join_end, ends_none, ends_cut, ends_off, ends_whole, ends_behind}
use Rattle.format_log_ends.specs.declared.Extent.{Extent}
use Rattle.format_log_ends.specs.declared.Extent.TheVariants.{Off, Cut, Spans}
use Rattle.format_log_ends.specs.Answers.{extent_means, extent_from, WholeAt}
use Rattle.format_log_ends.specs.Walked.{ends_from, log_end, refused_end, end_at, end_by, end_from}
use Rattle.format_log_ends.proofs.Ends.{from-spans, spans-some}

-- ---- one record

module _ (log : List ℕ) (at : ℕ) where
  short-rest : length (drop at log) ≤ length log
  short-rest = omega (arith, length-drop at log)

  pub ends_from-cut : extent_from log at ≡ cut → ends_from log at ≡ some []
  unfolding extent_from
  ends_from-cut =
      choose (λ x. x ≡ cut → ends_from log at ≡ some []) (leb (length log) at)
      (λ t e. rw (drop_of_length-le log {i = at} (leb-true (length log) at t)) (ends_none (length log) at))
      (λ t e. ends_cut (length log) at (drop at log) e)

  pub ends_from-off : extent_from log at ≡ off → ends_from log at ≡ none
  unfolding extent_from
  ends_from-off =
      choose (λ x. x ≡ off → ends_from log at ≡ none) (leb (length log) at)
      (λ t e. impossible (cc))
      (λ t e. ends_off (length log) at (drop at log) (omega (arith, leb-false (length log) at t, length-drop at log)) short-rest e)

  pub ends_from-spans : (n : ℕ) → extent_from log at ≡ spans n → ends_from log at ≡ join_end (at + n) (ends_from log (at + n))
  ends_from-spans n e =
      let here : extent_of (drop at log) ≡ spans n = from-spans log at n e in
      ends_whole (length log) at n (drop at log) (spans-some (drop at log) n here) short-rest here
      ∙ ap (λ (s : List ℕ). join_end (at + n) (walk_ends (length log) (at + n) s)) (drop-drop n at log)

  pub end-from-off : extent_from log at ≡ off → end_from log at ≡ refused_end
  unfolding end_from end_by
  end-from-off e = ap (end_by at) (ends_from-off e)

  pub end-from-cut : extent_from log at ≡ cut → end_from log at ≡ end_at at
  unfolding end_from end_by last_of
  end-from-cut e = ap (end_by at) (ends_from-cut e)

  pub end-from-spans : (n : ℕ) → extent_from log at ≡ spans n → end_from log at ≡ end_from log (at + n)
  unfolding end_from end_by join_end last_of
  end-from-spans n e = ap (end_by at) (ends_from-spans n e) ∙ on (ends_from log (at + n))
    where
      on : (w : Option (List ℕ)) → end_by at (join_end (at + n) w) ≡ end_by (at + n) w
      on none = refl
      on (some es) = refl

-- ---- the loop: an extent was found at a place from which the answer is the same

module _ (log : List ℕ) (at : ℕ) {x : Extent} (m : extent_means x ≡ extent_from log at) where
  pub means-spans : {n : ℕ} → x ≡ Spans n → extent_from log at ≡ spans n
  unfolding extent_means
  means-spans e = sym m ∙ ap extent_means e

  module _ (o : end_from log head_size ≡ end_from log at) where
    pub walked-off : {r : LogEnd} → x ≡ Off → r ≡ refused_end → r ≡ end_from log head_size
    unfolding extent_means
    walked-off e q = q ∙ sym (o ∙ end-from-off log at (sym m ∙ ap extent_means e))

    pub walked-cut : {r : LogEnd} → x ≡ Cut → r ≡ end_at at → r ≡ end_from log head_size
    unfolding extent_means
    walked-cut e q = q ∙ sym (o ∙ end-from-cut log at (sym m ∙ ap extent_means e))

    pub walked_next : {n : ℕ} → x ≡ Spans n → end_from log head_size ≡ end_from log (at + n)
    walked_next {n} e = o ∙ end-from-spans log at n (means-spans e)

-- ---- the whole walk

log-end_by : (log : List ℕ) (w : Option (List ℕ)) → ends_of log ≡ w → log_end_of log ≡ end_by head_size w
unfolding log_end_of whole_end end_by
log-end_by log none e = rw (e, log_end_of, whole_end)
log-end_by log (some es) e = rw (e, log_end_of, whole_end)

pub log-end-off : (log : List ℕ) {r : LogEnd} → head_ok log ≡ false → r ≡ refused_end → r ≡ log_end_of log
unfolding ends_of end_by
log-end-off log h q = q ∙ sym (log-end_by log none (rw (h, ends_of)))

pub log-end-from : (log : List ℕ) {r : LogEnd} → head_ok log ≡ true → r ≡ end_from log head_size → r ≡ log_end_of log
unfolding ends_of end_from
log-end-from log h q = q ∙ sym (log-end_by log (ends_from log head_size) (rw (h, ends_of)))

-- ---- what its answer says

not-refused : {n : ℕ} → log_end bad_log 0 ≡ log_end no_refusal n → ⊥
not-refused e = let z : bad_log ≡ no_refusal = ap (λ (r : LogEnd). r.refusal) e in omega arith

module _ (log : List ℕ) {r : LogEnd} (e : r ≡ log_end_of log) where
  pub log-end-refused : (r.refusal ≡ no_refusal → ⊥) → ends_of log ≡ none
  unfolding end_by
  log-end-refused h = go (ends_of log) refl
    where
      go : (w : Option (List ℕ)) → ends_of log ≡ w → w ≡ none
      go none q = refl
      go (some es) q = absurd (h (ap (λ (x : LogEnd). x.refusal) (e ∙ log-end_by log (some es) q)))

  module _ (z : r.refusal ≡ no_refusal) where
    answered : log_end_of log ≡ end_at r.end
    answered = sym e ∙ ap (λ (n : ℕ). log_end n r.end) z

    pub log-end-head : head_ok log ≡ true
    log-end-head = go (head_ok log) refl
      where
        go : (b : Bool) → head_ok log ≡ b → b ≡ true
        go true h = refl
        go false h = absurd (not-refused (log-end-off log h refl ∙ answered))

    pub log-end-found : end_from log head_size ≡ end_at r.end
    log-end-found = log-end-from log log-end-head refl ∙ answered

-- the last end, seen from a place
module _ (log : List ℕ) (at end : ℕ) (o : end_from log at ≡ end_at end) where
  pub whole_before : at < end → WholeAt log at
  whole_before h = go (extent_from log at) refl
    where
      go : (x : LogExtent) → extent_from log at ≡ x → WholeAt log at
      go off e = absurd (not-refused (sym (end-from-off log at e) ∙ o))
      go cut e = let q : at ≡ end = ap (λ (r : LogEnd). r.end) (sym (end-from-cut log at e) ∙ o) in absurd (omega arith)
      go (spans n) e = record { size = n; whole = e }

  pub end_after : (n : ℕ) → extent_from log at ≡ spans n → end_from log (at + n) ≡ end_at end
  end_after n e = sym (end-from-spans log at n e) ∙ o

  end-behind : at ≤ end
  unfolding end_from end_by
  end-behind = go (ends_from log at) refl
    where
      go : (w : Option (List ℕ)) → ends_from log at ≡ w → at ≤ end
      go none e = absurd (not-refused (sym (ap (end_by at) e) ∙ o))
      go (some es) e =
          let q : last_of at es ≡ end = ap (λ (r : LogEnd). r.end) (sym (ap (end_by at) e) ∙ o) in
          omega (arith, ends_behind (length log) at (drop at log) es e)

pub ends_reached : (log : List ℕ) (at end : ℕ) → end_from log at ≡ end_at end → end ≤ at → ends_from log at ≡ some []
ends_reached log at end o h = go (extent_from log at) refl
  where
    go : (x : LogExtent) → extent_from log at ≡ x → ends_from log at ≡ some []
    go off e = absurd (not-refused (sym (end-from-off log at e) ∙ o))
    go cut e = ends_from-cut log at e
    go (spans n) e = absurd (omega (arith, end-behind log (at + n) end (end_after log at end o n e), spans-least (drop at log) n (from-spans log at n e)))
