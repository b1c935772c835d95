-- One record of the second walk.
--     remaining-done                no end is left
--     remaining_broken, remaining_stops     a record that breaks its layout, and one that does not follow the state
--     remaining-next                one that does, and the walk from its end on
-- Assumes nothing.
use Prim.Native.Nat.{ℕ, ◌+◌}
use mathlib.Core.Path.{◌≡◌, refl, ap, ◌∙◌}
use mathlib.Core.Bool.{true, false}
use mathlib.Core.List.{List, []}
use mathlib.Core.Option.{Option, none, some}
use lib.ListN.{drop}
use Rattle.model.specs.Logs.{LogRecord, Entry, spans, record_at, entries_to}
use Rattle.model.specs.States.{State}
use Rattle.model.specs.Apply.{apply_record, apply}
use Rattle.model.specs.Decisions.{follows}
use Rattle.model.specs.Operations.{recovered, recovered_all}
use Rattle.model_laws.proofs.Logs.{step_walk}
use Rattle.model_laws.proofs.Ends.{join_end}
use Rattle.format_log_ends.specs.Answers.{extent_from}
use Rattle.format_log_ends.specs.Walked.{ends_from}
use Rattle.format_log_ends.proofs.Walked.{ends_from-spans}
use Rattle.server_recover.specs.Remaining.{remaining_to, remaining}

pub remaining-done : (log : List ℕ) (at : ℕ) (st : State) → ends_from log at ≡ some [] → remaining log at st ≡ some st
unfolding remaining remaining_to entries_to recovered_all recovered
remaining-done log at st e = ap (remaining_to log at st) e

module _ (log : List ℕ) (at : ℕ) (st : State) (n : ℕ) (e : extent_from log at ≡ spans n) where
  step : remaining log at st ≡ remaining_to log at st (join_end (at + n) (ends_from log (at + n)))
  unfolding remaining
  step = ap (remaining_to log at st) (ends_from-spans log at n e)

  pub remaining_broken : record_at (drop at log) ≡ none → remaining log at st ≡ none
  unfolding remaining_to join_end entries_to recovered_all
  remaining_broken q = step ∙ on (ends_from log (at + n))
    where
      on : (w : Option (List ℕ)) → remaining_to log at st (join_end (at + n) w) ≡ none
      on none = refl
      on (some es) = rw (q, entries_to)

  module _ (r : LogRecord) (q : record_at (drop at log) ≡ some r) where
    with : (es : List ℕ) → remaining_to log at st (join_end (at + n) (some es)) ≡ recovered_all st (step_walk (at + n) r (entries_to log (at + n) es))
    unfolding remaining_to join_end entries_to step_walk
    with es = rw (q, entries_to)

    pub remaining-next : follows st r ≡ true → remaining log at st ≡ remaining log (at + n) (apply_record r (at + n) st)
    unfolding remaining remaining_to join_end step_walk recovered_all recovered apply
    remaining-next f = step ∙ on (ends_from log (at + n))
      where
        then : (w : Option (List Entry)) → recovered_all st (step_walk (at + n) r w) ≡ recovered_all (apply_record r (at + n) st) w
        then none = refl
        then (some xs) = rw (f, recovered)

        on : (w : Option (List ℕ)) → remaining_to log at st (join_end (at + n) w) ≡ remaining_to log (at + n) (apply_record r (at + n) st) w
        on none = refl
        on (some es) = with es ∙ then (entries_to log (at + n) es)

    pub remaining_stops : follows st r ≡ false → remaining log at st ≡ none
    unfolding remaining_to join_end step_walk recovered_all recovered
    remaining_stops f = step ∙ on (ends_from log (at + n))
      where
        then : (w : Option (List Entry)) → recovered_all st (step_walk (at + n) r w) ≡ none
        then none = refl
        then (some xs) = rw (f, recovered)

        on : (w : Option (List ℕ)) → remaining_to log at st (join_end (at + n) w) ≡ none
        on none = refl
        on (some es) = with es ∙ then (entries_to log (at + n) es)
