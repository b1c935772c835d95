-- A recovery begun; the state that it gives, with the mark at the end of the records; and what is left of the lent state.
-- Assumes nothing.
use Rattle.std.specs.Prelude.{ℕ, ◌≡◌, List, [], Result, Ok, Err}
use Rattle.std.proofs.Math.Option.{Option, none, some}
use Rattle.model.specs.Choice.{refuse}
use Rattle.model.specs.Limits.{head_size}
use Rattle.model.specs.Refusals.{bad_log, no_refusal}
use Rattle.model.specs.States.{State, load}
use Rattle.model.specs.Apply.{with_mark}
use Rattle.model.specs.Operations.{After, after, answer_of, settle, stored, recovered_on}
use Rattle.model.specs.declared.Refusal.{Refusal}
use Rattle.model.specs.declared.Refusal.TheVariants.{BadLog}
use Rattle.state_rows.specs.Canonical.{Canonical}
use Rattle.server_recover.specs.Remaining.{StandsAt}

-- by the answer: the buffer's state stands at the end of the log's head, and what the log gives on it is the whole recovery; or, with 14,
-- that gives none
abbrev pub BegunAs : {A : Type 0} → Option State → List ℕ → List ℕ → Result A Refusal → Type 0
BegunAs o log s (Ok x) = StandsAt s head_size × (o ≡ recovered_on (load s) log)
BegunAs o log s (Err e) = (e ≡ BadLog) × (o ≡ none)

pub record Begun {A : Type 0} (o : Option State) (log s : List ℕ) (r : Result A Refusal) : Type 0 where
  pub begun : BegunAs o log s r

-- with the mark at the end of the records
unfoldable pub marked : Option State → Option State
marked none = none
marked (some st) = some (with_mark st.size st)

-- Ok exactly where there is a state; the buffer then is its bytes, and any bytes past them; or 14
abbrev pub RebuiltAs : {A : Type 0} → Option State → List ℕ → Result A Refusal → Type 0
RebuiltAs o s (Ok x) = (some (load s) ≡ marked o) × Canonical s
RebuiltAs o s (Err e) = (e ≡ BadLog) × (o ≡ none)

pub record Rebuilt {A : Type 0} (o : Option State) (s : List ℕ) (r : Result A Refusal) : Type 0 where
  pub rebuilt : RebuiltAs o s r

-- 14, or the state in the lent buffer
unfoldable pub settled_state : List ℕ → List ℕ → Option State → After
settled_state state log none = settle state log [] (refuse bad_log)
settled_state state log (some st) = after (answer_of no_refusal 0) (stored state st) log []
