-- Recovery as it was said before its two walks: one walk finds the records and reads them. Kept for the theorem that every log gives the
-- answer and the state that it gave (proofs/TwoWalks), and for the laws of a log's entries.
-- Assumes nothing.
use Rattle.std.specs.Prelude.{ℕ, zero, suc, ◌+◌, true, false, List, [], ◌∷◌, length, drop}
use Rattle.std.proofs.Math.Option.{Option, none, some}
use Rattle.model.specs.declared.PlanEntry.{PlanEntry}
use Rattle.model.specs.Limits.{head_size}
use Rattle.model.specs.Plan.{plan_ok, plan_of}
use Rattle.model.specs.Logs.{head_ok, head_server, off, cut, spans, extent_of, record_at, Entry}
use Rattle.model.specs.States.{State}
use Rattle.model.specs.Apply.{founded}
use Rattle.model.specs.Operations.{After, left_unless, recovered_all, recover_refusal, settle_recovered}

-- the records of the log's rest s, which starts at place k; none if one breaks its layout; an incomplete last one is dropped.
-- Each record has at least 8 bytes, so that the length is fuel enough
unfoldable pub walk : ℕ → ℕ → List ℕ → Option (List Entry)
walk zero k s = some []
walk (suc n) k [] = some []
walk (suc n) k (b ∷ s) =
    elim (extent_of (b ∷ s)) [
      | off ↦ none
      | cut ↦ some []
      | spans m ↦
          elim (record_at (b ∷ s)) [
            | none ↦ none
            | some r ↦ elim (walk n (k + m) (drop m (b ∷ s))) [ none ↦ none | some es ↦ some (record { item = r; end = k + m } ∷ es) ]
          ]
    ]

unfoldable pub entries_of : List ℕ → Option (List Entry)
entries_of log = walk (length log) head_size (drop head_size log)

unfoldable pub state_by_one_walk : List PlanEntry → List ℕ → Option State
state_by_one_walk plan log = elim (head_ok log) [ true ↦ recovered_all (founded plan (head_server log)) (entries_of log) | false ↦ none ]

unfoldable pub recover_by_one_walk : List ℕ → List ℕ → List ℕ → After
recover_by_one_walk state log plan =
    left_unless (recover_refusal (length state) (plan_ok plan)) state log (settle_recovered state log (state_by_one_walk (plan_of plan) log))
