-- The test of a checkpoint beside its log; the answer by its outcome; and where a place lies.
-- Assumes nothing.
use Rattle.std.specs.Prelude.{ℕ, ◌+◌, ◌-◌, ◌≤◌, ◌≡◌, Bool, true, not, List, length, take, drop, eqb, Result, Ok, Err}
use Rattle.std.proofs.Math.Option.{Option}
use Rattle.model.specs.declared.Place.{Place}
use Rattle.model.specs.Choice.{pick, or_else}
use Rattle.model.specs.Logs.{head_server}
use Rattle.model.specs.States.{State, load}
use Rattle.model.specs.Checkpoints.{in_checkpoint, no_place}
use Rattle.model.specs.declared.Refusal.{Refusal}
use Rattle.refusals.specs.Numbers.{number_of}
use Rattle.server_memory.specs.Memory.{Fit}

-- no state, or one of another server than the log
unfoldable pub foreign : Option State → List ℕ → Bool
foreign o log = or_else o true (λ st. not (eqb (head_server log) st.server))

-- the answer by its outcome: a place, or a refusal's number
abbrev pub placed_by : Result Place Refusal → Place
placed_by (Ok p) = p
placed_by (Err e) = no_place (number_of e)

-- a sound state, and a log of just its recorded length
pub record Logged (state log : List ℕ) : Type 0 where
  pub fit : Fit state log 0 0
  pub whole : length log ≡ (load state).size

-- ---- the part of the checkpoint or of the tail at a place

abbrev pub source_of : {A : Type 0} → Place → A → A → A
source_of p checkpoint tail = pick (eqb p.source in_checkpoint) checkpoint tail

pub record Inside (checkpoint tail : List ℕ) (p : Place) : Type 0 where
  pub order : p.start ≤ p.end
  pub within : p.end ≤ length (source_of p checkpoint tail)

unfoldable pub part_of : Place → List ℕ → List ℕ → List ℕ
part_of p checkpoint tail = take (p.end - p.start) (drop p.start (source_of p checkpoint tail))

-- a slice points into the memory of another: the same block, from the place's start on
abbrev pub points_into : Place → ℕ × ℕ → ℕ × ℕ → ℕ × ℕ → Type 0
points_into p checkpoint tail r = r ≡ ((source_of p checkpoint tail).0, p.start + (source_of p checkpoint tail).1)
