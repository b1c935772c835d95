-- What a line leaves of a server's slices and of the packets, and its answer; and the delivery of a packet. `ran` of `model` is this at the
-- server that the line calls.
-- Assumes nothing.
use Rattle.std.specs.Prelude.{ℕ, ◌≡◌, List}
use Rattle.std.proofs.Math.Option.{Option, none, some}
use Rattle.model.specs.Numbers.{byte_at}
use Rattle.model.specs.Images.{image_magic}
use Rattle.model.specs.Refusals.{malformed, unknown}
use Rattle.model.specs.Operations.{After}
use Rattle.model.specs.Simulator as simulator
use Rattle.simulator_memory.specs.declared.Made.{Made}
use Rattle.simulator_memory.specs.Store.{Outcome, outcome, outcome_is, outcome_by, Next}

-- the first byte of an image
abbrev pub image_byte : ℕ
image_byte = byte_at image_magic 0

pub record Served : Type 0 where
  pub state : List ℕ
  pub log : List ℕ
  pub outcome : Outcome

abbrev pub served : List ℕ → List ℕ → Outcome → Served
served s l o = record { state = s; log = l; outcome = o }

unfoldable pub served_by : List (List ℕ) → After → Served
served_by ps a = served a.state a.log (outcome_by ps a.answer a.out)

unfoldable pub deliver_by : List ℕ → List ℕ → List (List ℕ) → Option After → Served
deliver_by s l ps none = served s l (outcome ps (simulator.plain malformed))
deliver_by s l ps (some a) = served_by ps a

unfoldable pub delivering : List ℕ → List ℕ → List (List ℕ) → Option (List ℕ) → Served
delivering s l ps none = served s l (outcome ps (simulator.plain unknown))
delivering s l ps (some b) = deliver_by s l ps (simulator.delivered (record { state = s; log = l }) b)

-- a line at a server leaves v of its slices and of the packets, and makes one packet at the most
abbrev pub Leaves : Served → ℕ → Made → List ℕ → List ℕ → List ℕ → Type 0
Leaves v count r s l store = (served s l (outcome_is r store) ≡ v) × Next count r.count
