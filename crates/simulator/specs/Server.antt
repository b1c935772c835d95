-- A line's work at a server. `ran` of `model` is this at the server that the line calls.
-- Assumes nothing.
use Rattle.std.specs.Prelude.{ℕ, List}
use Rattle.model.specs.Choice.{pick}
use Rattle.model.specs.Refusals.{bad_mark}
use Rattle.model.specs.Limits.{greatest_image, receipt_size}
use Rattle.model.specs.States.{load}
use Rattle.model.specs.Versions.{today}
use Rattle.model.specs.Operations.{sync_of, give_of, image_of, receipt_of}
use Rattle.model.specs.Simulator as simulator
use Rattle.simulator_text.specs.declared.ServerLine.{ServerLine}
use Rattle.simulator_text.specs.declared.ServerLine.TheVariants.{Deliver, Sync, Cut, Give, Image, Receipt}
use Rattle.simulator_text.specs.Values.{reply_is}
use Rattle.simulator_memory.specs.declared.Made.{Made}
use Rattle.simulator_memory.specs.Store.{outcome, numbered, outside}
use Rattle.simulator.specs.Served.{Served, served, served_by, delivering}

-- a power cut: the state and the number that are left
pub record Cutting : Type 0 where
  pub state : List ℕ
  pub reply : simulator.Reply

abbrev pub cut_is : Made → List ℕ → Cutting
cut_is m s = record { state = s; reply = reply_is m.reply }

unfoldable pub cut_by : List ℕ → List ℕ → ℕ → Cutting
cut_by s l k =
    let a = simulator.cut_at (record { state = s; log = l }) k in
    pick (outside (load s).mark (load s).size k) (record { state = s; reply = simulator.plain bad_mark })
    (record { state = a.state; reply = simulator.plain a.answer.refusal })

unfoldable pub cutting : List ℕ → List ℕ → List (List ℕ) → ℕ → Served
cutting s l ps k = let a = cut_by s l k in served a.state l (outcome ps a.reply)

unfoldable pub server_ran : List ℕ → List ℕ → List (List ℕ) → ServerLine → Served
server_ran s l ps (Deliver k) = delivering s l ps (numbered ps k)
server_ran s l ps Sync = served_by ps (sync_of s l (load s).size)
server_ran s l ps (Cut k) = cutting s l ps k
server_ran s l ps (Give p d) = served_by ps (give_of s l p d)
server_ran s l ps (Image p) = served_by ps (image_of today s l p (simulator.room greatest_image))
server_ran s l ps (Receipt p) = served_by ps (receipt_of s l p (simulator.room receipt_size))
