-- A line's work at a client: what it leaves of the client and of the packets, and its answer. `ran` of `model` is this at the client that
-- the line calls.
-- Assumes nothing.
use Rattle.std.specs.Prelude.{ℕ, ◌≡◌, List}
use Rattle.std.proofs.Math.Option.{Option, none, some}
use Rattle.model.specs.declared.Client.{Client}
use Rattle.model.specs.declared.SendAnswer.{SendAnswer}
use Rattle.model.specs.declared.ReceiveAnswer.{ReceiveAnswer}
use Rattle.model.specs.Refusals.{unknown}
use Rattle.model.specs.Clients.{issue_of, resend_of, receive_of, receive_number, brought}
use Rattle.model.specs.Simulator as simulator
use Rattle.simulator_text.specs.declared.ClientLine.{ClientLine}
use Rattle.simulator_text.specs.declared.ClientLine.TheVariants.{Issue, Resend, Receive}
use Rattle.simulator_memory.specs.Store.{Outcome, outcome, outcome_is, sent_outcome, numbered, Next}
use Rattle.simulator_memory.specs.declared.ClientMade.{ClientMade}

pub record Attended : Type 0 where
  pub client : Client
  pub outcome : Outcome

abbrev pub attended : Client → Outcome → Attended
attended d o = record { client = d; outcome = o }

unfoldable pub sent_by : List (List ℕ) → SendAnswer → Attended
sent_by ps a = attended a.client (sent_outcome ps a.answer)

unfoldable pub received_by : List (List ℕ) → ReceiveAnswer → Attended
received_by ps a =
    attended a.client (outcome ps (simulator.answered (receive_number a.answer) 0 (brought a.answer).result.value))

unfoldable pub receiving : Client → List (List ℕ) → Option (List ℕ) → Attended
receiving d ps none = attended d (outcome ps (simulator.plain unknown))
receiving d ps (some b) = received_by ps (receive_of d b)

unfoldable pub client_ran : Client → List (List ℕ) → ClientLine → Attended
client_ran d ps (Issue op p a) = sent_by ps (issue_of d op p a)
client_ran d ps (Resend c) = sent_by ps (resend_of d c)
client_ran d ps (Receive k) = receiving d ps (numbered ps k)

unfoldable pub attended_is : ClientMade → List ℕ → Attended
attended_is r store = attended r.client (outcome_is r.made store)

-- a line at a client leaves v of it and of the packets, and makes one packet at the most; one that receives makes none
abbrev pub Attends : Attended → ℕ → ClientMade → List ℕ → Type 0
Attends v count r store = (attended_is r store ≡ v) × Next count r.made.count

abbrev pub Receives : Attended → ℕ → ClientMade → List ℕ → Type 0
Receives v count r store = (attended_is r store ≡ v) × (r.made.count ≡ count)
