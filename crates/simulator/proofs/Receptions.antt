-- What a client sends and receives, as its definition says.
--     send_by                        what issue and resend leave
--     receive_by                     a packet received
--     receive-made, receive-none     by its number
-- Assumes nothing.
use Prim.Native.Nat.{ℕ}
use mathlib.Core.Path.{◌≡◌, refl}
use mathlib.Core.List.{List}
use mathlib.Core.Option.{some}
use Rattle.std.specs.Prelude as std
use Rattle.std.specs.Prelude.{Some, None}
use Rattle.model.specs.declared.Client.{Client}
use Rattle.model.specs.declared.SendAnswer.{SendAnswer}
use Rattle.model.specs.declared.ReceiveAnswer.{ReceiveAnswer}
use Rattle.model.specs.Refusals.{unknown}
use Rattle.model.specs.Clients.{receive_of, receive_number, brought}
use Rattle.model.specs.Simulator.{plain, answered}
use Rattle.simulator_text.specs.Values.{reply_is}
use Rattle.simulator_memory.specs.Store.{packet_in, packet_for, packets_in, numbered, outcome_is, sent_outcome}
use Rattle.simulator_memory.proofs.Rows.{numbered_row, numbered_nowhere}
use Rattle.simulator_memory.specs.declared.ClientMade.{ClientMade}
use Rattle.simulator.specs.Attended.{Attended, sent_by, received_by, receiving, attended_is}

pub send_by : (m : ClientMade) (store : List ℕ) (ps : List (List ℕ)) (a : SendAnswer) {P : Type 0} → m.client ≡ a.client → (outcome_is m.made store ≡ sent_outcome ps a.answer) × P
    → (attended_is m store ≡ sent_by ps a) × P
unfolding attended_is sent_by
send_by m store ps a e q = (rw (e, q.0) refl, q.1)

pub receive_by : (m : ClientMade) (d : Client) (store b : List ℕ) (n : ℕ) (a : ReceiveAnswer) → a ≡ receive_of d b → m.client ≡ a.client → m.made.count ≡ n
    → reply_is m.made.reply ≡ answered (receive_number a.answer) 0 (brought a.answer).result.value → attended_is m store ≡ receiving d (packets_in store n) (some b)
unfolding attended_is receiving received_by outcome_is
receive_by m d store b n a e p q r = rw (← e, p, q, r) refl

-- ---- packets by number

module _ (store : List ℕ) (n k : ℕ) {p : std.Option ℕ} (e : packet_for store p ≡ numbered (packets_in store n) k) where
  pub receive-none : (m : ClientMade) (d : Client) → p ≡ None → m.client ≡ d → m.made.count ≡ n → reply_is m.made.reply ≡ plain unknown
      → attended_is m store ≡ receiving d (packets_in store n) (numbered (packets_in store n) k)
  unfolding attended_is receiving outcome_is
  receive-none m d f h i r = rw (numbered_nowhere store n k e f, h, i, r) refl

  pub receive-made : {v : Attended} {i : ℕ} (d : Client) → p ≡ Some i → v ≡ receiving d (packets_in store n) (some (packet_in store i))
      → v ≡ receiving d (packets_in store n) (numbered (packets_in store n) k)
  receive-made d f q = rw (numbered_row store n k e f) q
