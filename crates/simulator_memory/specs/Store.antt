-- The packet store as the list of packets of the definitions, and what a call leaves of it.
-- Assumes nothing.
use Rattle.std.specs.Prelude.{ℕ, zero, suc, ◌+◌, ◌*◌, ◌≤◌, ◌<◌, Bool, ◌||◌, List, [], ◌∷◌, ◌++◌, eqb, ltb, length, take, drop}
use Rattle.std.specs.Prelude as std
use Rattle.std.specs.Prelude.{Some, None, Result}
use Rattle.std.proofs.Math.Option.{Option, none, some}
use Rattle.std.proofs.Math.ListN.{get_elem?}
use Rattle.model.specs.declared.Answer.{Answer}
use Rattle.model.specs.declared.Request.{Request}
use Rattle.model.specs.declared.Refusal.{Refusal}
use Rattle.model.specs.Choice.{pick}
use Rattle.model.specs.Numbers.{half, le32, le32_at}
use Rattle.model.specs.Limits.{greatest_image, last32}
use Rattle.model.specs.Tables.{written}
use Rattle.model.specs.Clients.{send_number, sent_bytes}
use Rattle.model.specs.Simulator as simulator
use Rattle.model.specs.Refusals.{no_refusal}
use Rattle.simulator_text.specs.Values.{reply_is}
use Rattle.simulator_memory.specs.declared.Made.{Made}

-- ---- rows: the bytes of a packet's length, and room for the longest image

abbrev pub row_head : ℕ
row_head = 4

abbrev pub row_size : ℕ
row_size = row_head + greatest_image

abbrev pub lesser_of : ℕ → ℕ → ℕ
lesser_of a b = pick (ltb a b) a b

-- the packet of row k
unfoldable pub packet_in : List ℕ → ℕ → List ℕ
packet_in s k = take (lesser_of (le32_at s (row_size * k)) greatest_image) (drop (row_size * k + row_head) s)

-- the packet b put into row k
unfoldable pub put_in : List ℕ → ℕ → List ℕ → List ℕ
put_in s k b = written s (row_size * k) (le32 (length b) ++ b)

-- the packets of the first rows
unfoldable pub packets_in : List ℕ → ℕ → List (List ℕ)
packets_in s zero = []
packets_in s (suc n) = packets_in s n ++ (packet_in s n ∷ [])

-- packet k, none for 0 and for one not made
unfoldable pub numbered : List (List ℕ) → ℕ → Option (List ℕ)
numbered ps zero = none
numbered ps (suc k) = get_elem? ps k

-- the packet at a row
abbrev pub packet_for : List ℕ → std.Option ℕ → Option (List ℕ)
packet_for s None = none
packet_for s (Some k) = some (packet_in s k)

-- a row among those filled
abbrev pub Filled : ℕ → std.Option ℕ → Type 0
Filled count None = Unit
Filled count (Some k) = k + 1 ≤ count

-- there is room for one packet more
pub record Room (store : List ℕ) (count : ℕ) : Type 0 where
  pub rows : row_size * (count + 1) ≤ length store
  pub small : count < last32

-- a call makes one packet at the most
pub record Next (count after : ℕ) : Type 0 where
  pub least : count ≤ after
  pub most : after ≤ count + 1

-- ---- bytes of a log outside mark to length

abbrev pub outside : ℕ → ℕ → ℕ → Bool
outside mark size k = ltb k mark || ltb size k

-- ---- what a call leaves: the packets, and the line's answer

pub record Outcome : Type 0 where
  pub packets : List (List ℕ)
  pub reply : simulator.Reply

abbrev pub outcome : List (List ℕ) → simulator.Reply → Outcome
outcome ps r = record { packets = ps; reply = r }

unfoldable pub outcome_is : Made → List ℕ → Outcome
outcome_is m store = outcome (packets_in store m.count) (reply_is m.reply)

-- a server's call with the answer a that wrote to `out`
unfoldable pub outcome_by : List (List ℕ) → Answer → List ℕ → Outcome
outcome_by ps a out =
    pick (eqb a.wrote 0) (outcome ps (simulator.plain a.refusal))
    (outcome (ps ++ (take a.wrote out ∷ [])) (simulator.answered a.refusal (suc (length ps)) half))

-- a client's issue or resend
unfoldable pub sent_outcome : List (List ℕ) → Result Request Refusal → Outcome
sent_outcome ps a =
    pick (eqb (send_number a) no_refusal) (outcome (ps ++ (sent_bytes a ∷ [])) (simulator.answered no_refusal (suc (length ps)) half))
    (outcome ps (simulator.plain (send_number a)))
