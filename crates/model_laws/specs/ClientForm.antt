-- The clients that start makes and the other operations keep.
-- Assumes nothing.
use Rattle.std.specs.Prelude.{ℕ, ◌+◌, ◌≤◌, ◌<◌, ◌≡◌, true, length, get_or}
use Rattle.model.specs.declared.OpenCall.{OpenCall}
use Rattle.model.specs.declared.Client.{Client}
use Rattle.model.specs.Limits.{last32, call_window}
use Rattle.model.specs.Packets.{command_ok}
use Rattle.model.specs.Clients.{no_call, place_of, first_open}

-- what stands at the place i
abbrev pub call_in : Client → ℕ → OpenCall
call_in d i = get_or d.calls i no_call

-- an open call stands at the place call mod 16, is from 1, below the next number, and its command is well formed;
-- next − first open ≤ 16; numbers are within 32 bits
pub record WellFormed (d : Client) : Type 0 where
  pub numbered : 1 ≤ d.client
  pub started : 1 ≤ d.next
  pub places : length d.calls ≡ call_window
  pub placed : (i : ℕ) → i < call_window → 1 ≤ (call_in d i).call → place_of (call_in d i).call ≡ i
  pub below : (i : ℕ) → i < call_window → (call_in d i).call < d.next
  pub commands : (i : ℕ) → i < call_window → 1 ≤ (call_in d i).call
      → command_ok (call_in d i).op (call_in d i).point (call_in d i).argument ≡ true
  pub client-within : d.client ≤ last32
  pub lease-within : d.lease ≤ last32
  pub next-within : d.next ≤ last32
  pub window : d.next ≤ first_open d + call_window
