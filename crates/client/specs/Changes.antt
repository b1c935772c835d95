-- What an operation changes of a client, and the answer that it makes: the next number or the lease end, and what stands at one place.
-- Assumes nothing.
use Rattle.std.specs.Prelude.{ℕ, ◌≡◌, true, false, List, Result, Ok, Err, eqb, ltb, length, set, replicate, Option, Some, None}
use Rattle.model.specs.declared.OpenCall.{OpenCall}
use Rattle.model.specs.declared.Client.{Client}
use Rattle.model.specs.declared.Request.{Request}
use Rattle.model.specs.declared.Packet.{Packet}
use Rattle.model.specs.declared.Packet.TheVariants.{Requested, Resulted, Refused, Receipted, Noticed, Granted}
use Rattle.model.specs.declared.StartAnswer.{StartAnswer}
use Rattle.model.specs.declared.SendAnswer.{SendAnswer}
use Rattle.model.specs.declared.ReceiveAnswer.{ReceiveAnswer}
use Rattle.model.specs.Choice.{pick}
use Rattle.model.specs.Numbers.{byte_at, le32_at}
use Rattle.model.specs.Limits.{call_window, first_result_kind, refusal_kind, grant_kind, result_kind, refusal_size}
use Rattle.model.specs.Packets.{parse_result, parse_refusal, parse_grant}
use Rattle.model.specs.Clients.{no_call, no_client, place_of, with_calls}
use Rattle.model.specs.declared.Refusal.{Refusal}
use Rattle.client.specs.declared.StartFields.{StartFields}
use Rattle.client.specs.declared.SendChange.{SendChange}
use Rattle.client.specs.declared.ReceiveChange.{ReceiveChange}

-- the answer of a start with these numbers; its open calls are none
abbrev pub start_by : Result StartFields Refusal → StartAnswer
start_by (Ok s) =
    record { client = record { client = s.client; lease = s.lease; next = s.next; calls = replicate call_window no_call }; answer = Ok tt }
start_by (Err e) = record { client = no_client; answer = Err e }

-- the packet of an open call, with this done
unfoldable pub request_with : Client → OpenCall → ℕ → Request
request_with d k done =
    record {
      command = record { client = d.client; call = k.call; op = k.op; point = k.point; argument = k.argument };
      done = done;
      lease = d.lease;
    }

-- the number in bytes where a result and a refusal have their call, 0 in fewer bytes
unfoldable pub packet_call : List ℕ → ℕ
packet_call b = pick (ltb (length b) refusal_size) 0 (le32_at b 8)

-- the result, refusal or grant in bytes; any other packet is malformed to a client
unfoldable pub client_packet : List ℕ → Option Packet
client_packet b =
    pick (eqb (byte_at b 0) first_result_kind) (parse_result false b)
    (pick (eqb (byte_at b 0) refusal_kind) (parse_refusal b)
    (pick (eqb (byte_at b 0) grant_kind) (parse_grant b)
    (pick (eqb (byte_at b 0) result_kind) (parse_result true b) None)))

-- a packet that is of a call is of the call c
abbrev pub OfCall : ℕ → Option Packet → Type 0
OfCall c None = Unit
OfCall c (Some (Requested q)) = Unit
OfCall c (Some (Resulted r)) = c ≡ r.call
OfCall c (Some (Refused r)) = c ≡ r.call
OfCall c (Some (Receipted r)) = Unit
OfCall c (Some (Noticed n)) = Unit
OfCall c (Some (Granted g)) = Unit

-- the answer of an issue that changes the client so
unfoldable pub issued : Client → SendChange → SendAnswer
issued d c = record { client = with_calls d c.next (set d.calls (place_of d.next) c.call); answer = c.answer }

-- the answer of a receive that changes the client so, at the place of the call n
unfoldable pub received : Client → ℕ → ReceiveChange → ReceiveAnswer
received d n c =
    record {
      client = record { client = d.client; lease = c.lease; next = d.next; calls = set d.calls (place_of n) c.call };
      answer = c.answer;
    }
