-- The client (paper: desk), values in and values out. It keeps its number, lease end, next call number and the open calls, at
-- most 16 numbers from the first open one: an open call stands at the place call mod 16. A refusal leaves the client as it was.
-- Assumes nothing.
use Rattle.std.specs.Prelude.{ℕ, suc, ◌+◌, ◌%◌, Bool, ◌&&◌, not, List, [], ◌∷◌, get_or, set, replicate, eqb, leb, ltb, Result, Ok, Err, Option}
use Rattle.model.specs.declared.Request.{Request}
use Rattle.model.specs.declared.ResultPacket.{ResultPacket}
use Rattle.model.specs.declared.RefusalPacket.{RefusalPacket}
use Rattle.model.specs.declared.Grant.{Grant}
use Rattle.model.specs.declared.Packet.{Packet}
use Rattle.model.specs.declared.OpenCall.{OpenCall}
use Rattle.model.specs.declared.Client.{Client}
use Rattle.model.specs.declared.Refusal.{Refusal}
use Rattle.model.specs.declared.Refusal.TheVariants.{Malformed, WindowFull, NumbersOut, Unknown}
use Rattle.model.specs.declared.Received.{Received}
use Rattle.model.specs.declared.Received.TheVariants.{Completed, Denied, Extended}
use Rattle.model.specs.declared.StartAnswer.{StartAnswer}
use Rattle.model.specs.declared.SendAnswer.{SendAnswer}
use Rattle.model.specs.declared.ReceiveAnswer.{ReceiveAnswer}
use Rattle.model.specs.declared.CommandResult.{CommandResult}
use Rattle.model.specs.Choice.{pick, or_else}
use Rattle.model.specs.Numbers.{half}
use Rattle.model.specs.Refusals.{no_refusal, refusal_of}
use Rattle.model.specs.Limits.{last32, call_window, result_kind, refusal_kind, grant_kind}
use Rattle.model.specs.Packets.{parse_packet, command_ok, request_bytes, ClientPacket, result, refusal, grant, as_grant, as_client_packet}

abbrev pub no_call : OpenCall
no_call = record { call = 0; op = 0; point = 0; argument = 0 }

-- what a refused start leaves
abbrev pub no_client : Client
no_client = record { client = 0; lease = 0; next = 0; calls = replicate call_window no_call }

-- ---- open calls

unfoldable pub place_of : ℕ → ℕ
place_of c = c % call_window

unfoldable pub call_at : Client → ℕ → OpenCall
call_at d c = get_or d.calls (place_of c) no_call

unfoldable pub is_open : Client → ℕ → Bool
is_open d c = leb 1 c && eqb (call_at d c).call c

-- the least open call among some, n where none is below n
unfoldable pub least_open : ℕ → List OpenCall → ℕ
least_open n [] = n
least_open n (k ∷ ks) = least_open (pick (leb 1 k.call && ltb k.call n) k.call n) ks

-- the first open call, the next number if none is open
unfoldable pub first_open : Client → ℕ
first_open d = least_open d.next d.calls

unfoldable pub with_calls : Client → ℕ → List OpenCall → Client
with_calls d next ks = record { client = d.client; lease = d.lease; next = next; calls = ks }

unfoldable pub with_lease : Client → ℕ → Client
with_lease d lease = record { client = d.client; lease = lease; next = d.next; calls = d.calls }

unfoldable pub closed : Client → ℕ → Client
closed d c = with_calls d d.next (set d.calls (place_of c) no_call)

-- the packet of an open call: its done is the first open call, with today's lease end
unfoldable pub request_for : Client → OpenCall → Request
request_for d k =
    record {
      command = record { client = d.client; call = k.call; op = k.op; point = k.point; argument = k.argument };
      done = first_open d;
      lease = d.lease;
    }

-- ---- Start: 1 not a grant. The next number is 1

abbrev pub not_started : StartAnswer
not_started = record { client = no_client; answer = Err Malformed }

abbrev pub started : Grant → StartAnswer
started g =
    record { client = record { client = g.client; lease = g.lease; next = 1; calls = replicate call_window no_call }; answer = Ok tt }

unfoldable pub start_with : Option Packet → StartAnswer
start_with p = or_else (as_grant p) not_started started

unfoldable pub start_of : List ℕ → StartAnswer
start_of packet = start_with (parse_packet packet)

-- ---- Issue: 1 no such command; 15 next is 16 or more above the first open call; 16 next is the greatest number

unfoldable pub new_call : Client → ℕ → ℕ → ℕ → OpenCall
new_call d op point a = record { call = d.next; op = op; point = point; argument = a }

unfoldable pub with_call : Client → OpenCall → Client
with_call d k = with_calls d (suc d.next) (set d.calls (place_of k.call) k)

unfoldable pub not_sent : Client → Refusal → SendAnswer
not_sent d e = record { client = d; answer = Err e }

unfoldable pub sent : Client → OpenCall → SendAnswer
sent d k = record { client = d; answer = Ok (request_for d k) }

unfoldable pub issue_of : Client → ℕ → ℕ → ℕ → SendAnswer
issue_of d op point a =
    pick (not (command_ok op point a)) (not_sent d Malformed)
    (pick (leb (first_open d + call_window) d.next) (not_sent d WindowFull)
    (pick (leb last32 d.next) (not_sent d NumbersOut)
    (sent (with_call d (new_call d op point a)) (new_call d op point a))))

-- ---- Resend: 17 call not open

unfoldable pub resend_of : Client → ℕ → SendAnswer
resend_of d c = pick (is_open d c) (sent d (call_at d c)) (not_sent d Unknown)

-- ---- Receive: 1 no well-formed result, refusal or grant; 17 not for this client and an open call of it on that point, or a lease end
-- that falls

-- the packet is of this client and of an open call on its point
unfoldable pub is_own : Client → ℕ → ℕ → ℕ → Bool
is_own d client call point = eqb client d.client && (is_open d call && eqb (call_at d call).point point)

unfoldable pub not_received : Client → Refusal → ReceiveAnswer
not_received d e = record { client = d; answer = Err e }

-- only a result closes a call
unfoldable pub receive_result : Client → ResultPacket → ReceiveAnswer
receive_result d r =
    pick (is_own d r.client r.call r.point) (record { client = closed d r.call; answer = Ok (Completed r) }) (not_received d Unknown)

unfoldable pub receive_refusal : Client → RefusalPacket → ReceiveAnswer
receive_refusal d r =
    pick (is_own d r.client r.call r.point) (record { client = d; answer = Ok (Denied r) }) (not_received d Unknown)

unfoldable pub receive_grant : Client → Grant → ReceiveAnswer
receive_grant d g =
    pick (eqb g.client d.client && leb d.lease g.lease) (record { client = with_lease d g.lease; answer = Ok (Extended g) })
    (not_received d Unknown)

abbrev pub receive_packet : Client → ClientPacket → ReceiveAnswer
receive_packet d (result r) = receive_result d r
receive_packet d (refusal r) = receive_refusal d r
receive_packet d (grant g) = receive_grant d g

unfoldable pub receive_with : Client → Option Packet → ReceiveAnswer
receive_with d p = or_else (as_client_packet p) (not_received d Malformed) (receive_packet d)

unfoldable pub receive_of : Client → List ℕ → ReceiveAnswer
receive_of d packet = receive_with d (parse_packet packet)

-- ---- the refusal's number of every answer, 0 where nothing is refused

unfoldable pub start_number : Result Unit Refusal → ℕ
start_number a = refusal_of a

unfoldable pub send_number : Result Request Refusal → ℕ
send_number a = refusal_of a

unfoldable pub receive_number : Result Received Refusal → ℕ
receive_number a = refusal_of a

-- what a receive brings, 0 where its case lacks it: the packet's kind, call and point, the result, a refusal's own number, a lease end
pub record Brought : Type 0 where
  pub kind : ℕ
  pub call : ℕ
  pub point : ℕ
  pub result : CommandResult
  pub refusal : ℕ
  pub lease : ℕ

abbrev pub no_result : CommandResult
no_result = record { outcome = 0; value = half; quality = 0; time = 0 }

unfoldable pub brought : Result Received Refusal → Brought
brought (Err e) = record { kind = 0; call = 0; point = 0; result = no_result; refusal = no_refusal; lease = 0 }
brought (Ok (Completed r)) =
    record { kind = result_kind; call = r.call; point = r.point; result = r.result; refusal = no_refusal; lease = 0 }
brought (Ok (Denied r)) = record { kind = refusal_kind; call = r.call; point = r.point; result = no_result; refusal = r.refusal; lease = 0 }
brought (Ok (Extended g)) = record { kind = grant_kind; call = 0; point = 0; result = no_result; refusal = no_refusal; lease = g.lease }

-- the packet that an answer carries
unfoldable pub sent_bytes : Result Request Refusal → List ℕ
sent_bytes (Err e) = []
sent_bytes (Ok q) = request_bytes q
