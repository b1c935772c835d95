-- What the host program in C is given for each answer: the refusal's number, and the values or the packet of its case.
-- Assumes nothing.
use Rattle.std.specs.Prelude.{ℕ, ◌-◌, ◌<◌, ◌≡◌, List, [], ◌++◌, length, replicate, Result, Ok, Err}
use Rattle.model.specs.declared.Request.{Request}
use Rattle.model.specs.declared.Refusal.{Refusal}
use Rattle.model.specs.declared.Told.{Told}
use Rattle.model.specs.declared.Told.TheVariants.{ByGrant, ByNotice}
use Rattle.model.specs.declared.Received.{Received}
use Rattle.model.specs.declared.StartAnswer.{StartAnswer}
use Rattle.model.specs.Numbers.{flip}
use Rattle.model.specs.Refusals.{number_of}
use Rattle.model.specs.Limits.{call_window, request_size, grant_size, grant_kind, notice_kind}
use Rattle.model.specs.Clients.{place_of, start_number, send_number, sent_bytes, receive_number, brought}
use Rattle.model.specs.Leases.{told_number, told_bytes}
use Rattle.client.specs.Changes.{packet_call}
use Rattle.client_c.specs.declared.StartReply.{StartReply}
use Rattle.client_c.specs.declared.SendReply.{SendReply}
use Rattle.client_c.specs.declared.ReceiveReply.{ReceiveReply}
use Rattle.client_c.specs.declared.LeaseReply.{LeaseReply}

-- bytes, and zeros after them up to n
unfoldable pub filled : ℕ → List ℕ → List ℕ
filled n bs = bs ++ replicate (n - length bs) 0

unfoldable pub start_reply : StartAnswer → StartReply
start_reply a = record { client = a.client; number = start_number a.answer }

-- the call that a request is of
unfoldable pub sent_call : Result Request Refusal → ℕ
sent_call (Err e) = 0
sent_call (Ok q) = q.command.call

unfoldable pub send_reply : Result Request Refusal → SendReply
send_reply a = record { number = send_number a; call = sent_call a; length = length (sent_bytes a); packet = filled request_size (sent_bytes a) }

-- an answer by its refusal's number
abbrev pub numbered : {A : Type 0} → Result A Refusal → Result A ℕ
numbered (Ok x) = Ok x
numbered (Err e) = Err (number_of e)

-- the same reply by a number, any number
unfoldable pub send_reply_by : Result Request ℕ → SendReply
send_reply_by (Err n) = record { number = n; call = 0; length = 0; packet = filled request_size [] }
send_reply_by (Ok q) = send_reply (Ok q)

-- what it brings, a value in two's complement
unfoldable pub receive_reply : Result Received Refusal → ReceiveReply
receive_reply a =
    let b = brought a in
    record {
      number = receive_number a;
      kind = b.kind;
      call = b.call;
      value = flip b.result.value;
      lease = b.lease;
      point = b.point;
      outcome = b.result.outcome;
      quality = b.result.quality;
      refusal = b.refusal;
      time = b.result.time;
    }

unfoldable pub receive_reply_by : Result Received ℕ → ReceiveReply
receive_reply_by (Err n) = record { number = n; kind = 0; call = 0; value = 0; lease = 0; point = 0; outcome = 0; quality = 0; refusal = 0; time = 0 }
receive_reply_by (Ok r) = receive_reply (Ok r)

-- i is the place of a packet's call
abbrev pub Placed : List ℕ → ℕ → Type 0
Placed b i = (i ≡ place_of (packet_call b)) × (i < call_window)

-- the kind of what the lease manager gives
unfoldable pub told_kind : Result Told Refusal → ℕ
told_kind (Err e) = 0
told_kind (Ok (ByGrant g)) = grant_kind
told_kind (Ok (ByNotice n)) = notice_kind

unfoldable pub lease_reply : Result Told Refusal → LeaseReply
lease_reply a = record { number = told_number a; kind = told_kind a; length = length (told_bytes a); packet = filled grant_size (told_bytes a) }
