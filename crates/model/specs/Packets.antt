-- The packets: parse and write. The first byte is the kind; a result has two, without a time of execution and with one. None is another length or kind, a zero byte that is
-- not zero, or a field outside its range, the op's argument included.
-- Assumes nothing.
use Rattle.std.specs.Prelude.{ℕ, ◌+◌, Bool, true, false, ◌&&◌, List, [], ◌∷◌, ◌++◌, length, get_or, eqb, leb, Option, Some, None}
use Rattle.std.proofs.Math.Option.{Option as Maybe, none, some}
use Rattle.model.specs.declared.Request.{Request}
use Rattle.model.specs.declared.ResultPacket.{ResultPacket}
use Rattle.model.specs.declared.RefusalPacket.{RefusalPacket}
use Rattle.model.specs.declared.Receipt.{Receipt}
use Rattle.model.specs.declared.Notice.{Notice}
use Rattle.model.specs.declared.Grant.{Grant}
use Rattle.model.specs.declared.Packet.{Packet}
use Rattle.model.specs.declared.Packet.TheVariants.{Requested, Resulted, Refused, Receipted, Noticed, Granted}
use Rattle.model.specs.Choice.{pick}
use Rattle.model.specs.Numbers.{byte_at, le32_at, le32, signed_at, signed32, zero_at, zeros3_at, quad}
use Rattle.model.specs.Rules.{argument_ok}
use Rattle.model.specs.Limits.{last_point, last_server, last_outcome, last_quality, last_in_window}
use Rattle.model.specs.Limits.{request_kind, first_result_kind, refusal_kind, receipt_kind, notice_kind, grant_kind, result_kind}
use Rattle.model.specs.Limits.{request_size, first_result_size, refusal_size, receipt_size, notice_size, grant_size, result_size}
use Rattle.model.specs.Refusals.{first_denied, last_denied}

-- the lengths by kind; there is no kind 0
abbrev pub packet_lengths : List ℕ
packet_lengths = 0 ∷ request_size ∷ first_result_size ∷ refusal_size ∷ receipt_size ∷ notice_size ∷ grant_size ∷ result_size ∷ []

unfoldable pub packet_length : ℕ → ℕ
packet_length kind = get_or packet_lengths kind 0

-- fields that stand in several packets and records
unfoldable pub id_ok : ℕ → ℕ → Bool
id_ok client call = leb 1 client && leb 1 call

-- 1 ≤ done ≤ call, and call − done ≤ 15
unfoldable pub done_ok : ℕ → ℕ → Bool
done_ok done call = leb 1 done && (leb done call && leb call (done + last_in_window))

-- op 0 to 5 with its argument in its range, point 0 to 63
unfoldable pub command_ok : ℕ → ℕ → ℕ → Bool
command_ok op point a = argument_ok op a && leb point last_point

-- outcome 0 to 4, quality 0 or 1
unfoldable pub outcome_ok : ℕ → ℕ → Bool
outcome_ok outcome quality = leb outcome last_outcome && leb quality last_quality

-- ---- 1 request: op, point, 0, client, call, done, lease end, argument

unfoldable pub request_at : List ℕ → Request
request_at p =
    record {
      command =
          record { client = le32_at p 4; call = le32_at p 8; op = byte_at p 1; point = byte_at p 2; argument = signed_at p 20 };
      done = le32_at p 12;
      lease = le32_at p 16;
    }

unfoldable pub request_ok : Request → Bool
request_ok q =
    let c = q.command in
    command_ok c.op c.point c.argument && (id_ok c.client c.call && done_ok q.done c.call)

unfoldable pub request_bytes : Request → List ℕ
request_bytes q =
    let c = q.command in
    quad request_kind c.op c.point 0
    ++ (le32 c.client ++ (le32 c.call ++ (le32 q.done ++ (le32 q.lease ++ signed32 c.argument))))

-- ---- 2, 7 result: outcome, point, quality, client, call, value; in 7 the time. Without one it is 0

-- a time of 4 bytes at place k, in the form that has one
unfoldable pub time_at : Bool → List ℕ → ℕ → ℕ
time_at timed s k = pick timed (le32_at s k) 0

unfoldable pub time_bytes : Bool → ℕ → List ℕ
time_bytes timed t = pick timed (le32 t) []

-- kind and bytes by form
unfoldable pub result_kind_of : Bool → ℕ
result_kind_of timed = pick timed result_kind first_result_kind

unfoldable pub result_size_of : Bool → ℕ
result_size_of timed = pick timed result_size first_result_size

unfoldable pub result_at : Bool → List ℕ → ResultPacket
result_at timed p =
    record {
      client = le32_at p 4;
      call = le32_at p 8;
      point = byte_at p 2;
      result = record { outcome = byte_at p 1; value = signed_at p 12; quality = byte_at p 3; time = time_at timed p 16 };
      timed = timed;
    }

unfoldable pub result_ok : ResultPacket → Bool
result_ok r =
    leb r.point last_point && (outcome_ok r.result.outcome r.result.quality && id_ok r.client r.call)

unfoldable pub result_bytes : ResultPacket → List ℕ
result_bytes r =
    quad (result_kind_of r.timed) r.result.outcome r.point r.result.quality
    ++ (le32 r.client ++ (le32 r.call ++ (signed32 r.result.value ++ time_bytes r.timed r.result.time)))

-- ---- 3 refusal: its number (3 to 9), point, 0, client, call

unfoldable pub refusal_at : List ℕ → RefusalPacket
refusal_at p = record { refusal = byte_at p 1; point = byte_at p 2; client = le32_at p 4; call = le32_at p 8 }

unfoldable pub refusal_ok : RefusalPacket → Bool
refusal_ok r = leb first_denied r.refusal && (leb r.refusal last_denied && (leb r.point last_point && id_ok r.client r.call))

unfoldable pub refusal_bytes : RefusalPacket → List ℕ
refusal_bytes r = quad refusal_kind r.refusal r.point 0 ++ (le32 r.client ++ le32 r.call)

-- ---- 4 receipt: point, server (the taker), 0, move

unfoldable pub receipt_at : List ℕ → Receipt
receipt_at p = record { point = byte_at p 1; server = byte_at p 2; move_number = le32_at p 4 }

unfoldable pub receipt_ok : Receipt → Bool
receipt_ok r = leb r.point last_point && leb r.server last_server

unfoldable pub receipt_bytes : Receipt → List ℕ
receipt_bytes r = quad receipt_kind r.point r.server 0 ++ le32 r.move_number

-- ---- 5 notice: three zeros, client, time; log record 2 is the same with its own kind

unfoldable pub notice_at : List ℕ → Notice
notice_at p = record { client = le32_at p 4; time = le32_at p 8 }

unfoldable pub notice_ok : Notice → Bool
notice_ok n = leb 1 n.client

unfoldable pub notice_bytes : ℕ → Notice → List ℕ
notice_bytes kind n = quad kind 0 0 0 ++ (le32 n.client ++ le32 n.time)

-- ---- 6 grant: three zeros, client, lease end

unfoldable pub grant_at : List ℕ → Grant
grant_at p = record { client = le32_at p 4; lease = le32_at p 8 }

unfoldable pub grant_ok : Grant → Bool
grant_ok g = leb 1 g.client

unfoldable pub grant_bytes : Grant → List ℕ
grant_bytes g = quad grant_kind 0 0 0 ++ (le32 g.client ++ le32 g.lease)

-- ---- all kinds

-- a packet of its kind's length whose zero bytes and fields are as they should be
unfoldable pub whole : List ℕ → ℕ → Bool → Packet → Option Packet
whole p kind ok found = pick (eqb (length p) (packet_length kind)) (pick ok (Some found) None) None

unfoldable pub parse_request : List ℕ → Option Packet
parse_request p = whole p request_kind (zero_at p 3 && request_ok (request_at p)) (Requested (request_at p))

unfoldable pub parse_result : Bool → List ℕ → Option Packet
parse_result timed p = whole p (result_kind_of timed) (result_ok (result_at timed p)) (Resulted (result_at timed p))

unfoldable pub parse_refusal : List ℕ → Option Packet
parse_refusal p = whole p refusal_kind (zero_at p 3 && refusal_ok (refusal_at p)) (Refused (refusal_at p))

unfoldable pub parse_receipt : List ℕ → Option Packet
parse_receipt p = whole p receipt_kind (zero_at p 3 && receipt_ok (receipt_at p)) (Receipted (receipt_at p))

unfoldable pub parse_notice : List ℕ → Option Packet
parse_notice p = whole p notice_kind (zeros3_at p 1 && notice_ok (notice_at p)) (Noticed (notice_at p))

unfoldable pub parse_grant : List ℕ → Option Packet
parse_grant p = whole p grant_kind (zeros3_at p 1 && grant_ok (grant_at p)) (Granted (grant_at p))

unfoldable pub parse_packet : List ℕ → Option Packet
parse_packet p =
    pick (eqb (byte_at p 0) request_kind) (parse_request p)
    (pick (eqb (byte_at p 0) first_result_kind) (parse_result false p)
    (pick (eqb (byte_at p 0) refusal_kind) (parse_refusal p)
    (pick (eqb (byte_at p 0) receipt_kind) (parse_receipt p)
    (pick (eqb (byte_at p 0) notice_kind) (parse_notice p)
    (pick (eqb (byte_at p 0) grant_kind) (parse_grant p)
    (pick (eqb (byte_at p 0) result_kind) (parse_result true p) None))))))

-- the bytes of a packet
unfoldable pub packet_bytes : Packet → List ℕ
packet_bytes (Requested q) = request_bytes q
packet_bytes (Resulted r) = result_bytes r
packet_bytes (Refused r) = refusal_bytes r
packet_bytes (Receipted r) = receipt_bytes r
packet_bytes (Noticed n) = notice_bytes notice_kind n
packet_bytes (Granted g) = grant_bytes g

-- the packet of one kind, none of any other and of bytes that are none
unfoldable pub as_request : Option Packet → Maybe Request
as_request None = none
as_request (Some (Requested q)) = some q
as_request (Some (Resulted r)) = none
as_request (Some (Refused r)) = none
as_request (Some (Receipted r)) = none
as_request (Some (Noticed n)) = none
as_request (Some (Granted g)) = none

unfoldable pub as_receipt : Option Packet → Maybe Receipt
as_receipt None = none
as_receipt (Some (Requested q)) = none
as_receipt (Some (Resulted r)) = none
as_receipt (Some (Refused r)) = none
as_receipt (Some (Receipted r)) = some r
as_receipt (Some (Noticed n)) = none
as_receipt (Some (Granted g)) = none

unfoldable pub as_notice : Option Packet → Maybe Notice
as_notice None = none
as_notice (Some (Requested q)) = none
as_notice (Some (Resulted r)) = none
as_notice (Some (Refused r)) = none
as_notice (Some (Receipted r)) = none
as_notice (Some (Noticed n)) = some n
as_notice (Some (Granted g)) = none

abbrev pub as_grant : Option Packet → Maybe Grant
as_grant None = none
as_grant (Some (Requested q)) = none
as_grant (Some (Resulted r)) = none
as_grant (Some (Refused r)) = none
as_grant (Some (Receipted r)) = none
as_grant (Some (Noticed n)) = none
as_grant (Some (Granted g)) = some g

-- the packets that a client receives: kinds 2 and 7, 3 and 6
pub data ClientPacket : Type 0 where
  result : ResultPacket → ClientPacket
  refusal : RefusalPacket → ClientPacket
  grant : Grant → ClientPacket

abbrev pub as_client_packet : Option Packet → Maybe ClientPacket
as_client_packet None = none
as_client_packet (Some (Requested q)) = none
as_client_packet (Some (Resulted r)) = some (result r)
as_client_packet (Some (Refused r)) = some (refusal r)
as_client_packet (Some (Receipted r)) = none
as_client_packet (Some (Noticed n)) = none
as_client_packet (Some (Granted g)) = some (grant g)
