-- What a call of a server that is not refused says of its state, on `model`'s own State: what is appended and told, with what the tests passed leave.
-- Assumes nothing.
use Rattle.std.specs.Prelude.{ℕ, suc, ◌≤◌, ◌<◌, ◌≡◌, List, ◌≢◌, Some}
use Rattle.std.proofs.Math.Option.{none, some}
use Rattle.model.specs.declared.Request.{Request}
use Rattle.model.specs.declared.Notice.{Notice}
use Rattle.model.specs.declared.Receipt.{Receipt}
use Rattle.model.specs.declared.RefusalPacket.{RefusalPacket}
use Rattle.model.specs.declared.Completion.{Completion}
use Rattle.model.specs.declared.Packet.TheVariants.{Requested, Receipted, Noticed}
use Rattle.model.specs.Choice.{refuse, deny, reply, append, marks}
use Rattle.model.specs.Limits.{last_point}
use Rattle.model.specs.Versions.{Versions}
use Rattle.model.specs.Packets.{parse_packet, result_bytes, refusal_bytes, receipt_bytes}
use Rattle.model.specs.Images.{Image, parse_image, image_bytes, floor_of}
use Rattle.model.specs.Logs.{LogRecord, executed, gone, gave, took, released}
use Rattle.model.specs.States.{State, point_at, held, given}
use Rattle.model.specs.Decisions.{Decided, timed_by, find, result_of_record, executed_for, decide_request, decide_notice, on_give, image_for, decide_take, decide_release}
use Rattle.model.specs.Calls.{Operation, request, fetch, sync, notice, give, image, take_in, receipt, release}

module _ (st : State) (free : ℕ) where
  pub data Appends : Operation → LogRecord → Type 0 where
    executes : (v : Versions) (b : List ℕ) (q : Request) → parse_packet b ≡ Some (Requested q) → (point_at st q.command.point).status ≡ held → st.heard < q.lease
        → floor_of q.command.client st.floors ≤ q.command.call → find q.command.client q.command.call st.records ≡ none
        → decide_request v st free q ≡ append (executed (executed_for v st q)) → Appends (request v b) (executed (executed_for v st q))
    goes : (b : List ℕ) (n : Notice) → parse_packet b ≡ Some (Noticed n) → decide_notice st free n ≡ append (gone n) → Appends (notice b) (gone n)
    gives : (p d : ℕ) → p ≤ last_point → (point_at st p).status ≡ held
        → on_give st free p d ≡ append (gave (record { point = p; destination = d; move_number = suc (point_at st p).move_number }))
        → Appends (give p d) (gave (record { point = p; destination = d; move_number = suc (point_at st p).move_number }))
    takes : (b : List ℕ) (i : Image) → parse_image b ≡ some i → i.destination ≡ st.server → (point_at st i.point).move_number < i.move_number
        → (point_at st i.point).status ≢ held → decide_take st free i ≡ append (took i) → Appends (take_in b) (took i)
    frees : (b : List ℕ) (r : Receipt) → parse_packet b ≡ Some (Receipted r) → (point_at st r.point).status ≡ given → (point_at st r.point).move_number ≤ r.move_number
        → decide_release st free r.point r.move_number ≡ append (released (record { point = r.point; move_number = (point_at st r.point).move_number }))
        → Appends (release b) (released (record { point = r.point; move_number = (point_at st r.point).move_number }))

  pub data Replies : Operation → List ℕ → Type 0 where
    repeats : (v : Versions) (b : List ℕ) (x c : ℕ) (r : Completion) → find x c st.records ≡ some r → r.end ≤ st.mark → Replies (request v b) (result_bytes (result_of_record (timed_by v st) r))
    fetches : (v : Versions) (x c : ℕ) (r : Completion) → find x c st.records ≡ some r → r.end ≤ st.mark → Replies (fetch v x c) (result_bytes (result_of_record (timed_by v st) r))
    images : (v : Versions) (p : ℕ) → p ≤ last_point → (point_at st p).status ≡ given → (point_at st p).give_end ≤ st.mark → Replies (image v p) (image_bytes (image_for v st p))
    receipts : (p : ℕ) → p ≤ last_point → (point_at st p).taken_move ≢ 0 → (point_at st p).take_end ≤ st.mark
        → Replies (receipt p) (receipt_bytes (record { point = p; server = st.server; move_number = (point_at st p).taken_move }))

  -- what the decision of a call shows; a refusal only that it has a number, and its packet is one of a refusal
  abbrev pub Shows : Operation → Decided → Type 0
  Shows o (refuse n) = n ≢ 0
  Shows o (deny n b) = (n ≢ 0) × ((r : RefusalPacket) × (b ≡ refusal_bytes r))
  Shows o (reply b) = Replies o b
  Shows o (append r) = Appends o r
  Shows o (marks m) = (o ≡ sync m) × (st.mark ≤ m) × (m ≤ st.size)
