-- What a Rattle value of each type always satisfies: single-byte fields are below 256, words below 2 ^ 32, ends below 2 ^ 64.
-- And what well-formed packets, images and log records are, and how entries of a log follow each other.
-- Assumes nothing.
use Rattle.std.specs.Prelude.{ℕ, ◌+◌, ◌-◌, ◌*◌, ◌≤◌, ◌<◌, ◌≡◌, Bool, true, false, ◌&&◌, List, [], ◌∷◌, ◌++◌, length, take, drop, leb}
use Rattle.model.specs.declared.Request.{Request}
use Rattle.model.specs.declared.ResultPacket.{ResultPacket}
use Rattle.model.specs.declared.RefusalPacket.{RefusalPacket}
use Rattle.model.specs.declared.Receipt.{Receipt}
use Rattle.model.specs.declared.Notice.{Notice}
use Rattle.model.specs.declared.Grant.{Grant}
use Rattle.model.specs.declared.Packet.{Packet}
use Rattle.model.specs.declared.Packet.TheVariants.{Requested, Resulted, Refused, Receipted, Noticed, Granted}
use Rattle.model.specs.declared.Floor.{Floor}
use Rattle.model.specs.declared.ImageEntry.{ImageEntry}
use Rattle.model.specs.declared.PlanEntry.{PlanEntry}
use Rattle.model.specs.declared.Point.{Point}
use Rattle.model.specs.declared.Completion.{Completion}
use Rattle.model.specs.declared.Executed.{Executed}
use Rattle.model.specs.declared.Give.{Give}
use Rattle.model.specs.declared.Release.{Release}
use Rattle.model.specs.Numbers.{word, le32_at, zeros3_at, starts_with}
use Rattle.model.specs.Images.{Image, greatest_of, image_head, image_head_ok, image_tables_ok, image_length, image_bytes}
use Rattle.model.specs.Logs.{LogRecord, executed, gone, gave, took, released, executed_ok, give_ok, release_ok, record_bytes, record_size, cut, extent_of, Entry, entries_bytes}
use Rattle.model.specs.Plan.{plan_entry_ok, plan_row_ok}
use Rattle.model.specs.Tables.{every_row, zeros}
use Rattle.model.specs.States.{State, state_magic, state_head, point_row, points_start, floors_start, state_end, clients_in, records_in, load, point_row_ok, state_ok}
use Rattle.model.specs.Limits.{point_count, client_count, record_count, plan_row, floor_row, request_kind, refusal_kind, receipt_kind, notice_kind, grant_kind}
use Rattle.model_laws.specs.Bytes.{All}
use Rattle.model.specs.Packets.{result_kind_of, request_ok, result_ok, refusal_ok, receipt_ok, notice_ok, grant_ok, packet_bytes}

-- a time in a form with a time, 0 in one without
abbrev pub TimeFits : Bool → ℕ → Type 0
TimeFits true t = t < word
TimeFits false t = t ≡ 0

pub record RequestFits (q : Request) : Type 0 where
  pub op : q.command.op < 256
  pub point : q.command.point < 256
  pub client : q.command.client < word
  pub call : q.command.call < word
  pub done : q.done < word
  pub lease : q.lease < word
  pub argument : q.command.argument < word

pub record ResultFits (r : ResultPacket) : Type 0 where
  pub outcome : r.result.outcome < 256
  pub point : r.point < 256
  pub quality : r.result.quality < 256
  pub client : r.client < word
  pub call : r.call < word
  pub value : r.result.value < word
  pub time : TimeFits r.timed r.result.time

pub record RefusalFits (r : RefusalPacket) : Type 0 where
  pub refusal : r.refusal < 256
  pub point : r.point < 256
  pub client : r.client < word
  pub call : r.call < word

pub record ReceiptFits (r : Receipt) : Type 0 where
  pub point : r.point < 256
  pub server : r.server < 256
  pub move_number : r.move_number < word

pub record NoticeFits (n : Notice) : Type 0 where
  pub client : n.client < word
  pub time : n.time < word

pub record GrantFits (g : Grant) : Type 0 where
  pub client : g.client < word
  pub lease : g.lease < word

-- ---- packets of all kinds

abbrev pub packet_fits : Packet → Type 0
packet_fits (Requested q) = RequestFits q
packet_fits (Resulted r) = ResultFits r
packet_fits (Refused r) = RefusalFits r
packet_fits (Receipted r) = ReceiptFits r
packet_fits (Noticed n) = NoticeFits n
packet_fits (Granted g) = GrantFits g

-- well-formed: of one of the kinds, and its fields in their ranges
abbrev pub packet_ok : Packet → Bool
packet_ok (Requested q) = request_ok q
packet_ok (Resulted r) = result_ok r
packet_ok (Refused r) = refusal_ok r
packet_ok (Receipted r) = receipt_ok r
packet_ok (Noticed n) = notice_ok n
packet_ok (Granted g) = grant_ok g

-- the kind
abbrev pub kind_of : Packet → ℕ
kind_of (Requested q) = request_kind
kind_of (Resulted r) = result_kind_of r.timed
kind_of (Refused r) = refusal_kind
kind_of (Receipted r) = receipt_kind
kind_of (Noticed n) = notice_kind
kind_of (Granted g) = grant_kind

-- p is a well-formed packet, and b are its bytes
pub record IsPacket (b : List ℕ) (p : Packet) : Type 0 where
  pub ok : packet_ok p ≡ true
  pub fits : packet_fits p
  pub same : packet_bytes p ≡ b

-- ---- images

pub record FloorFits (f : Floor) : Type 0 where
  pub client : f.client < word
  pub floor : f.floor < word

pub record ImageEntryFits (timed : Bool) (e : ImageEntry) : Type 0 where
  pub client : e.client < word
  pub call : e.call < word
  pub argument : e.argument < word
  pub value : e.result.value < word
  pub op : e.op < 256
  pub outcome : e.result.outcome < 256
  pub quality : e.result.quality < 256
  pub time : TimeFits timed e.result.time

pub record ImageFits (i : Image) : Type 0 where
  pub point : i.point < 256
  pub destination : i.destination < 256
  pub source : i.source < 256
  pub move_number : i.move_number < word
  pub heard : i.heard < word
  pub value : i.value < word
  pub quality : i.quality < 256
  pub floors : All FloorFits i.floors
  pub entries : All (ImageEntryFits i.timed) i.entries

-- well-formed: the head's fields in their ranges, at most 32 floors, at most as many bytes as its form has, the tables as they should be
unfoldable pub image_well : Image → Bool
image_well i = image_head_ok (image_head i) && (leb (image_length i) (greatest_of i.timed) && image_tables_ok i)

-- i is a well-formed image, and b are its bytes
pub record IsImage (b : List ℕ) (i : Image) : Type 0 where
  pub ok : image_well i ≡ true
  pub fits : ImageFits i
  pub same : image_bytes i ≡ b

-- ---- log records

pub record ExecutedFits (x : Executed) : Type 0 where
  pub op : x.command.op < 256
  pub point : x.command.point < 256
  pub outcome : x.result.outcome < 256
  pub client : x.command.client < word
  pub call : x.command.call < word
  pub done : x.done < word
  pub argument : x.command.argument < word
  pub value : x.result.value < word
  pub quality : x.result.quality < 256
  pub time : TimeFits x.timed x.result.time

pub record GiveFits (g : Give) : Type 0 where
  pub point : g.point < 256
  pub destination : g.destination < 256
  pub move_number : g.move_number < word

pub record ReleaseFits (r : Release) : Type 0 where
  pub point : r.point < 256
  pub move_number : r.move_number < word

abbrev pub record_fits : LogRecord → Type 0
record_fits (executed x) = ExecutedFits x
record_fits (gone n) = NoticeFits n
record_fits (gave g) = GiveFits g
record_fits (took i) = ImageFits i
record_fits (released r) = ReleaseFits r

-- well-formed: fields in their ranges
abbrev pub record_ok : LogRecord → Bool
record_ok (executed x) = executed_ok x
record_ok (gone n) = notice_ok n
record_ok (gave g) = give_ok g
record_ok (took i) = image_well i
record_ok (released r) = release_ok r

-- r is a well-formed record, and the first n bytes of s are its bytes
pub record IsRecord (s : List ℕ) (n : ℕ) (r : LogRecord) : Type 0 where
  pub ok : record_ok r ≡ true
  pub fits : record_fits r
  pub size : n ≡ record_size r
  pub whole : n ≤ length s
  pub same : record_bytes r ≡ take n s

-- ---- logs

-- well-formed records that fit, with consecutive ends: the first starts at place k
pub record EntryFrom (k : ℕ) (e : Entry) : Type 0 where
  pub ok : record_ok e.item ≡ true
  pub fits : record_fits e.item
  pub end : e.end ≡ k + record_size e.item

abbrev pub EntriesFrom : ℕ → List Entry → Type 0
EntriesFrom k [] = Unit
EntriesFrom k (e ∷ es) = EntryFrom k e × EntriesFrom e.end es

-- the entries of records one after the other, the first from place k on
unfoldable pub entries_from : ℕ → List LogRecord → List Entry
entries_from k [] = []
entries_from k (r ∷ rs) = record { item = r; end = k + record_size r } ∷ entries_from (k + record_size r) rs

-- the end of the last entry, k where there is none
unfoldable pub last_end : ℕ → List Entry → ℕ
last_end k [] = k
last_end k (e ∷ es) = last_end e.end es

-- nothing, or an incomplete record
abbrev pub Incomplete : List ℕ → Type 0
Incomplete [] = Unit
Incomplete (b ∷ s) = extent_of (b ∷ s) ≡ cut

-- s, which starts at place k, are the bytes of the entries es and an incomplete record
pub record Walked (k : ℕ) (s : List ℕ) (es : List Entry) : Type 0 where
  pub entries : EntriesFrom k es
  pub rest : List ℕ
  pub split : s ≡ entries_bytes es ++ rest
  pub incomplete : Incomplete rest

-- ---- plans and states

-- an entry of a plan that fits, its fields as they should be
pub record PlanEntryFits (e : PlanEntry) : Type 0 where
  pub low : e.low < word
  pub high : e.high < word
  pub fallback : e.fallback < word
  pub home : e.home < 256
  pub ok : plan_entry_ok e ≡ true

pub record PointFits (x : Point) : Type 0 where
  pub status : x.status < 256
  pub quality : x.quality < 256
  pub destination : x.destination < 256
  pub value : x.value < word
  pub move_number : x.move_number < word
  pub taken_move : x.taken_move < word
  pub give_end : x.give_end < word * word
  pub take_end : x.take_end < word * word

pub record CompletionFits (r : Completion) : Type 0 where
  pub client : r.command.client < word
  pub call : r.command.call < word
  pub argument : r.command.argument < word
  pub value : r.result.value < word
  pub op : r.command.op < 256
  pub outcome : r.result.outcome < 256
  pub quality : r.result.quality < 256
  pub point : r.command.point < 256
  pub time : r.result.time < word
  pub end : r.end < word * word

-- a state that fits, with a plan of 64 entries, 64 points, and the tables in their limits
pub record StateFits (st : State) : Type 0 where
  pub server : st.server < 256
  pub heard : st.heard < word
  pub size : st.size < word * word
  pub mark : st.mark < word * word
  pub plan : All PlanEntryFits st.plan
  pub plan-count : length st.plan ≡ point_count
  pub points : All PointFits st.points
  pub points-count : length st.points ≡ point_count
  pub floors : All FloorFits st.floors
  pub floors-count : length st.floors ≤ client_count
  pub records : All CompletionFits st.records
  pub records-count : length st.records ≤ record_count

-- what `sound` tests, one by one
pub record Sound (s : List ℕ) : Type 0 where
  pub long : state_end ≤ length s
  pub magic : starts_with s state_magic ≡ true
  pub at5 : zeros3_at s 5 ≡ true
  pub at20 : le32_at s 20 ≡ 0
  pub few_clients : clients_in s ≤ client_count
  pub few_records : records_in s ≤ record_count
  pub past-clients : zeros (floor_row * (client_count - clients_in s)) (drop (floors_start + floor_row * clients_in s) s) ≡ true
  pub plan-rows : every_row plan_row_ok plan_row point_count (drop state_head s) ≡ true
  pub point-rows : every_row point_row_ok point_row point_count (drop points_start s) ≡ true
  pub state : state_ok (load s) ≡ true
