-- A server's state within every limit, as propositions: what the tests of States say, with the counts and the widths of fields.
-- Assumes nothing.
use Rattle.std.specs.Prelude.{ℕ, suc, ◌+◌, ◌*◌, ◌≤◌, ◌<◌, ◌≡◌, Bool, true, List, [], ◌∷◌, ◌≢◌, length, eqb}
use Rattle.model.specs.declared.PlanEntry.{PlanEntry}
use Rattle.model.specs.declared.Floor.{Floor}
use Rattle.model.specs.declared.Point.{Point}
use Rattle.model.specs.declared.Completion.{Completion}
use Rattle.model.specs.declared.ImageEntry.{ImageEntry}
use Rattle.model.specs.declared.Executed.{Executed}
use Rattle.model.specs.declared.Request.{Request}
use Rattle.model.specs.declared.Notice.{Notice}
use Rattle.model.specs.declared.Give.{Give}
use Rattle.model.specs.declared.Release.{Release}
use Rattle.model.specs.Numbers.{word}
use Rattle.model.specs.Limits.{last_point, last_server, last_quality, last_op, last_in_window, point_count, client_count, record_count, head_size, invalid}
use Rattle.model.specs.Plan.{entry_at}
use Rattle.model.specs.Packets.{command_ok, outcome_ok, request_ok}
use Rattle.model.specs.Images.{Image, floor_of}
use Rattle.model.specs.Logs.{LogRecord, executed, gone, gave, took, released, executed_ok}
use Rattle.model.specs.States.{State, point_at, ends_in_order, absent as absentStatus, held as heldStatus, given as givenStatus, released_status}
use Rattle.model_laws.specs.Bytes.{All}
use Rattle.model_laws.specs.Fits.{TimeFits}

-- ---- parts

-- low ≤ fallback ≤ high, in 32 bits; home 0 to 15
pub record GoodEntry (e : PlanEntry) : Type 0 where
  pub home : e.home ≤ last_server
  pub low : e.low ≤ e.fallback
  pub high : e.fallback ≤ e.high
  pub fits : e.high < word

-- v lies in the range of e
pub record Ranged (e : PlanEntry) (v : ℕ) : Type 0 where
  pub low : e.low ≤ v
  pub high : v ≤ e.high

-- 0, or not under the log's head and not past its end
pub record GoodEnd (size end : ℕ) : Type 0 where
  pub past : end ≢ 0 → head_size ≤ end
  pub within : end ≤ size

-- never taken: founded here; else the take has an end
pub record Origin (server home taken took : ℕ) : Type 0 where
  pub founded : taken ≡ 0 → home ≡ server
  pub untaken : taken ≡ 0 → took ≡ 0
  pub taken_at : taken ≢ 0 → 1 ≤ took

-- as founding left it, at a server that is not its home
pub record Untouched (server : ℕ) (e : PlanEntry) (x : Point) : Type 0 where
  pub home : e.home ≢ server
  pub value : x.value ≡ e.fallback
  pub quality : x.quality ≡ invalid
  pub move_number : x.move_number ≡ 0
  pub taken_move : x.taken_move ≡ 0
  pub take_end : x.take_end ≡ 0

-- what a point's status says of its other fields
pub record Standing (server : ℕ) (e : PlanEntry) (x : Point) : Type 0 where
  pub absent : x.status ≡ absentStatus → Untouched server e x
  pub held : x.status ≡ heldStatus → x.move_number ≡ x.taken_move
  pub given : givenStatus ≤ x.status → x.move_number ≡ suc x.taken_move
  pub away : givenStatus ≤ x.status → x.destination ≢ server
  pub ended : givenStatus ≤ x.status → ends_in_order x.take_end x.give_end ≡ true
  pub stays : x.status < givenStatus → x.destination ≡ 0
  pub unended : x.status < givenStatus → x.give_end ≡ 0
  pub origin : heldStatus ≤ x.status → Origin server e.home x.taken_move x.take_end

pub record GoodPoint (server size : ℕ) (e : PlanEntry) (x : Point) : Type 0 where
  pub status : x.status ≤ released_status
  pub quality : x.quality ≤ last_quality
  pub destination : x.destination ≤ last_server
  pub value : Ranged e x.value
  pub give_end : GoodEnd size x.give_end
  pub take_end : GoodEnd size x.take_end
  pub standing : Standing server e x
  pub taken_move : x.taken_move ≤ x.move_number
  pub move_number : x.move_number < word

-- held, or given and not released
pub record Keeps (x : Point) : Type 0 where
  pub low : heldStatus ≤ x.status
  pub high : x.status ≤ givenStatus

pub record GoodFloor (f : Floor) : Type 0 where
  pub client : 1 ≤ f.client
  pub floor : 1 ≤ f.floor
  pub client-fits : f.client < word
  pub floor-fits : f.floor < word

-- every client is above x
abbrev pub Above : ℕ → List Floor → Type 0
Above x fs = All (λ (f : Floor). x < f.client) fs

-- strictly ascending by client
abbrev pub Ascending : List Floor → Type 0
Ascending [] = Unit
Ascending (f ∷ fs) = Above f.client fs × Ascending fs

-- the client has a floor, and the call is from floor to floor + 15
pub record InWindow (floor call : ℕ) : Type 0 where
  pub known : 1 ≤ floor
  pub low : floor ≤ call
  pub high : call ≤ floor + last_in_window

-- a completion record's own fields
pub record GoodCompletion (plan : List PlanEntry) (size : ℕ) (r : Completion) : Type 0 where
  pub command : command_ok r.command.op r.command.point r.command.argument ≡ true
  pub outcome : outcome_ok r.result.outcome r.result.quality ≡ true
  pub client : 1 ≤ r.command.client
  pub call : 1 ≤ r.command.call
  pub client-fits : r.command.client < word
  pub call_fits : r.command.call < word
  pub value : Ranged (entry_at plan r.command.point) r.result.value
  pub time : r.result.time < word
  pub past : head_size ≤ r.end
  pub within : r.end ≤ size

-- its call against its client's floor
abbrev pub Windowed : List Floor → Completion → Type 0
Windowed fs r = InWindow (floor_of r.command.client fs) r.command.call

-- each record against every later one
abbrev pub Pairs : (Completion → Completion → Type 0) → List Completion → Type 0
Pairs R [] = Unit
Pairs R (r ∷ rs) = All (R r) rs × Pairs R rs

-- another id
abbrev pub Other : Completion → Completion → Type 0
Other r q = r.command.client ≡ q.command.client → r.command.call ≡ q.command.call → ⊥

-- no id stands twice
abbrev pub Distinct : List Completion → Type 0
Distinct rs = Pairs Other rs

-- an end that is not below
abbrev pub NotBelow : Completion → Completion → Type 0
NotBelow r q = r.end ≤ q.end

-- in order of arrival
abbrev pub Arrived : List Completion → Type 0
Arrived rs = Pairs NotBelow rs

-- calls from floor to floor + n - 1
pub record CallIn (floor n : ℕ) (r : Completion) : Type 0 where
  pub low : floor ≤ r.command.call
  pub high : r.command.call < floor + n

-- the records of one client
unfoldable pub is_of : ℕ → Completion → Bool
is_of x r = eqb r.command.client x

-- ---- the whole state

-- P bounds the log's length
pub record SoundBy (P : ℕ → Type 0) (st : State) : Type 0 where
  pub server : st.server ≤ last_server
  pub heard : st.heard < word
  pub head : head_size ≤ st.mark
  pub mark : st.mark ≤ st.size
  pub size : P st.size
  pub plan : length st.plan ≡ point_count
  pub entries : All GoodEntry st.plan
  pub points : length st.points ≡ point_count
  pub point : (p : ℕ) → p ≤ last_point → GoodPoint st.server st.size (entry_at st.plan p) (point_at st p)
  pub clients : length st.floors ≤ client_count
  pub floors : All GoodFloor st.floors
  pub ascending : Ascending st.floors
  pub count : length st.records ≤ record_count
  pub records : All (GoodCompletion st.plan st.size) st.records
  pub windows : All (Windowed st.floors) st.records
  pub kept : All (λ (r : Completion). Keeps (point_at st r.command.point)) st.records
  pub ids : Distinct st.records
  pub arrived : Arrived st.records

-- a number of 64 bits
abbrev pub In64 : ℕ → Type 0
In64 k = k < word * word

-- as a server's buffer holds it
abbrev pub Sound : State → Type 0
Sound st = SoundBy In64 st

-- ---- images

-- an id before another: by client, then call
pub record Before (e f : ImageEntry) : Type 0 where
  pub client : e.client ≤ f.client
  pub call : e.client ≡ f.client → e.call < f.call

-- strictly ascending by client, then call
abbrev pub EntriesAscending : List ImageEntry → Type 0
EntriesAscending [] = Unit
EntriesAscending (e ∷ es) = All (Before e) es × EntriesAscending es

-- a record of the point p among floors fs, in an image of that form
pub record GoodImageEntry (timed : Bool) (p : ℕ) (fs : List Floor) (e : ImageEntry) : Type 0 where
  pub command : command_ok e.op p e.argument ≡ true
  pub outcome : outcome_ok e.result.outcome e.result.quality ≡ true
  pub client : 1 ≤ e.client
  pub call : 1 ≤ e.call
  pub client-fits : e.client < word
  pub call_fits : e.call < word
  pub value-fits : e.result.value < word
  pub time : TimeFits timed e.result.time
  pub window : InWindow (floor_of e.client fs) e.call

-- all rules but the one on values, which needs the plan
pub record GoodImage (i : Image) : Type 0 where
  pub point : i.point ≤ last_point
  pub destination : i.destination ≤ last_server
  pub source : i.source ≤ last_server
  pub quality : i.quality ≤ last_quality
  pub move_number : i.move_number < word
  pub heard : i.heard < word
  pub value : i.value < word
  pub clients : length i.floors ≤ client_count
  pub floors : All GoodFloor i.floors
  pub ascending : Ascending i.floors
  pub count : length i.entries ≤ record_count
  pub entries : All (GoodImageEntry i.timed i.point i.floors) i.entries
  pub ids : EntriesAscending i.entries

-- the values lie in the range of e
pub record GoodValues (e : PlanEntry) (i : Image) : Type 0 where
  pub value : Ranged e i.value
  pub values : All (λ (r : ImageEntry). Ranged e r.result.value) i.entries

-- ---- log records that keep their layout, requests that keep theirs

pub record GoodRequest (q : Request) : Type 0 where
  pub ok : request_ok q ≡ true
  pub client : q.command.client < word
  pub call : q.command.call < word

pub record GoodExecuted (x : Executed) : Type 0 where
  pub ok : executed_ok x ≡ true
  pub client : x.command.client < word
  pub call : x.command.call < word
  pub value : x.result.value < word
  pub time : TimeFits x.timed x.result.time

pub record GoodNotice (n : Notice) : Type 0 where
  pub ok : 1 ≤ n.client
  pub client : n.client < word
  pub time : n.time < word

pub record GoodGive (g : Give) : Type 0 where
  pub point : g.point ≤ last_point
  pub destination : g.destination ≤ last_server
  pub move_number : g.move_number < word

pub record GoodRelease (r : Release) : Type 0 where
  pub point : r.point ≤ last_point
  pub move_number : r.move_number < word

abbrev pub GoodRecord : LogRecord → Type 0
GoodRecord (executed x) = GoodExecuted x
GoodRecord (gone n) = GoodNotice n
GoodRecord (gave g) = GoodGive g
GoodRecord (took i) = GoodImage i
GoodRecord (released r) = GoodRelease r

-- what the tests of a command say
pub record CommandFits (o p a : ℕ) : Type 0 where
  pub op : o ≤ last_op
  pub point : p ≤ last_point
  pub argument : a < word

-- the tests of an executed record
pub record Tested (x : Executed) : Type 0 where
  pub command : command_ok x.command.op x.command.point x.command.argument ≡ true
  pub outcome : outcome_ok x.result.outcome x.result.quality ≡ true
  pub quality : x.result.quality ≤ last_quality
  pub client : 1 ≤ x.command.client
  pub call : 1 ≤ x.command.call
  pub done : 1 ≤ x.done
  pub low : x.done ≤ x.command.call
  pub high : x.command.call ≤ x.done + last_in_window
