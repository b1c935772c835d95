-- A server (paper: cabinet) as its log: records, the state that replay makes of them, packets. The definitions follow those of `model` on
-- numbers instead of bytes; values are over the integers. Added are an entry's event number and length, the version that a command was
-- executed by, and a point's past, all its executions so far.
-- Assumes nothing.
use Rattle.std.specs.Prelude.{ℕ, suc, max, Bool, not, ◌||◌, List, [], ◌∷◌, ◌++◌, map, leb, eqb}
use Rattle.model.specs.declared.PlanEntry.{PlanEntry}
use Rattle.model.specs.declared.Command.{Command}
use Rattle.model.specs.declared.Floor.{Floor}
use Rattle.model.specs.Choice.{pick}
use Rattle.model.specs.Numbers.{signed}
use Rattle.model.specs.Tables.{keep}
use Rattle.model.specs.Plan.{entry_at}
use Rattle.model.specs.Images.{floor_of}
use Rattle.model.specs.Apply.{raise, merge_floors, is_not_client}
use Rattle.model.specs.Versions.{Version}
use Rattle.model.specs.Sequential.{ReadingZ, ResultZ, entry_z, after_z, rule_z, opened}

abbrev pub Plan : Type 0
Plan = List PlanEntry

-- what a version of its op's rule makes of a command on a value
unfoldable pub rule_at : Plan → Version → Command → ReadingZ → ResultZ
rule_at plan v k x = rule_z v (entry_z (entry_at plan k.point)) k.op (signed k.argument) x

-- ---- records and images

-- what a command is remembered by
pub record Id : Type 0 where
  pub client : ℕ
  pub call : ℕ

abbrev pub id_of : Command → Id
id_of k = record { client = k.client; call = k.call }

-- a command's result, as records hold it and packets tell it
pub record Result : Type 0 where
  pub answer : ResultZ  -- what the sequential specification answers
  pub time : ℕ  -- the time of execution, of which nothing is asked but that it stays

-- a completion record; `place` is the number of the log record that brought it, counted from 1
pub record Completion : Type 0 where
  pub id : Id
  pub point : ℕ
  pub res : Result
  pub place : ℕ

-- an execution, with the version it was by and the number of the event that made it
pub record Execution : Type 0 where
  pub version : Version
  pub cmd : Command
  pub res : Result
  pub at : ℕ

pub record Image : Type 0 where
  pub point : ℕ
  pub destination : ℕ
  pub move : ℕ
  pub heard : ℕ
  pub value : ReadingZ
  pub floors : List Floor
  pub records : List Completion
  pub past : List Execution  -- all executions of the point so far

pub data LogRecord : Type 0 where
  executed : Version → Command → ℕ → Result → LogRecord  -- version, command, done, result
  gone : ℕ → ℕ → LogRecord  -- client, time
  gave : ℕ → ℕ → ℕ → LogRecord  -- point, destination, move
  took : Image → LogRecord
  freed : ℕ → ℕ → LogRecord  -- release: point, the give's move

-- a log record, with the number of the event that appended it, and its length in bytes: of two records of one content an old form is shorter
pub record Entry : Type 0 where
  pub item : LogRecord
  pub at : ℕ
  pub bytes : ℕ

-- ---- state

pub data Holding : Type 0 where
  absent held released : Holding
  given : ℕ → ℕ → Holding  -- destination, the give's place

-- `taken` is the latest taken move, 0 if never
pub record Point : Type 0 where
  pub holding : Holding
  pub move : ℕ
  pub taken : ℕ
  pub value : ReadingZ
  pub past : List Execution

-- `floors` by client, `records` in order of arrival, `count` the log records so far
pub record State : Type 0 where
  pub points : ℕ → Point
  pub floors : List Floor
  pub records : List Completion
  pub heard : ℕ
  pub count : ℕ

abbrev pub at_point : (ℕ → Point) → ℕ → Point → ℕ → Point
at_point f p x q = pick (eqb q p) x (f q)

-- ---- completion records: what stays

-- of client x only calls from the floor on
unfoldable pub stays_over : ℕ → ℕ → Completion → Bool
stays_over x floor r = not (eqb r.id.client x) || leb floor r.id.call

unfoldable pub stays_over_floors : List Floor → Completion → Bool
stays_over_floors fs r = leb (floor_of r.id.client fs) r.id.call

unfoldable pub is_of_other : ℕ → Completion → Bool
is_of_other x r = not (eqb r.id.client x)

unfoldable pub is_on_other : ℕ → Completion → Bool
is_on_other p r = not (eqb r.point p)

-- a record of an image, at its place in the taker's log
unfoldable pub taken_record : ℕ → Completion → Completion
taken_record n r = record { id = r.id; point = r.point; res = r.res; place = n }

-- ---- replay: the one way a state changes

unfoldable pub executed_point : Version → Command → Result → ℕ → Point → Point
executed_point v k r t x =
    record {
      holding = x.holding;
      move = x.move;
      taken = x.taken;
      value = after_z r.answer;
      past = record { version = v; cmd = k; res = r; at = t } ∷ x.past;
    }

unfoldable pub gave_point : ℕ → ℕ → ℕ → Point → Point
gave_point d m n x = record { holding = given d n; move = m; taken = x.taken; value = x.value; past = x.past }

unfoldable pub took_point : Image → Point
took_point i = record { holding = held; move = i.move; taken = i.move; value = i.value; past = i.past }

unfoldable pub freed_point : Point → Point
freed_point x = record { holding = released; move = x.move; taken = x.taken; value = x.value; past = x.past }

-- the record r, appended by event t
unfoldable pub apply_record : State → LogRecord → ℕ → State
apply_record s (executed v k done r) t =
    let fs = raise k.client done s.floors in
    record {
      points = at_point s.points k.point (executed_point v k r t (s.points k.point));
      floors = fs;
      records =
          keep (stays_over k.client (floor_of k.client fs))
          (s.records ++ (record { id = id_of k; point = k.point; res = r; place = suc s.count } ∷ []));
      heard = s.heard;
      count = suc s.count;
    }
apply_record s (gone x time) t =
    record {
      points = s.points;
      floors = keep (is_not_client x) s.floors;
      records = keep (is_of_other x) s.records;
      heard = max s.heard time;
      count = suc s.count;
    }
apply_record s (gave p d m) t =
    record {
      points = at_point s.points p (gave_point d m (suc s.count) (s.points p));
      floors = s.floors;
      records = s.records;
      heard = s.heard;
      count = suc s.count;
    }
apply_record s (took i) t =
    let fs = merge_floors i.floors s.floors in
    record {
      points = at_point s.points i.point (took_point i);
      floors = fs;
      records = keep (stays_over_floors fs) (keep (is_on_other i.point) s.records ++ map (taken_record (suc s.count)) i.records);
      heard = max s.heard i.heard;
      count = suc s.count;
    }
apply_record s (freed p m) t =
    record {
      points = at_point s.points p (freed_point (s.points p));
      floors = s.floors;
      records = keep (is_on_other p) s.records;
      heard = s.heard;
      count = suc s.count;
    }

unfoldable pub apply : State → Entry → State
apply s e = apply_record s e.item e.at

-- a point at its home is held, elsewhere absent: value = fallback, quality 1, move number 0
unfoldable pub founded_point : Plan → ℕ → ℕ → Point
founded_point plan c p =
    record { holding = pick (eqb (entry_at plan p).home c) held absent; move = 0; taken = 0; value = opened plan p; past = [] }

unfoldable pub founding : Plan → ℕ → State
founding plan c = record { points = founded_point plan c; floors = []; records = []; heard = 0; count = 0 }

-- the state of server c's log. A log is written newest first, so that every earlier log is a tail of it
unfoldable pub replay : Plan → ℕ → List Entry → State
replay plan c [] = founding plan c
replay plan c (e ∷ es) = apply (replay plan c es) e

-- ---- packets

pub record Asked : Type 0 where
  pub cmd : Command
  pub done : ℕ
  pub lease : ℕ

pub data Packet : Type 0 where
  request : Asked → Packet
  answered : Id → ℕ → Result → Packet  -- a result: whose, at which point
  receipt : ℕ → ℕ → ℕ → Packet  -- point, server, move
  notice : ℕ → ℕ → Packet  -- client, time
  grant : ℕ → ℕ → Packet  -- client, lease end
  image : Image → Packet

-- the image of a point that is given to d, with the completion records rs
unfoldable pub image_for : State → ℕ → ℕ → List Completion → Image
image_for s p d rs =
    record {
      point = p;
      destination = d;
      move = (s.points p).move;
      heard = s.heard;
      value = (s.points p).value;
      floors = s.floors;
      records = rs;
      past = (s.points p).past;
    }
