-- The one way a state changes: a log record is applied. Operations and recovery share it.
-- Assumes nothing.
use Rattle.std.specs.Prelude.{ℕ, max, Bool, ◌||◌, not, List, [], ◌∷◌, ◌++◌, map, set, eqb, leb, ltb}
use Rattle.model.specs.declared.PlanEntry.{PlanEntry}
use Rattle.model.specs.declared.Floor.{Floor}
use Rattle.model.specs.declared.ImageEntry.{ImageEntry}
use Rattle.model.specs.declared.Executed.{Executed}
use Rattle.model.specs.declared.Notice.{Notice}
use Rattle.model.specs.declared.Give.{Give}
use Rattle.model.specs.declared.Release.{Release}
use Rattle.model.specs.declared.Point.{Point}
use Rattle.model.specs.declared.Completion.{Completion}
use Rattle.model.specs.Choice.{pick}
use Rattle.model.specs.Tables.{keep}
use Rattle.model.specs.Images.{Image, floor_of}
use Rattle.model.specs.Logs.{LogRecord, executed, gone, gave, took, released, Entry}
use Rattle.model.specs.States
use Rattle.model.specs.States.{State, point_at}
use Rattle.model.specs.Limits.{invalid, head_size}

-- ---- floors, by client

-- raise the floor of client x to n if greater, or enter it with n
unfoldable pub raise : ℕ → ℕ → List Floor → List Floor
raise x n [] = record { client = x; floor = n } ∷ []
raise x n (f ∷ fs) =
    pick (eqb f.client x) (record { client = x; floor = max f.floor n } ∷ fs)
    (pick (ltb x f.client) (record { client = x; floor = n } ∷ (f ∷ fs)) (f ∷ raise x n fs))

-- floors merged by the greater
unfoldable pub merge_floors : List Floor → List Floor → List Floor
merge_floors [] fs = fs
merge_floors (g ∷ gs) fs = merge_floors gs (raise g.client g.floor fs)

unfoldable pub is_not_client : ℕ → Floor → Bool
is_not_client x f = not (eqb f.client x)

-- ---- completion records: what stays

-- of client x only calls from the floor on
unfoldable pub stays_over : ℕ → ℕ → Completion → Bool
stays_over x floor r = not (eqb r.command.client x) || leb floor r.command.call

unfoldable pub stays_over_floors : List Floor → Completion → Bool
stays_over_floors fs r = leb (floor_of r.command.client fs) r.command.call

unfoldable pub is_of_other : ℕ → Completion → Bool
is_of_other x r = not (eqb r.command.client x)

unfoldable pub is_on_other : ℕ → Completion → Bool
is_on_other p r = not (eqb r.command.point p)

-- ---- the five records; `end` is the log's length after the record

unfoldable pub executed_point : Executed → Point → Point
executed_point x q =
    record {
      status = q.status;
      quality = x.result.quality;
      destination = q.destination;
      value = x.result.value;
      move_number = q.move_number;
      taken_move = q.taken_move;
      give_end = q.give_end;
      take_end = q.take_end;
    }

unfoldable pub completion : Executed → ℕ → Completion
completion x end = record { command = x.command; result = x.result; end = end }

-- executed: the point's value and quality, a completion record, the client's floor, its records under the floor go
unfoldable pub apply_executed : Executed → ℕ → State → State
apply_executed x end st =
    let c = x.command in
    let fs = raise c.client x.done st.floors in
    record {
      server = st.server;
      heard = st.heard;
      size = end;
      mark = st.mark;
      plan = st.plan;
      points = set st.points c.point (executed_point x (point_at st c.point));
      floors = fs;
      records = keep (stays_over c.client (floor_of c.client fs)) (st.records ++ (completion x end ∷ []));
    }

-- gone: the client and its records go, heard time rises to the notice's time
unfoldable pub apply_gone : Notice → ℕ → State → State
apply_gone n end st =
    record {
      server = st.server;
      heard = max st.heard n.time;
      size = end;
      mark = st.mark;
      plan = st.plan;
      points = st.points;
      floors = keep (is_not_client n.client) st.floors;
      records = keep (is_of_other n.client) st.records;
    }

-- give: the move number rises, the point is closed
unfoldable pub gave_point : Give → ℕ → Point → Point
gave_point g end q =
    record {
      status = States.given;
      quality = q.quality;
      destination = g.destination;
      value = q.value;
      move_number = g.move_number;
      taken_move = q.taken_move;
      give_end = end;
      take_end = q.take_end;
    }

unfoldable pub apply_gave : Give → ℕ → State → State
apply_gave g end st =
    record {
      server = st.server;
      heard = st.heard;
      size = end;
      mark = st.mark;
      plan = st.plan;
      points = set st.points g.point (gave_point g end (point_at st g.point));
      floors = st.floors;
      records = st.records;
    }

-- take: own old records of the point go, point and move number are set, floors merged by the greater, records added, those under a
-- floor go, heard time rises
unfoldable pub took_point : Image → ℕ → Point
took_point i end =
    record {
      status = States.held;
      quality = i.quality;
      destination = 0;
      value = i.value;
      move_number = i.move_number;
      taken_move = i.move_number;
      give_end = 0;
      take_end = end;
    }

unfoldable pub taken_record : ℕ → ℕ → ImageEntry → Completion
taken_record p end e =
    record {
      command = record { client = e.client; call = e.call; op = e.op; point = p; argument = e.argument };
      result = e.result;
      end = end;
    }

unfoldable pub apply_took : Image → ℕ → State → State
apply_took i end st =
    let fs = merge_floors i.floors st.floors in
    record {
      server = st.server;
      heard = max st.heard i.heard;
      size = end;
      mark = st.mark;
      plan = st.plan;
      points = set st.points i.point (took_point i end);
      floors = fs;
      records =
          keep (stays_over_floors fs) (keep (is_on_other i.point) st.records ++ map (taken_record i.point end) i.entries);
    }

-- release: the point's records go, its move number stays
unfoldable pub released_point : Point → Point
released_point q =
    record {
      status = States.released_status;
      quality = q.quality;
      destination = q.destination;
      value = q.value;
      move_number = q.move_number;
      taken_move = q.taken_move;
      give_end = q.give_end;
      take_end = q.take_end;
    }

unfoldable pub apply_released : Release → ℕ → State → State
apply_released r end st =
    record {
      server = st.server;
      heard = st.heard;
      size = end;
      mark = st.mark;
      plan = st.plan;
      points = set st.points r.point (released_point (point_at st r.point));
      floors = st.floors;
      records = keep (is_on_other r.point) st.records;
    }

unfoldable pub apply_record : LogRecord → ℕ → State → State
apply_record (executed x) end st = apply_executed x end st
apply_record (gone n) end st = apply_gone n end st
apply_record (gave g) end st = apply_gave g end st
apply_record (took i) end st = apply_took i end st
apply_record (released r) end st = apply_released r end st

unfoldable pub apply : State → Entry → State
apply st e = apply_record e.item e.end st

-- ---- founding and replay

-- a point at its home is held, elsewhere absent: value = fallback, quality 1, move number 0
unfoldable pub founded_point : ℕ → PlanEntry → Point
founded_point server e =
    record {
      status = pick (eqb e.home server) States.held States.absent;
      quality = invalid;
      destination = 0;
      value = e.fallback;
      move_number = 0;
      taken_move = 0;
      give_end = 0;
      take_end = 0;
    }

-- founding puts the mark at 8
unfoldable pub founded : List PlanEntry → ℕ → State
founded plan server =
    record {
      server = server;
      heard = 0;
      size = head_size;
      mark = head_size;
      plan = plan;
      points = map (founded_point server) plan;
      floors = [];
      records = [];
    }

-- the state of a log's records
unfoldable pub replay_from : State → List Entry → State
replay_from st [] = st
replay_from st (e ∷ es) = replay_from (apply st e) es

unfoldable pub replay : List PlanEntry → ℕ → List Entry → State
replay plan server es = replay_from (founded plan server) es

unfoldable pub with_mark : ℕ → State → State
with_mark m st =
    record {
      server = st.server;
      heard = st.heard;
      size = st.size;
      mark = m;
      plan = st.plan;
      points = st.points;
      floors = st.floors;
      records = st.records;
    }
