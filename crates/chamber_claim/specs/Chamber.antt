-- The lock chamber controller: a client (paper: desk) for the two gates of a lock, an upper and a lower one, and its three levels. It has one command open
-- at a time, so its calls complete in the order of their numbers: "since" and "in this order" are `<` between call numbers, and
-- nothing is ever cleared. A refusal leaves the controller as it was.
-- Assumes nothing.
use Rattle.std.specs.Prelude.{ℕ, ◌+◌, Bool, true, ◌&&◌, ◌||◌, not, List, [], ◌∷◌, get_or, set, replicate, eqb, leb, ltb, Result, Ok, Err}
use Rattle.model.specs.declared.Request.{Request}
use Rattle.model.specs.declared.Refusal.{Refusal}
use Rattle.model.specs.declared.Refusal.TheVariants.{Malformed, WindowFull, NotSafe}
use Rattle.model.specs.declared.Client.{Client}
use Rattle.model.specs.declared.ResultPacket.{ResultPacket}
use Rattle.model.specs.declared.Received.{Received}
use Rattle.model.specs.declared.Received.TheVariants.{Completed, Denied, Extended}
use Rattle.model.specs.declared.StartAnswer.{StartAnswer}
use Rattle.model.specs.declared.SendAnswer.{SendAnswer}
use Rattle.model.specs.Choice.{pick}
use Rattle.model.specs.Numbers.{half}
use Rattle.model.specs.Limits.{last_point, read_op, set_op, part_op, valid, invalid, by_hand}
use Rattle.model.specs.Tables.{every}
use Rattle.model.specs.Packets.{command_ok}
use Rattle.model.specs.Clients.{no_client, call_at, first_open, start_of, issue_of, resend_of, receive_of}
use Rattle.chamber_claim.specs.declared.LockPoints.{LockPoints}
use Rattle.chamber_claim.specs.declared.LatestRead.{LatestRead}
use Rattle.chamber_claim.specs.declared.Chamber.{Chamber}
use Rattle.chamber_claim.specs.declared.ChamberStart.{ChamberStart}
use Rattle.chamber_claim.specs.declared.ChamberSend.{ChamberSend}
use Rattle.chamber_claim.specs.declared.ChamberReceive.{ChamberReceive}

-- ---- the points of a lock, by their roles

abbrev pub upper_gate : ℕ
upper_gate = 0

abbrev pub lower_gate : ℕ
lower_gate = 1

abbrev pub upper_level : ℕ
upper_level = 2

abbrev pub chamber_level : ℕ
chamber_level = 3

abbrev pub lower_level : ℕ
lower_level = 4

-- the number of roles; as a role: none of them
abbrev pub role_count : ℕ
role_count = 5

abbrev pub point_list : LockPoints → List ℕ
point_list s = s.upper ∷ s.lower ∷ s.level1 ∷ s.level2 ∷ s.level3 ∷ []

unfoldable pub role_in : LockPoints → ℕ → ℕ
role_in s p =
    pick (eqb p s.upper) upper_gate
    (pick (eqb p s.lower) lower_gate
    (pick (eqb p s.level1) upper_level
    (pick (eqb p s.level2) chamber_level
    (pick (eqb p s.level3) lower_level role_count))))

unfoldable pub is_other : ℕ → ℕ → Bool
is_other p q = not (eqb q p)

-- "points not all different"
unfoldable pub all_different : List ℕ → Bool
all_different [] = true
all_different (p ∷ ps) = every (is_other p) ps && all_different ps

unfoldable pub is_point : ℕ → Bool
is_point p = leb p last_point

unfoldable pub points_ok : LockPoints → Bool
points_ok s = every is_point (point_list s) && all_different (point_list s)

-- "on gates only read, set or part"; levels are read
unfoldable pub op_ok : ℕ → ℕ → Bool
op_ok i op = (leb i lower_gate && (eqb op read_op || (eqb op set_op || eqb op part_op))) || (leb i lower_level && eqb op read_op)

-- ---- when a gate may be opened

abbrev pub no_read : LatestRead
no_read = record { call = 0; value = half; quality = invalid }

-- "each point's latest read counting"
unfoldable pub read_at : Chamber → ℕ → LatestRead
read_at ch i = get_or ch.reads i no_read

-- "An opening is any set or part but set 0"
unfoldable pub is_opening : ℕ → ℕ → Bool
is_opening op a = eqb op part_op || (eqb op set_op && not (eqb a half))

-- on a gate a value by hand is valid too
unfoldable pub valid_gate : ℕ → Bool
valid_gate q = eqb q valid || eqb q by_hand

-- on a level it is not
unfoldable pub valid_level : ℕ → Bool
valid_level q = eqb q valid

-- "at most 5 apart"
abbrev pub level_step : ℕ
level_step = 5

unfoldable pub near : ℕ → ℕ → Bool
near x y = leb x (y + level_step) && leb y (x + level_step)

-- read "since its last set or part", and what was read of the other gate: "0 and valid"
unfoldable pub closed_seen : Chamber → LatestRead → Bool
closed_seen ch g = ltb ch.moved g.call && (eqb g.value half && valid_gate g.quality)

-- "then both adjoining levels valid and at most 5 apart"
unfoldable pub levels_seen : LatestRead → LatestRead → LatestRead → Bool
levels_seen g a b =
    ltb g.call a.call
    && (ltb g.call b.call && (valid_level a.quality && (valid_level b.quality && near a.value b.value)))

unfoldable pub clear : Chamber → ℕ → ℕ → ℕ → Bool
clear ch g a b = closed_seen ch (read_at ch g) && levels_seen (read_at ch g) (read_at ch a) (read_at ch b)

-- by the role of the gate to open: the other gate, and its own two levels
unfoldable pub may_open : Chamber → ℕ → Bool
may_open ch i =
    pick (eqb i upper_gate) (clear ch lower_gate upper_level chamber_level) (clear ch upper_gate chamber_level lower_level)

-- ---- Start: 1 points over 63 or not all different, or not a grant

abbrev pub no_points : LockPoints
no_points = record { upper = 0; lower = 0; level1 = 0; level2 = 0; level3 = 0 }

unfoldable pub new_chamber : LockPoints → Client → Chamber
new_chamber s d = record { client = d; points = s; moved = 0; reads = replicate role_count no_read }

-- what a refused start leaves
unfoldable pub no_chamber : Chamber
no_chamber = new_chamber no_points no_client

unfoldable pub not_started_in : {E : Type 0} → E → ChamberStart E
not_started_in e = record { chamber = no_chamber; answer = Err e }

unfoldable pub started_in : LockPoints → StartAnswer → ChamberStart Refusal
started_in s a = elim a.answer [ Err e ↦ not_started_in e | Ok tt ↦ record { chamber = new_chamber s a.client; answer = Ok tt } ]

unfoldable pub start_in : List ℕ → LockPoints → ChamberStart Refusal
start_in packet s = pick (points_ok s) (started_in s (start_of packet)) (not_started_in Malformed)

-- ---- Issue: 1 no such command, or another op or point; 15 a command is open; 20 an opening whose conditions fail; 16 as the client

unfoldable pub not_sent_in : {E : Type 0} → Chamber → E → ChamberSend E
not_sent_in ch e = record { chamber = ch; answer = Err e }

-- a set or part that is issued is the last one
unfoldable pub moved_by : Chamber → ℕ → Result Request Refusal → ℕ
moved_by ch op (Err e) = ch.moved
moved_by ch op (Ok q) = pick (eqb op read_op) ch.moved q.command.call

unfoldable pub sent_in : Chamber → ℕ → SendAnswer → ChamberSend Refusal
sent_in ch op s =
    record {
      chamber = record { client = s.client; points = ch.points; moved = moved_by ch op s.answer; reads = ch.reads };
      answer = s.answer;
    }

unfoldable pub issue_in : Chamber → ℕ → ℕ → ℕ → ChamberSend Refusal
issue_in ch op point a =
    let i = role_in ch.points point in
    pick (not (command_ok op point a && op_ok i op)) (not_sent_in ch Malformed)
    (pick (ltb (first_open ch.client) ch.client.next) (not_sent_in ch WindowFull)
    (pick (is_opening op a && not (may_open ch i)) (not_sent_in ch NotSafe)
    (sent_in ch op (issue_of ch.client op point a))))

-- ---- Resend: as the client

unfoldable pub resend_in : Chamber → ℕ → ChamberSend Refusal
resend_in ch c =
    let s = resend_of ch.client c in
    record {
      chamber = record { client = s.client; points = ch.points; moved = ch.moved; reads = ch.reads };
      answer = s.answer;
    }

-- ---- Receive: as the client; a result of a read becomes its point's latest

unfoldable pub read_by : ResultPacket → LatestRead
read_by r = record { call = r.call; value = r.result.value; quality = r.result.quality }

unfoldable pub reads_with : Chamber → ResultPacket → List LatestRead
reads_with ch r =
    pick (eqb (call_at ch.client r.call).op read_op) (set ch.reads (role_in ch.points r.point) (read_by r)) ch.reads

unfoldable pub reads_by : Chamber → Result Received Refusal → List LatestRead
reads_by ch (Err e) = ch.reads
reads_by ch (Ok (Completed r)) = reads_with ch r
reads_by ch (Ok (Denied r)) = ch.reads
reads_by ch (Ok (Extended g)) = ch.reads

unfoldable pub receive_in : Chamber → List ℕ → ChamberReceive
receive_in ch packet =
    let s = receive_of ch.client packet in
    record {
      chamber = record { client = s.client; points = ch.points; moved = ch.moved; reads = reads_by ch s.answer };
      answer = s.answer;
    }
