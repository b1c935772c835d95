-- The paper's P cases, one table: range −100 to 1000, fallback 0.
-- Assumes nothing.
use Rattle.std.specs.Prelude.{ℕ, ◌+◌, ◌-◌, Bool, true, false, List, [], ◌∷◌, replicate, ℤ, pos, negsuc}
use Rattle.model.specs.declared.PlanEntry.{PlanEntry}
use Rattle.model.specs.declared.Reading.{Reading}
use Rattle.model.specs.declared.CommandResult.{CommandResult}
use Rattle.model.specs.declared.Request.{Request}
use Rattle.model.specs.Choice.{refuse, deny, reply, append, marks}
use Rattle.model.specs.Numbers.{half}
use Rattle.model.specs.Limits.{last32, point_count, executed_size, read_op, set_op, step_op, report_op, fault_op, part_op, carried_out, out_of_range, on_invalid, fell_back, stopped, valid, invalid, by_hand}
use Rattle.model.specs.Versions.{today}
use Rattle.model.specs.Rules.{rule_of}
use Rattle.model.specs.Sequential.{ReadingZ, ResultZ, reading_z, result_z, entry_z, reading_meant, result_meant, rule_z}
use Rattle.model.specs.Packets.{parse_packet, request_bytes}
use Rattle.model.specs.Logs.{LogRecord, executed, gone, gave, took, released, executed_size_of}
use Rattle.model.specs.States.{State}
use Rattle.model.specs.Apply.{founded}
use Rattle.model.specs.Decisions.{Decided, on_request}
use Rattle.model.specs.Refusals.{no_refusal, malformed, lease_over}

abbrev pub entry : PlanEntry
entry = record { low = half - 100; high = half + 1000; fallback = half; home = 0 }

-- a request of client 1 for a report in range on point 0
abbrev pub asking : ℕ → ℕ → ℕ → Request
asking call done lease =
    record { command = record { client = 1; call = call; op = report_op; point = 0; argument = half }; done = done; lease = lease }

-- server 0 as founded, at a heard time
unfoldable pub heard_at : ℕ → State
heard_at t =
    let st = founded (replicate point_count entry) 0 in
    record {
      server = st.server;
      heard = t;
      size = st.size;
      mark = st.mark;
      plan = st.plan;
      points = st.points;
      floors = st.floors;
      records = st.records;
    }

-- the refusal's number, 0 where the request passes
unfoldable pub refusal_of : Decided → ℕ
refusal_of (refuse n) = n
refusal_of (deny n b) = n
refusal_of (reply b) = no_refusal
refusal_of (append r) = no_refusal
refusal_of (marks m) = no_refusal

-- the time of execution in the record that the request makes, 0 where it makes none
unfoldable pub time_in : LogRecord → ℕ
time_in (executed x) = x.result.time
time_in (gone n) = 0
time_in (gave g) = 0
time_in (took i) = 0
time_in (released r) = 0

unfoldable pub time_of : Decided → ℕ
time_of (refuse n) = 0
time_of (deny n b) = 0
time_of (reply b) = 0
time_of (append r) = time_in r
time_of (marks m) = 0

-- asked of a program that writes times, or of one that writes none
unfoldable pub noted : Bool → State → Request → ℕ
noted timed st q =
    time_of (on_request (record { rule = today.rule; timed = timed }) st (executed_size_of timed) (parse_packet (request_bytes q)))

unfoldable pub asked : State → Request → ℕ
asked st q = refusal_of (on_request today st executed_size (parse_packet (request_bytes q)))

pub data Case : Type 0 where
  -- entry of the plan, op, argument, before: a command and its result, in integers and in the kernel's numbers
  command : PlanEntry → ℕ → ℤ → ℕ → ReadingZ → Reading → ResultZ → CommandResult → Case
  -- lease end, heard time: the refusal
  lease : ℕ → ℕ → ℕ → Case
  -- call, done: the refusal
  window : ℕ → ℕ → ℕ → Case
  -- whether the program writes times, heard time: the time of execution
  time : Bool → ℕ → ℕ → Case

-- what a case gives, and what it says. Of a command: the result over the integers and the kernel's; what its reading before and its result mean
pub data Outcome : Type 0 where
  results : ResultZ → CommandResult → ReadingZ → ResultZ → Outcome
  number : ℕ → Outcome

unfoldable pub got : Case → Outcome
got (command e op a n b r z k) = results (rule_z (today.rule op) (entry_z e) op a b) (rule_of (today.rule op) e op n r) (reading_meant r) (result_meant k)
got (lease end heard n) = number (asked (heard_at heard) (asking 1 1 end))
got (window call done n) = number (asked (heard_at 0) (asking call done 1))
got (time timed heard n) = number (noted timed (heard_at heard) (asking 1 1 (heard + 1)))

unfoldable pub wanted : Case → Outcome
wanted (command e op a n b r z k) = results z k b z
wanted (lease end heard n) = number n
wanted (window call done n) = number n
wanted (time timed heard n) = number n

-- a case of an argument, a value and a result that are not negative
abbrev pub on_up : ℕ → ℕ → ℕ → ℕ → ℕ → ℕ → ℕ → Case
on_up op a v q o w t =
    command entry op (pos a) (half + a) (reading_z (pos v) q) (record { value = half + v; quality = q }) (result_z o (pos w) t)
    (record { outcome = o; value = half + w; quality = t; time = 0 })

-- the same with a result of −1 − w, or with an argument of −1 − a
abbrev pub to_down : ℕ → ℕ → ℕ → ℕ → ℕ → ℕ → ℕ → Case
to_down op a v q o w t =
    command entry op (pos a) (half + a) (reading_z (pos v) q) (record { value = half + v; quality = q }) (result_z o (negsuc w) t)
    (record { outcome = o; value = half - 1 - w; quality = t; time = 0 })

abbrev pub by_down : ℕ → ℕ → ℕ → ℕ → ℕ → ℕ → ℕ → Case
by_down op a v q o w t =
    command entry op (negsuc a) (half - 1 - a) (reading_z (pos v) q) (record { value = half + v; quality = q }) (result_z o (pos w) t)
    (record { outcome = o; value = half + w; quality = t; time = 0 })

-- a step of −1 − a at value v, valid, that stops at the low end, −100
abbrev pub step_down : ℕ → ℕ → Case
step_down a v =
    command entry step_op (negsuc a) (half - 1 - a) (reading_z (pos v) valid) (record { value = half + v; quality = valid }) (result_z stopped (negsuc 99) valid)
    (record { outcome = stopped; value = half - 100; quality = valid; time = 0 })

-- a step of a at 7, valid, where the range is 7 to 7: outcome o
abbrev pub step_narrow : ℕ → ℕ → Case
step_narrow a o =
    command (record { low = half + 7; high = half + 7; fallback = half + 7; home = 0 }) step_op (pos a) (half + a) (reading_z (pos 7) valid)
    (record { value = half + 7; quality = valid }) (result_z o (pos 7) valid) (record { outcome = o; value = half + 7; quality = valid; time = 0 })

-- part a where the range is low to high (in the kernel's numbers): value z, in the kernel's numbers k
abbrev pub part_in : ℕ → ℕ → ℕ → ℤ → ℕ → Case
part_in low high a z k =
    command (record { low = low; high = high; fallback = low; home = 0 }) part_op (pos a) (half + a) (reading_z (pos 0) invalid)
    (record { value = half; quality = invalid }) (result_z carried_out z by_hand) (record { outcome = carried_out; value = k; quality = by_hand; time = 0 })

-- the same where the range is the greatest, −2147483648 to 2147483647
abbrev pub part_wide : ℕ → ℤ → ℕ → Case
part_wide a z k = part_in 0 last32 a z k

-- op, argument, value and quality before; outcome, value and quality after
unfoldable pub cases : List Case
cases =
    on_up set_op 1000 0 invalid carried_out 1000 by_hand  -- set 1000: 1000, quality 2, outcome 0
    ∷ on_up set_op 1001 7 valid out_of_range 7 valid  -- set 1001: outcome 1
    ∷ on_up step_op 1 1000 valid stopped 1000 valid  -- at 1000, step 1: 1000, outcome 4
    ∷ on_up step_op 1 999 valid carried_out 1000 valid  -- at 999, step 1: 1000
    ∷ on_up step_op 0 1000 valid carried_out 1000 valid  -- at 1000, step 0: 1000, outcome 0
    ∷ on_up step_op 2147483647 7 valid stopped 1000 valid  -- the greatest step: 1000, outcome 4
    ∷ step_down 107 7  -- at 7, step −108: −100, outcome 4
    ∷ step_down 2147483647 1000  -- the least step: −100, outcome 4
    ∷ step_narrow 0 carried_out  -- where low is high, step 0: outcome 0
    ∷ step_narrow 1 stopped  -- and step 1: outcome 4
    ∷ on_up step_op 0 0 invalid on_invalid 0 invalid  -- at quality 1, step 0: outcome 2
    ∷ by_down report_op 100 7 valid fell_back 0 invalid  -- report −101: 0, quality 1, outcome 3
    ∷ on_up fault_op 0 7 valid fell_back 0 invalid  -- fault: the same
    ∷ to_down part_op 0 0 invalid carried_out 99 by_hand  -- part 0: −100, quality 2
    ∷ on_up part_op 333 0 invalid carried_out 266 by_hand  -- part 333: 266
    ∷ on_up part_op 1000 0 invalid carried_out 1000 by_hand  -- part 1000: 1000
    ∷ to_down part_op 5 0 invalid carried_out 93 by_hand  -- part 5, 5 and a half from low: −94
    ∷ to_down part_op 15 0 invalid carried_out 83 by_hand  -- part 15, 16 and a half from low: −84
    ∷ part_in (half - 99) (half + 1001) 5 (negsuc 92) (half - 93)  -- where the range is −99 to 1001, part 5: −93, for the quotient is even and not the value
    ∷ part_wide 0 (negsuc 2147483647) 0  -- where the range is the greatest, part 0: −2147483648
    ∷ part_wide 1000 (pos 2147483647) last32  -- and part 1000: 2147483647
    ∷ part_wide 500 (pos 0) half  -- part 500, 2147483647 and a half from low: 0
    ∷ part_wide 300 (negsuc 858993459) 1288490188  -- part 300, 1288490188 and a half from low: −858993460
    ∷ on_up read_op 0 7 by_hand carried_out 7 by_hand  -- at 7 by hand, read: quality 2
    ∷ on_up set_op 1001 7 by_hand out_of_range 7 by_hand  -- set 1001: quality 2, outcome 1
    ∷ on_up step_op 1 1000 by_hand stopped 1000 by_hand  -- at 1000 by hand, step 1: 1000, quality 2, outcome 4
    ∷ by_down step_op 0 1000 by_hand carried_out 999 by_hand  -- step −1: 999, quality 2
    ∷ on_up report_op 7 1000 by_hand carried_out 7 valid  -- report 7: 7, quality 0
    ∷ by_down report_op 100 7 by_hand fell_back 0 invalid  -- report −101: 0, quality 1, outcome 3
    ∷ on_up fault_op 0 7 by_hand fell_back 0 invalid  -- fault: the same
    ∷ on_up part_op 1000 7 by_hand carried_out 1000 by_hand  -- part 1000: 1000, quality 2
    ∷ lease 50 50 lease_over  -- lease end 50, heard 50: 4
    ∷ lease 50 49 no_refusal  -- heard 49: passes
    ∷ window 16 1 no_refusal  -- call 16 done 1: passes
    ∷ window 17 1 malformed  -- call 17 done 1: 1
    ∷ time true 49 49  -- executed where 49 was heard: time 49
    ∷ time false 49 0  -- by a program that writes no times: 0
    ∷ []
