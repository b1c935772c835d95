-- Each operation of a server (paper: cabinet) on lent bytes: its answer and what every lent slice holds afterwards, for all
-- arguments. 2 and 19 come first; a refusal leaves every slice as it was, a request's refusal packet aside; bytes past what is
-- written are kept. An operation with no output is lent the empty one.
-- Assumes nothing.
use Rattle.std.specs.Prelude.{ℕ, ◌+◌, ◌-◌, ◌*◌, Bool, true, false, ◌||◌, not, List, [], ◌∷◌, length, ltb}
use Rattle.std.proofs.Math.Option.{Option, none, some}
use Rattle.model.specs.declared.PlanEntry.{PlanEntry}
use Rattle.model.specs.declared.Answer.{Answer}
use Rattle.model.specs.declared.LogEnd.{LogEnd}
use Rattle.model.specs.Choice.{pick, refuse, deny, reply, append, marks, ◌if◌else◌, passed, is_passed, unless_refused}
use Rattle.model.specs.Numbers.{word}
use Rattle.model.specs.Refusals.{malformed, too_short, bad_log, unsound, no_refusal}
use Rattle.model.specs.Limits.{last_server, state_size, head_size, receipt_size}
use Rattle.model.specs.Tables.{written}
use Rattle.model.specs.Versions.{Versions}
use Rattle.model.specs.Plan.{plan_ok, plan_of}
use Rattle.model.specs.Packets.{parse_packet, result_size_of}
use Rattle.model.specs.Images.{parse_image, greatest_of}
use Rattle.model.specs.Logs.{Entry, head_bytes, head_server, record_bytes, record_size, ends_of, whole_end, entries_to}
use Rattle.model.specs.States.{State, load, state_bytes, sound}
use Rattle.model.specs.Apply.{apply_record, apply, founded, with_mark}
use Rattle.model.specs.Decisions.{Decided, timed_by, on_request, on_fetch, on_sync, on_notice, on_give, on_image, on_take, on_receipt, on_release, follows}

-- what a call leaves: its answer and the lent slices
pub record After : Type 0 where
  pub answer : Answer
  pub state : List ℕ
  pub log : List ℕ
  pub out : List ℕ

-- the refusal's number, 0 for none, and the number of bytes written to the output
abbrev pub answer_of : ℕ → ℕ → Answer
answer_of n w = record { refusal = n; wrote = w }

-- an answer in one word of 64 bits, for C: the low 32 bits are 0 or the refusal's number, the high 32 bits the number of bytes written
unfoldable pub word_of : Answer → ℕ
word_of a = a.refusal + word * a.wrote

abbrev pub after : Answer → List ℕ → List ℕ → List ℕ → After
after a s l o = record { answer = a; state = s; log = l; out = o }

-- a slice has fewer than n bytes
unfoldable pub short : List ℕ → ℕ → Bool
short s n = ltb (length s) n

-- 19: the state is not sound, or the log slice is shorter than its recorded length
unfoldable pub unfit : List ℕ → List ℕ → Bool
unfit state log = not (sound state) || ltb (length log) (load state).size

-- the space left in the log
unfoldable pub free_in : List ℕ → List ℕ → ℕ
free_in state log = length log - (load state).size

-- a state's bytes in the lent buffer
unfoldable pub stored : List ℕ → State → List ℕ
stored state st = written state 0 (state_bytes st)

-- a decision carried out on the lent slices
unfoldable pub settle : List ℕ → List ℕ → List ℕ → Decided → After
settle state log out (refuse n) = after (answer_of n 0) state log out
settle state log out (deny n b) = after (answer_of n (length b)) state log (written out 0 b)
settle state log out (reply b) = after (answer_of no_refusal (length b)) state log (written out 0 b)
settle state log out (append r) =
    after (answer_of no_refusal 0) (stored state (apply_record r ((load state).size + record_size r) (load state)))
    (written log (load state).size (record_bytes r)) out
settle state log out (marks m) = after (answer_of no_refusal 0) (stored state (with_mark m (load state))) log out

-- 2 state or output too short; 19. The output has n bytes, of which `need` are asked
unfoldable pub lent_refusal : List ℕ → List ℕ → ℕ → ℕ → ℕ
lent_refusal state log n need =
    too_short if (short state state_size || ltb n need)
    else unsound if unfit state log
    else passed

-- else what the operation decides
unfoldable pub lent : List ℕ → List ℕ → List ℕ → ℕ → Decided → Decided
lent state log out need d = unless_refused (lent_refusal state log (length out) need) d

-- what is left by a call that makes a state: the refusal n, or a where the tests are passed
unfoldable pub left_unless : ℕ → List ℕ → List ℕ → After → After
left_unless n state log a = pick (is_passed n) a (settle state log [] (refuse n))

-- Found (plan, server number): 2 state, or log under 8 bytes; 1 bad plan or server number. By the lengths of state and log, and
-- whether the plan is good
unfoldable pub found_refusal : ℕ → ℕ → Bool → ℕ → ℕ
found_refusal states logs good n =
    too_short if (ltb states state_size || ltb logs head_size)
    else malformed if (not good || ltb last_server n)
    else passed

unfoldable pub found_of : List ℕ → List ℕ → List ℕ → ℕ → After
found_of state log plan n =
    left_unless (found_refusal (length state) (length log) (plan_ok plan) n) state log
    (after (answer_of no_refusal 0) (stored state (founded (plan_of plan) n)) (written log 0 (head_bytes n)) [])

-- by a program that executes and writes by v
unfoldable pub request_of : Versions → List ℕ → List ℕ → List ℕ → List ℕ → After
request_of v state log packet out =
    settle state log out
    (lent state log out (result_size_of (timed_by v (load state))) (on_request v (load state) (free_in state log) (parse_packet packet)))

unfoldable pub fetch_of : Versions → List ℕ → List ℕ → ℕ → ℕ → List ℕ → After
fetch_of v state log client call out =
    settle state log out (lent state log out (result_size_of (timed_by v (load state))) (on_fetch v (load state) client call))

unfoldable pub sync_of : List ℕ → List ℕ → ℕ → After
sync_of state log mark = settle state log [] (lent state log [] 0 (on_sync (load state) mark))

unfoldable pub notice_of : List ℕ → List ℕ → List ℕ → After
notice_of state log packet =
    settle state log [] (lent state log [] 0 (on_notice (load state) (free_in state log) (parse_packet packet)))

unfoldable pub give_of : List ℕ → List ℕ → ℕ → ℕ → After
give_of state log point destination =
    settle state log [] (lent state log [] 0 (on_give (load state) (free_in state log) point destination))

unfoldable pub image_of : Versions → List ℕ → List ℕ → ℕ → List ℕ → After
image_of v state log point out =
    settle state log out (lent state log out (greatest_of (timed_by v (load state))) (on_image v (load state) point))

unfoldable pub take_of : List ℕ → List ℕ → List ℕ → After
take_of state log image =
    settle state log [] (lent state log [] 0 (on_take (load state) (free_in state log) (parse_image image)))

unfoldable pub receipt_of : List ℕ → List ℕ → ℕ → List ℕ → After
receipt_of state log point out = settle state log out (lent state log out receipt_size (on_receipt (load state) point))

unfoldable pub release_of : List ℕ → List ℕ → List ℕ → After
release_of state log packet =
    settle state log [] (lent state log [] 0 (on_release (load state) (free_in state log) (parse_packet packet)))

-- ---- Recover (plan, kept log): 2; 1 plan; 14; else the replay of the whole records, and the mark is their end

-- the replay of records, none where one cannot follow the state
unfoldable pub recovered : State → List Entry → Option State
recovered st [] = some st
recovered st (e ∷ es) = elim (follows st e.item) [ true ↦ recovered (apply st e) es | false ↦ none ]

unfoldable pub recovered_all : State → Option (List Entry) → Option State
recovered_all st none = none
recovered_all st (some es) = recovered st es

-- the records of a log replayed on a state, in two walks: the ends of all of them, then the records between the ends; none for 14
unfoldable pub recovered_on : State → List ℕ → Option State
recovered_on st log = elim (ends_of log) [ none ↦ none | some es ↦ recovered_all st (entries_to log head_size es) ]

-- the state that a kept log gives, none for 14
unfoldable pub recovered_state : List PlanEntry → List ℕ → Option State
recovered_state plan log = recovered_on (founded plan (head_server log)) log

unfoldable pub settle_recovered : List ℕ → List ℕ → Option State → After
settle_recovered state log none = settle state log [] (refuse bad_log)
settle_recovered state log (some st) = after (answer_of no_refusal 0) (stored state (with_mark st.size st)) log []

-- by the state's length and whether the plan is good
unfoldable pub recover_refusal : ℕ → Bool → ℕ
recover_refusal states good =
    too_short if ltb states state_size
    else malformed if not good
    else passed

unfoldable pub recover_of : List ℕ → List ℕ → List ℕ → After
recover_of state log plan =
    left_unless (recover_refusal (length state) (plan_ok plan)) state log (settle_recovered state log (recovered_state (plan_of plan) log))

-- ---- the first walk by itself (kept log): 14, else the end of the last whole record

unfoldable pub log_end_of : List ℕ → LogEnd
log_end_of log = elim (whole_end log) [ none ↦ record { refusal = bad_log; end = 0 } | some e ↦ record { refusal = no_refusal; end = e } ]
