-- Worked cases of the lock chamber controller, computed by its definitions.
--     chamber_cases     runs of commands with their results: which command passes, and which refusal the last one gets
--     start-cases       points and packets that start takes, and those that it refuses
-- Assumes nothing.
use Prim.Native.Nat.{ℕ, ◌+◌, ◌-◌}
use mathlib.Core.Path.{◌≡◌, refl}
use mathlib.Core.Bool.{true}
use mathlib.Core.List.{List, [], ◌∷◌, ◌++◌, map}
use lib.ListN.{length, replicate}
use Rattle.std.specs.Prelude.{Ok, Err}
use Rattle.model.specs.Numbers.{half, word}
use Rattle.model.specs.Limits.{read_op, set_op, step_op, report_op, fault_op, part_op, carried_out, valid, invalid, by_hand, last_point, last32, call_window}
use Rattle.model.specs.Refusals.{no_refusal, malformed, window_full, numbers_out, not_safe}
use Rattle.model.specs.Packets.{grant_bytes, result_bytes}
use Rattle.model.specs.Clients.{no_call, start_number, send_number}
use Rattle.chamber_claim.specs.declared.LockPoints.{LockPoints}
use Rattle.chamber_claim.specs.declared.Chamber.{Chamber}
use Rattle.model.specs.declared.Refusal.{Refusal}
use Rattle.chamber_claim.specs.declared.ChamberSend.{ChamberSend}
use Rattle.chamber_claim.specs.Chamber.{start_in, issue_in, receive_in}
use Rattle.chamber_claim.proofs.Opened.{open_chamber}

-- ---- runs

pub data Step : Type 0 where
  -- a command, and its result: op, point, argument; the result's value and quality
  does : ℕ → ℕ → ℕ → ℕ → ℕ → Step
  -- a command whose result does not come
  leaves : ℕ → ℕ → ℕ → Step

-- the result of a command that was sent arrives
unfoldable pub hears : ChamberSend Refusal → ℕ → ℕ → Chamber
hears s value quality = elim s.answer [
  | Err n ↦ s.chamber
  | Ok q ↦ (receive_in s.chamber
      (result_bytes
      (record {
        client = q.command.client;
        call = q.command.call;
        point = q.command.point;
        result = record { outcome = carried_out; value = value; quality = quality; time = 500 };
        timed = true;
      }))).chamber
]

-- the refusals' numbers of a run, 0 for what passes
unfoldable pub numbers : Chamber → List Step → List ℕ
numbers ch [] = []
numbers ch (does op point a value quality ∷ ss) =
    let s = issue_in ch op point a in send_number s.answer ∷ numbers (hears s value quality) ss
numbers ch (leaves op point a ∷ ss) = let s = issue_in ch op point a in send_number s.answer ∷ numbers s.chamber ss

-- a run from a controller, and the number of its last command; those before it pass
pub record Case : Type 0 where
  pub from : Chamber
  pub run : List Step
  pub number : ℕ

unfoldable pub runs : Case → List ℕ
runs k = numbers k.from k.run

unfoldable pub awaited : Case → List ℕ
awaited k = replicate (length k.run - 1) no_refusal ++ (k.number ∷ [])

-- ---- a lock: gates 10 and 11, levels 20, 21 and 22; other points are none of its

abbrev pub lock : LockPoints
lock = record { upper = 10; lower = 11; level1 = 20; level2 = 21; level3 = 22 }

abbrev pub grant : List ℕ
grant = grant_bytes (record { client = 7; lease = 600 })

unfoldable pub new : Chamber
new = (start_in grant lock).chamber

-- its client is at the last call number, and all reads are there to open the upper gate
unfoldable pub late : Chamber
late = record {
  client = record { client = 7; lease = 600; next = last32; calls = replicate call_window no_call };
  points = lock;
  moved = 4;
  reads =
      record { call = 1; value = half; quality = valid }
      ∷ record { call = 5; value = half; quality = valid }
      ∷ record { call = 6; value = half; quality = valid }
      ∷ record { call = 7; value = half; quality = valid }
      ∷ record { call = 2; value = half; quality = valid }
      ∷ [];
}

-- read with a value and a quality; set and part with an argument
abbrev pub sees : ℕ → ℕ → ℕ → Step
sees point value quality = does read_op point half value quality

abbrev pub reads : ℕ → ℕ → Step
reads point value = sees point (half + value) valid

-- read as a set or part left it
abbrev pub enters : ℕ → ℕ → Step
enters point value = sees point (half + value) by_hand

abbrev pub sets : ℕ → ℕ → Step
sets point a = does set_op point (half + a) (half + a) by_hand

abbrev pub parts : ℕ → ℕ → Step
parts point a = does part_op point (half + a) (half + a) by_hand

abbrev pub case : List Step → ℕ → Case
case ss n = record { from = new; run = ss; number = n }

-- ---- the cases

unfoldable pub cases : List Case
cases =
    -- the first opening of each gate: the other gate is set to 0 and read, then both levels beside the gate, in either order
    case (sets 11 0 ∷ enters 11 0 ∷ reads 20 300 ∷ reads 21 300 ∷ sets 10 50 ∷ []) no_refusal
    ∷ case (sets 11 0 ∷ enters 11 0 ∷ reads 21 300 ∷ reads 20 300 ∷ parts 10 500 ∷ []) no_refusal
    ∷ case (sets 10 0 ∷ enters 10 0 ∷ reads 21 300 ∷ reads 22 300 ∷ sets 11 50 ∷ []) no_refusal
    -- the set need not be there, and the gate may have been measured
    ∷ case (reads 11 0 ∷ reads 20 300 ∷ reads 21 300 ∷ sets 10 50 ∷ []) no_refusal
    -- one condition is missing: no read of the other gate, of a level; the own gate's read, the other gate's levels
    ∷ case (reads 20 300 ∷ reads 21 300 ∷ sets 10 50 ∷ []) not_safe
    ∷ case (reads 11 0 ∷ reads 21 300 ∷ sets 10 50 ∷ []) not_safe
    ∷ case (reads 11 0 ∷ reads 20 300 ∷ sets 10 50 ∷ []) not_safe
    ∷ case (reads 10 0 ∷ reads 20 300 ∷ reads 21 300 ∷ sets 10 50 ∷ []) not_safe
    ∷ case (reads 11 0 ∷ reads 21 300 ∷ reads 22 300 ∷ sets 10 50 ∷ []) not_safe
    ∷ case (reads 10 0 ∷ reads 20 300 ∷ reads 21 300 ∷ sets 11 50 ∷ []) not_safe
    -- the other gate is away from 0; it, or a level, is invalid
    ∷ case (reads 11 1 ∷ reads 20 300 ∷ reads 21 300 ∷ sets 10 50 ∷ []) not_safe
    ∷ case (sees 11 half invalid ∷ reads 20 300 ∷ reads 21 300 ∷ sets 10 50 ∷ []) not_safe
    ∷ case (reads 11 0 ∷ sees 20 (half + 300) invalid ∷ reads 21 300 ∷ sets 10 50 ∷ []) not_safe
    ∷ case (reads 11 0 ∷ reads 20 300 ∷ sees 21 (half + 300) invalid ∷ sets 10 50 ∷ []) not_safe
    -- by hand: a gate away from 0; a level, either of the two
    ∷ case (enters 11 1 ∷ reads 20 300 ∷ reads 21 300 ∷ sets 10 50 ∷ []) not_safe
    ∷ case (enters 11 0 ∷ enters 20 300 ∷ reads 21 300 ∷ sets 10 50 ∷ []) not_safe
    ∷ case (enters 11 0 ∷ reads 20 300 ∷ enters 21 300 ∷ sets 10 50 ∷ []) not_safe
    -- the order: a gate read after the levels asks for the levels again; the latest read counts
    ∷ case (reads 20 300 ∷ reads 21 300 ∷ reads 11 0 ∷ sets 10 50 ∷ []) not_safe
    ∷ case (reads 20 300 ∷ reads 11 0 ∷ reads 21 300 ∷ sets 10 50 ∷ []) not_safe
    ∷ case (reads 21 300 ∷ reads 11 0 ∷ reads 20 300 ∷ sets 10 50 ∷ []) not_safe
    ∷ case (reads 11 0 ∷ reads 20 300 ∷ reads 21 300 ∷ reads 11 0 ∷ sets 10 50 ∷ []) not_safe
    ∷ case (reads 11 0 ∷ reads 20 300 ∷ reads 21 300 ∷ reads 11 0 ∷ reads 20 300 ∷ reads 21 300 ∷ sets 10 50 ∷ []) no_refusal
    ∷ case (reads 11 0 ∷ reads 20 300 ∷ reads 21 300 ∷ reads 20 400 ∷ sets 10 50 ∷ []) not_safe
    -- levels 5 apart, and 6; −2^31 and 2^31 − 1
    ∷ case (reads 11 0 ∷ reads 20 305 ∷ reads 21 300 ∷ sets 10 50 ∷ []) no_refusal
    ∷ case (reads 11 0 ∷ reads 20 300 ∷ reads 21 305 ∷ sets 10 50 ∷ []) no_refusal
    ∷ case (reads 11 0 ∷ reads 20 306 ∷ reads 21 300 ∷ sets 10 50 ∷ []) not_safe
    ∷ case (reads 11 0 ∷ reads 20 300 ∷ reads 21 306 ∷ sets 10 50 ∷ []) not_safe
    ∷ case (reads 11 0 ∷ sees 20 0 valid ∷ sees 21 (word - 1) valid ∷ sets 10 50 ∷ []) not_safe
    ∷ case (reads 11 0 ∷ sees 20 (word - 1) valid ∷ sees 21 0 valid ∷ sets 10 50 ∷ []) not_safe
    -- part 0 is an opening; set 0 is none, and passes always
    ∷ case (parts 10 0 ∷ []) not_safe
    ∷ case (sets 10 0 ∷ []) no_refusal
    ∷ case (reads 11 70 ∷ sets 10 0 ∷ sets 11 0 ∷ []) no_refusal
    -- since the last set or part: of either gate, set 0 too
    ∷ case (reads 11 0 ∷ reads 20 300 ∷ reads 21 300 ∷ sets 11 0 ∷ sets 10 50 ∷ []) not_safe
    ∷ case (reads 11 0 ∷ reads 20 300 ∷ reads 21 300 ∷ sets 10 0 ∷ sets 10 50 ∷ []) not_safe
    ∷ case (reads 11 0 ∷ reads 20 300 ∷ reads 21 300 ∷ sets 10 50 ∷ sets 10 60 ∷ []) not_safe
    ∷ case (reads 10 0 ∷ reads 11 0 ∷ reads 20 300 ∷ reads 21 300 ∷ reads 22 300 ∷ parts 10 50 ∷ sets 11 60 ∷ []) not_safe
    -- no command of a lock: step, report and fault on a gate, anything but a read on a level, a sixth point; no command at all
    ∷ case (does step_op 10 half half valid ∷ []) malformed
    ∷ case (does report_op 10 half half valid ∷ []) malformed
    ∷ case (does fault_op 10 half half valid ∷ []) malformed
    ∷ case (sets 20 0 ∷ []) malformed
    ∷ case (parts 21 0 ∷ []) malformed
    ∷ case (does report_op 22 half half valid ∷ []) malformed
    ∷ case (reads 30 0 ∷ []) malformed
    ∷ case (sets 30 0 ∷ []) malformed
    ∷ case (parts 10 1001 ∷ []) malformed
    -- a command is open: 1 before 15 before 20
    ∷ case (leaves read_op 11 half ∷ reads 20 300 ∷ []) window_full
    ∷ case (leaves read_op 11 half ∷ sets 10 50 ∷ []) window_full
    ∷ case (leaves read_op 11 half ∷ sets 10 0 ∷ []) window_full
    ∷ case (leaves read_op 11 half ∷ does step_op 10 half half valid ∷ []) malformed
    -- at the last call number: 20 before 16
    ∷ record { from = late; run = sets 11 50 ∷ []; number = not_safe }
    ∷ record { from = late; run = sets 10 50 ∷ []; number = numbers_out }
    ∷ record { from = late; run = sets 10 0 ∷ []; number = numbers_out }
    ∷ []

-- ---- starts: a packet, five points, and the number

pub record Start : Type 0 where
  pub packet : List ℕ
  pub points : LockPoints
  pub number : ℕ

unfoldable pub started : Start → ℕ
started k = start_number (start_in k.packet k.points).answer

unfoldable pub wanted : Start → ℕ
wanted k = k.number

abbrev pub five : ℕ → ℕ → ℕ → ℕ → ℕ → LockPoints
five a b c d e = record { upper = a; lower = b; level1 = c; level2 = d; level3 = e }

abbrev pub start : LockPoints → ℕ → Start
start s n = record { packet = grant; points = s; number = n }

unfoldable pub starts : List Start
starts =
    start lock no_refusal
    ∷ start (five 0 1 2 3 last_point) no_refusal
    -- a point over 63, in each place
    ∷ start (five 64 11 20 21 22) malformed
    ∷ start (five 10 64 20 21 22) malformed
    ∷ start (five 10 11 64 21 22) malformed
    ∷ start (five 10 11 20 64 22) malformed
    ∷ start (five 10 11 20 21 64) malformed
    -- two equal points, of each pair
    ∷ start (five 10 10 20 21 22) malformed
    ∷ start (five 10 11 10 21 22) malformed
    ∷ start (five 10 11 20 10 22) malformed
    ∷ start (five 10 11 20 21 10) malformed
    ∷ start (five 10 11 11 21 22) malformed
    ∷ start (five 10 11 20 11 22) malformed
    ∷ start (five 10 11 20 21 11) malformed
    ∷ start (five 10 11 20 20 22) malformed
    ∷ start (five 10 11 20 21 20) malformed
    ∷ start (five 10 11 20 21 21) malformed
    -- not a grant
    ∷ record { packet = []; points = lock; number = malformed }
    ∷ record { packet = grant ++ (0 ∷ []); points = lock; number = malformed }
    ∷ []

-- ---- computed

pub chamber_cases : map runs cases ≡ map awaited cases
unfolding open_chamber cases runs awaited numbers hears new late
chamber_cases = refl

pub start-cases : map started starts ≡ map wanted starts
unfolding open_chamber starts started wanted
start-cases = refl
