-- The sequential specification (paper: the book): the six ops' rules over the integers, and a run over an order of entries.
-- It knows the plan and the commands alone, nothing of servers. Each command carries the version of its op's rule
-- that it was executed by.
-- Assumes nothing.
use Rattle.std.specs.Prelude.{ℕ, suc, ◌/◌, ◌≤◌, ◌≡◌, ◌≢◌, Bool, ◌&&◌, List, [], ◌∷◌, map, eqb, ℤ, pos, negsuc, ◌+ℤ◌, ◌-ℤ◌, ◌*ℤ◌, neg_ℤ}
use Rattle.std.specs.Int.Signed.{le_z}
use Rattle.model.specs.declared.PlanEntry.{PlanEntry}
use Rattle.model.specs.declared.Reading.{Reading}
use Rattle.model.specs.declared.CommandResult.{CommandResult}
use Rattle.model.specs.declared.Command.{Command}
use Rattle.model.specs.Choice.{pick}
use Rattle.model.specs.Numbers.{signed, nearest}
use Rattle.model.specs.Plan.{entry_at}
use Rattle.model.specs.Limits.{read_op, set_op, step_op, report_op, fault_op, part_op, whole_part, carried_out, out_of_range, on_invalid, fell_back, stopped, valid, invalid}
use Rattle.model.specs.Versions.{Version, first, second, third, Versions, set_quality, part_quality}

-- ---- over the integers

pub record EntryZ : Type 0 where
  pub low : ℤ
  pub high : ℤ
  pub fallback : ℤ

pub record ReadingZ : Type 0 where
  pub value : ℤ
  pub quality : ℕ

pub record ResultZ : Type 0 where
  pub outcome : ℕ
  pub value : ℤ
  pub quality : ℕ

abbrev pub reading_z : ℤ → ℕ → ReadingZ
reading_z v q = record { value = v; quality = q }

abbrev pub result_z : ℕ → ℤ → ℕ → ResultZ
result_z n v q = record { outcome = n; value = v; quality = q }

-- what the kernel's numbers stand for
unfoldable pub entry_z : PlanEntry → EntryZ
entry_z e = record { low = signed e.low; high = signed e.high; fallback = signed e.fallback }

unfoldable pub reading_meant : Reading → ReadingZ
reading_meant r = reading_z (signed r.value) r.quality

unfoldable pub result_meant : CommandResult → ResultZ
result_meant r = result_z r.outcome (signed r.value) r.quality

-- a value and quality after a result
unfoldable pub after_z : ResultZ → ReadingZ
after_z r = reading_z r.value r.quality

unfoldable pub in_range_z : EntryZ → ℤ → Bool
in_range_z e a = le_z e.low a && le_z a e.high

-- the quotient by n, rounded down
unfoldable pub quotient_down : ℤ → ℕ → ℤ
quotient_down (pos m) n = pos (m / n)
quotient_down (negsuc m) n = negsuc (m / n)

-- how far an integer is from 0, and how far two are apart
abbrev pub absolute : ℤ → ℕ
absolute (pos m) = m
absolute (negsuc m) = suc m

abbrev pub distance : ℤ → ℤ → ℕ
distance x y = absolute (x -ℤ y)

-- an even integer
abbrev pub Even : ℤ → Type 0
Even q = (k : ℤ) × (q ≡ k +ℤ k)

-- q is the integer nearest to x / n: no multiple of n is nearer to x than q × n; where another is as near, q is even
pub record Nearest (x : ℤ) (n : ℕ) (q : ℤ) : Type 0 where
  pub near : (p : ℤ) → distance x (q *ℤ pos n) ≤ distance x (p *ℤ pos n)
  pub even : (p : ℤ) → p ≢ q → distance x (p *ℤ pos n) ≡ distance x (q *ℤ pos n) → Even q

-- that integer, computed: for every n above 0 `Nearest x n` holds of it and of no other (format_commands: Nearest)
unfoldable pub quotient_nearest : ℤ → ℕ → ℤ
quotient_nearest (pos m) n = pos (nearest m n)
quotient_nearest (negsuc m) n = neg_ℤ (pos (nearest (suc m) n))

-- ---- the six ops

-- 0 read: outcome 0, no change
unfoldable pub read_z : ReadingZ → ResultZ
read_z r = result_z carried_out r.value r.quality

-- 1 set: the value a, with the quality that the version says, outcome 0; where a is out of range nothing changes, outcome 1
unfoldable pub set_z : Version → EntryZ → ℤ → ReadingZ → ResultZ
set_z n e a r = pick (in_range_z e a) (result_z carried_out a (set_quality n)) (result_z out_of_range r.value r.quality)

-- a step whose sum is past an end of the range: by the first version nothing changes, outcome 1; by the second the value is that end, outcome 4
unfoldable pub past_end_z : Version → EntryZ → ℤ → ReadingZ → ResultZ
past_end_z first e sum r = result_z out_of_range r.value r.quality
past_end_z second e sum r = result_z stopped (pick (le_z e.low sum) e.high e.low) r.quality
past_end_z third e sum r = result_z stopped (pick (le_z e.low sum) e.high e.low) r.quality

-- 2 step: adds a where the sum is in range, outcome 0; nothing changes on an invalid value, outcome 2; the quality stays
unfoldable pub step_z : Version → EntryZ → ℤ → ReadingZ → ResultZ
step_z n e a r =
    pick (eqb r.quality invalid) (result_z on_invalid r.value r.quality)
    (pick (in_range_z e (r.value +ℤ a)) (result_z carried_out (r.value +ℤ a) r.quality) (past_end_z n e (r.value +ℤ a) r))

-- 3 report: a value a in range is valid, outcome 0; else the fallback, invalid, outcome 3
unfoldable pub report_z : EntryZ → ℤ → ResultZ
report_z e a = pick (in_range_z e a) (result_z carried_out a valid) (result_z fell_back e.fallback invalid)

-- 4 fault: value = fallback, quality 1, outcome 3
unfoldable pub fault_z : EntryZ → ResultZ
fault_z e = result_z fell_back e.fallback invalid

-- the quotient of part: by the first version rounded down, by the second to the nearest
unfoldable pub rounded_z : Version → ℤ → ℕ → ℤ
rounded_z first x n = quotient_down x n
rounded_z second x n = quotient_nearest x n
rounded_z third x n = quotient_nearest x n

-- 5 part: the value that lies a thousandths of the way from low to high, rounded as the version says before low is added, with the quality that the version
-- says, outcome 0
unfoldable pub part_z : Version → EntryZ → ℤ → ResultZ
part_z n e a = result_z carried_out (e.low +ℤ rounded_z n ((e.high -ℤ e.low) *ℤ a) whole_part) (part_quality n)

-- by the version of the op's rule; commands have no other op, and one would change nothing
unfoldable pub rule_z : Version → EntryZ → ℕ → ℤ → ReadingZ → ResultZ
rule_z n e op a r =
    pick (eqb op read_op) (read_z r)
    (pick (eqb op set_op) (set_z n e a r)
    (pick (eqb op step_op) (step_z n e a r)
    (pick (eqb op report_op) (report_z e a)
    (pick (eqb op fault_op) (fault_z e)
    (pick (eqb op part_op) (part_z n e a) (result_z out_of_range r.value r.quality))))))

-- ---- the run

-- a command with the version of its op's rule that it was executed by
pub record Marked : Type 0 where
  pub version : Version
  pub command : Command

-- a command as a program that executes by v marks it
abbrev pub marked_by : Versions → Command → Marked
marked_by v k = record { version = v.rule k.op; command = k }

-- each point's value and quality, as the paper's book has them at a place of an order
abbrev pub Values : Type 0
Values = ℕ → ReadingZ

-- first fallback and quality 1
unfoldable pub opened : List PlanEntry → Values
opened plan p = reading_z (entry_z (entry_at plan p)).fallback invalid

-- the answer to a command
unfoldable pub answer_z : List PlanEntry → Values → Marked → ResultZ
answer_z plan b m =
    rule_z m.version (entry_z (entry_at plan m.command.point)) m.command.op (signed m.command.argument) (b m.command.point)

-- a command changes only its point
unfoldable pub entered : List PlanEntry → Values → Marked → Values
entered plan b m p = pick (eqb p m.command.point) (after_z (answer_z plan b m)) (b p)

-- an entry of an order: commands with one place in it, its parts
pub data OrderEntry : Type 0 where
  single : Marked → OrderEntry

unfoldable pub parts : OrderEntry → List Marked
parts (single m) = m ∷ []

unfoldable pub commands : OrderEntry → List Command
commands e = map (λ (m : Marked). m.command) (parts e)

-- the answer to an entry
pub data EntryResult : Type 0 where
  one : ResultZ → EntryResult

unfoldable pub answer_to : List PlanEntry → Values → OrderEntry → EntryResult
answer_to plan b (single m) = one (answer_z plan b m)

-- the values once an entry is entered
unfoldable pub values_with : List PlanEntry → Values → OrderEntry → Values
values_with plan b (single m) = entered plan b m

-- the values after an order of entries, from b
unfoldable pub values_after : List PlanEntry → Values → List OrderEntry → Values
values_after plan b [] = b
values_after plan b (e ∷ es) = values_after plan (values_with plan b e) es

-- `Answers plan b es ks r`: run over es from b, the answer to the entry of the commands ks is r
pub data Answers (plan : List PlanEntry) : Values → List OrderEntry → List Command → EntryResult → Type 0 where
  here : {b : Values} {e : OrderEntry} {es : List OrderEntry} → Answers plan b (e ∷ es) (commands e) (answer_to plan b e)
  later : {b : Values} {e : OrderEntry} {ks : List Command} {es : List OrderEntry} {r : EntryResult}
      → Answers plan (values_with plan b e) es ks r → Answers plan b (e ∷ es) ks r
