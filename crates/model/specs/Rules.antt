-- The rule of each op on a point's value and quality, on numbers kept as x + 2 ^ 31.
-- The same over the integers is Sequential.
-- Assumes nothing.
use Rattle.std.specs.Prelude.{ℕ, ◌+◌, ◌-◌, ◌*◌, ◌/◌, Bool, ◌&&◌, List, [], ◌∷◌, get_or, eqb, leb}
use Rattle.model.specs.declared.PlanEntry.{PlanEntry}
use Rattle.model.specs.declared.Reading.{Reading}
use Rattle.model.specs.declared.CommandResult.{CommandResult}
use Rattle.model.specs.declared.ArgumentRange.{ArgumentRange}
use Rattle.model.specs.Choice.{pick}
use Rattle.model.specs.Numbers.{half, nearest}
use Rattle.model.specs.Plan.{in_range}
use Rattle.model.specs.Limits.{last32, read_op, set_op, step_op, report_op, fault_op, part_op, whole_part, carried_out, out_of_range, on_invalid, fell_back, stopped, valid, invalid}
use Rattle.model.specs.Versions.{Version, first, second, third, set_quality, part_quality}

-- the arguments from one to another
abbrev pub arguments : ℕ → ℕ → ArgumentRange
arguments least greatest = record { least = least; greatest = greatest }

-- by op: read 0; set, step and report any; fault 0; part 0 to 1000
abbrev pub argument_ranges : List ArgumentRange
argument_ranges =
    arguments half half
    ∷ arguments 0 last32
    ∷ arguments 0 last32
    ∷ arguments 0 last32
    ∷ arguments half half
    ∷ arguments half (half + whole_part)
    ∷ []

-- an op past the last has no argument: its range is empty
abbrev pub no_arguments : ArgumentRange
no_arguments = arguments 1 0

unfoldable pub argument_range : ℕ → ArgumentRange
argument_range op = get_or argument_ranges op no_arguments

unfoldable pub in_arguments : ArgumentRange → ℕ → Bool
in_arguments r a = leb r.least a && leb a r.greatest

unfoldable pub argument_ok : ℕ → ℕ → Bool
argument_ok op a = in_arguments (argument_range op) a

-- outcome n, value v, quality q; a rule knows no clock: the server that executes writes the time in
abbrev pub command_result : ℕ → ℕ → ℕ → CommandResult
command_result n v q = record { outcome = n; value = v; quality = q; time = 0 }

-- outcome n, no change
abbrev pub same : ℕ → Reading → CommandResult
same n r = command_result n r.value r.quality

-- value + a is in range
unfoldable pub sum_in_range : PlanEntry → ℕ → ℕ → Bool
sum_in_range e v a = leb (e.low + half) (v + a) && leb (v + a) (e.high + half)

unfoldable pub set_rule : Version → PlanEntry → ℕ → Reading → CommandResult
set_rule n e a r = pick (in_range e a) (command_result carried_out a (set_quality n)) (same out_of_range r)

-- the end of the range that value + a is past
abbrev pub end_past : PlanEntry → ℕ → ℕ → ℕ
end_past e v a = pick (leb (e.low + half) (v + a)) e.high e.low

-- a step past an end: by the first version nothing changes, by the second the value is put at that end
abbrev pub past_end : Version → PlanEntry → ℕ → Reading → CommandResult
past_end first e a r = same out_of_range r
past_end second e a r = command_result stopped (end_past e r.value a) r.quality
past_end third e a r = command_result stopped (end_past e r.value a) r.quality

unfoldable pub step_rule : Version → PlanEntry → ℕ → Reading → CommandResult
step_rule n e a r =
    pick (eqb r.quality invalid) (same on_invalid r)
    (pick (sum_in_range e r.value a) (command_result carried_out (r.value + a - half) r.quality) (past_end n e a r))

-- a value that was measured: valid by every version
unfoldable pub report_rule : PlanEntry → ℕ → Reading → CommandResult
report_rule e a r = pick (in_range e a) (command_result carried_out a valid) (command_result fell_back e.fallback invalid)

unfoldable pub fault_rule : PlanEntry → CommandResult
fault_rule e = command_result fell_back e.fallback invalid

-- the quotient of m by n: by the first version rounded down, by the second to the nearest
abbrev pub rounded : Version → ℕ → ℕ → ℕ
rounded first m n = m / n
rounded second m n = nearest m n
rounded third m n = nearest m n

unfoldable pub part_rule : Version → PlanEntry → ℕ → CommandResult
part_rule n e a = command_result carried_out (e.low + rounded n ((e.high - e.low) * (a - half)) whole_part) (part_quality n)

-- by the version of the op's rule; another op is refused before (malformed)
unfoldable pub rule_of : Version → PlanEntry → ℕ → ℕ → Reading → CommandResult
rule_of n e op a r =
    pick (eqb op read_op) (same carried_out r)
    (pick (eqb op set_op) (set_rule n e a r)
    (pick (eqb op step_op) (step_rule n e a r)
    (pick (eqb op report_op) (report_rule e a r)
    (pick (eqb op fault_op) (fault_rule e)
    (pick (eqb op part_op) (part_rule n e a) (same out_of_range r))))))
