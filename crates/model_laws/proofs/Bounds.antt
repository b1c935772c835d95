-- What the tests of the rules say, and what fits 32 bits.
--     between          a number is between two
--     entry_ordered    low ≤ fallback ≤ high in an entry of a plan
--     range_bounds     a value in range is from low to high
--     sum_bounds       a sum in range is from low to high
--     part_bounds      an argument of part is 0 to 1000
--     part_scaled      what part divides by 1000 is at most 1000 times the range
--     nearest-most     the nearest quotient of at most s times 1000 is at most s
--     part_between     a part of at most 1000 is from low to the greater of low and high, by each version
-- Assumes nothing.
use Prim.Native.Nat.{ℕ, ◌+◌, ◌-◌, ◌*◌, ◌/◌, ◌%◌, ◌≤◌, ◌<◌}
use mathlib.Core.Path.{◌≡◌}
use mathlib.Core.Bool.{true, ◌&&◌}
use native.Mathlib.Omega.{arith}
use native.Mathlib.Nat.{mul-le-mul_left}
use borrow.Author.Tests.{leb-true, ltb-true}
use lib.Dec.{leb, ltb}
use Rattle.model_laws.proofs.Tests.{and_left, and_right, choose}
use Rattle.model_laws.proofs.Commands.{in_arguments_lem}
use Rattle.model.specs.declared.PlanEntry.{PlanEntry}
use Rattle.model.specs.Numbers.{half, nearest}
use Rattle.model.specs.Versions.{Version, first, second, third}
use Rattle.model.specs.Limits.{last_server, part_op, whole_part}
use Rattle.model.specs.Plan.{in_range, plan_entry_ok}
use Rattle.model.specs.Rules.{rounded, sum_in_range, argument_ok, argument_range}

-- a number between two
pub between : (a b c d : ℕ) → (leb a b && leb c d) ≡ true → (a ≤ b) × (c ≤ d)
between a b c d e = (leb-true a b (and_left (leb a b) (leb c d) e), leb-true c d (and_right (leb a b) (leb c d) e))

pub entry_ordered : (e : PlanEntry) → plan_entry_ok e ≡ true → (e.low ≤ e.fallback) × (e.fallback ≤ e.high)
unfolding plan_entry_ok
entry_ordered e h = between e.low e.fallback e.fallback e.high (and_right (leb e.home last_server) _ h)

pub range_bounds : (e : PlanEntry) (a : ℕ) → in_range e a ≡ true → (e.low ≤ a) × (a ≤ e.high)
unfolding in_range
range_bounds e a h = between e.low a a e.high h

pub sum_bounds : (e : PlanEntry) (v a : ℕ) → sum_in_range e v a ≡ true → (e.low + half ≤ v + a) × (v + a ≤ e.high + half)
unfolding sum_in_range
sum_bounds e v a h = between (e.low + half) (v + a) (v + a) (e.high + half) h

pub part_bounds : (a : ℕ) → argument_ok part_op a ≡ true → (half ≤ a) × (a ≤ half + whole_part)
unfolding argument_ok argument_range
part_bounds a h = in_arguments_lem (argument_range part_op) a h

pub part_scaled : (span : ℕ) {p : ℕ} (a : ℕ) → p ≡ a - half → argument_ok part_op a ≡ true → span * p ≤ span * whole_part
part_scaled span a e h = let b = part_bounds a h in mul-le-mul_left span (omega arith)

pub nearest-most : (m s : ℕ) → m ≤ s * whole_part → nearest m whole_part ≤ s
unfolding nearest
nearest-most m s h =
    let twice = 2 * (m % whole_part) + m / whole_part % 2 in
    choose (λ (q : ℕ). q ≤ s) (ltb whole_part twice) (λ k. let u : whole_part < twice = ltb-true whole_part twice k in omega arith) (λ k. omega arith)

nearest_between : (low high p : ℕ) → p ≤ whole_part → low + nearest ((high - low) * p) whole_part ≤ low + (high - low)
nearest_between low high p h =
    let q = nearest-most ((high - low) * p) (high - low) (mul-le-mul_left (high - low) h) in
    omega arith

pub part_between : (n : Version) (low high p : ℕ) → p ≤ whole_part → low + rounded n ((high - low) * p) whole_part ≤ low + (high - low)
part_between first low high p h = let q : (high - low) * p ≤ (high - low) * whole_part = mul-le-mul_left (high - low) h in omega arith
part_between second low high p h = nearest_between low high p h
part_between third low high p h = nearest_between low high p h
