-- A result by its form.
--     size-least      it has at least the bytes of the first form
--     size-timed      with a time it has that time's bytes too
-- Assumes nothing.
use Prim.Native.Nat.{ℕ, ◌≤◌}
use mathlib.Core.Path.{◌≡◌}
use mathlib.Core.Bool.{Bool, true, false, false≢true}
use native.Mathlib.Omega.{arith}
use Rattle.model.specs.Limits.{first_result_size, result_size}
use Rattle.model.specs.Packets.{result_size_of}

pub size-least : (timed : Bool) (n : ℕ) → result_size_of timed ≤ n → first_result_size ≤ n
unfolding result_size_of
size-least true n h = omega arith
size-least false n h = h

pub size-timed : (timed : Bool) (n : ℕ) → result_size_of timed ≤ n → timed ≡ true → result_size ≤ n
unfolding result_size_of
size-timed true n h e = h
size-timed false n h e = absurd (false≢true e)
