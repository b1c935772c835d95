-- Refusals by their numbers.
--     number-least, number-most, number-some     a refusal's number is of 1 to 21, and not 0
--     ok-passed                                  whether tests are passed
--     exit                                       what the exit of a `?` returns
-- Assumes nothing.
use Prim.Native.Nat.{◌≤◌}
use mathlib.Core.Path.{◌≡◌, refl, sym, ap}
use native.Mathlib.Omega.{arith}
use lib.Dec.{eqb}
use borrow.Author.Tests.{ne_eqb}
use Rattle.std.specs.Prelude.{Result, Ok, Err}
use Rattle.std.specs.Result.{IsErrAnd, is_ok}
use Rattle.model.specs.Refusals.{no_refusal, already_waiting}
use Rattle.model.specs.declared.Refusal.{Refusal}
use Rattle.model.specs.declared.Refusal.TheVariants.{Malformed, TooShort, NotHeld, LeaseOver, UnderFloor, OtherCommand, NotSynced, ClientsFull, LogFull, BadMark, WrongDestination, OldMove, AlreadyHeld, BadLog, WindowFull, NumbersOut, Unknown, LeasesFull, Unsound, NotSafe, AlreadyWaiting}
use Rattle.refusals.specs.Numbers.{number_of, refusal_of}

pub number-least : (e : Refusal) → 1 ≤ number_of e
number-least Malformed = omega arith
number-least TooShort = omega arith
number-least NotHeld = omega arith
number-least LeaseOver = omega arith
number-least UnderFloor = omega arith
number-least OtherCommand = omega arith
number-least NotSynced = omega arith
number-least ClientsFull = omega arith
number-least LogFull = omega arith
number-least BadMark = omega arith
number-least WrongDestination = omega arith
number-least OldMove = omega arith
number-least AlreadyHeld = omega arith
number-least BadLog = omega arith
number-least WindowFull = omega arith
number-least NumbersOut = omega arith
number-least Unknown = omega arith
number-least LeasesFull = omega arith
number-least Unsound = omega arith
number-least NotSafe = omega arith
number-least AlreadyWaiting = omega arith

pub number-most : (e : Refusal) → number_of e ≤ already_waiting
number-most Malformed = omega arith
number-most TooShort = omega arith
number-most NotHeld = omega arith
number-most LeaseOver = omega arith
number-most UnderFloor = omega arith
number-most OtherCommand = omega arith
number-most NotSynced = omega arith
number-most ClientsFull = omega arith
number-most LogFull = omega arith
number-most BadMark = omega arith
number-most WrongDestination = omega arith
number-most OldMove = omega arith
number-most AlreadyHeld = omega arith
number-most BadLog = omega arith
number-most WindowFull = omega arith
number-most NumbersOut = omega arith
number-most Unknown = omega arith
number-most LeasesFull = omega arith
number-most Unsound = omega arith
number-most NotSafe = omega arith
number-most AlreadyWaiting = omega arith

pub number-some : (e : Refusal) → number_of e ≡ no_refusal → ⊥
number-some e z = omega (arith, number-least e)

-- whether tests are passed
pub ok-passed : {A : Type 0} (o : Result A Refusal) → is_ok o ≡ eqb (refusal_of o) no_refusal
ok-passed (Ok x) = refl
ok-passed (Err e) = sym (ne_eqb (number_of e) no_refusal (number-some e))

-- the exit of a `?`: what it returns
pub exit : {A E : Type 0} (r : Result A E) {y : E} → IsErrAnd r (λ x. x ≡ y) → r ≡ Err y
exit (Ok x) h = absurd h
exit (Err x) h = ap Err h
