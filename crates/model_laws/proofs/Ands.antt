-- A chain of && walked test by test, as a function with early returns walks it; `search ands depth N` walks it all.
--     stop, go             the flag u of a call that ensures u ≡ t is false, or true
--     stop_test, go_test   the test itself is
-- Assumes nothing.
use mathlib.Core.Path.{◌≡◌, sym, ◌∙◌}
use mathlib.Core.Bool.{Bool, true, false, ◌&&◌}
use borrow.Author.Tests.{not-true, not-false, lt-leb, le-leb}

pub stop_test : {t : Bool} (b : Bool) → t ≡ false → false ≡ (t && b)
stop_test b e = rw e

pub go_test : {t b r : Bool} → t ≡ true → r ≡ b → r ≡ (t && b)
go_test e q = rw e q

pub stop : {t u : Bool} (b : Bool) → u ≡ t → u ≡ false → false ≡ (t && b)
stop b p e = stop_test b (sym p ∙ e)

pub go : {t u b r : Bool} → u ≡ t → u ≡ true → r ≡ b → r ≡ (t && b)
go p e q = go_test (sym p ∙ e) q

pub ruleset ands = (stop, go, stop_test, go_test, not-true, not-false, lt-leb, le-leb)
